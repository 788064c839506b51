use Rattle.std.proofs.Common.{ap, ◌∙◌}
use Rattle.std.specs.Prelude.{slice_get}
use Rattle.moo_code.specs.Slots.{in_slot}
use Rattle.moo_program.specs.Names.{known}
use Rattle.moo_task.proofs.LookedUp.{in_its_slot, without_slot}
use Rattle.moo_task.proofs.moo_forks.lookup.Variables.find.Goals as goal

pub returns-in-Some : goal.returns-in-Some
returns-in-Some c =
    let v = c.args.self.now in
    let f = v.frame.now in
    c.value_in.ensures ∙ ap (λ ss. in_slot (slice_get ss c.in-Some.slot)) c.deref.ensures.value
    ∙ in_its_slot f.program f.further f.state.slots.items c.args.name.now (known v.slots) c.in-Some.slot v.slots_are c.in-Some.ensures

pub returns-in-None : goal.returns-in-None
returns-in-None c =
    let v = c.args.self.now in
    let f = v.frame.now in
    c.find.ensures ∙ without_slot f.program f.further v.further f.state.slots.items c.args.name.now (known v.slots) v.slots_are v.further_are c.in-None.ensures
