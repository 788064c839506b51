use Rattle.std.proofs.Common.{◌≡◌, ◌∙◌, ap, sym, ◌-◌, length, take, Some}
use Rattle.std.specs.Prelude.{slice_get}
use Rattle.std.specs.Arc.{arc_value}
use Rattle.std.specs.Option.{option_copied}
use Rattle.moo_task.specs.Effects.{waiting_of}
use Rattle.moo_task.specs.Frames.{kept_of, outers_of}
use Rattle.moo_task.specs.declared.frame.Outer.TheVariants.{Verb}
use Rattle.moo_task.proofs.Kept.{innermost_told}
use Rattle.moo_task.proofs.Stacks.{last_is_first}
use Rattle.moo_task.proofs.task.Task.call.Goals as goal

pub returns : goal.returns
returns c =
    let os = c.as_slice.result.now in
    let there : slice_get c.as_slice.result.now (length c.as_slice.result.now - 1) ≡ Some (Verb c.in-Some-Verb.frame) =
    sym c.last.ensures.value ∙ ap option_copied c.in-Some-Verb.is ∙ ap Some c.in-Some-Verb.field-0-is in
    innermost_told c.args.self.now c.self.inside.player (waiting_of c.self.inside.waiting) (kept_of c.in-Some-Verb.frame)
    (arc_value c.self.inside.verbs)
    (outers_of (take (length os - 1) os)) c.self.view_is c.self.invariant
    (sym c.deref.ensures ∙ sym c.as_slice.ensures ∙ last_is_first os (Verb c.in-Some-Verb.frame) there)
