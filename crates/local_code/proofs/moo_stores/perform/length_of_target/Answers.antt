use Rattle.std.proofs.Common.{◌∙◌, ap, sym, []}
use Rattle.moo_code.specs.Instruction.{length_of, target_at, in_variable}
use Rattle.moo_code.specs.Names.{names_of}
use Rattle.moo_program.specs.Meaning.{bracketed, base_of, name_at, some_name_at}
use Rattle.moo_task.specs.Shown.{performs_of}
use Rattle.moo_task.proofs.Performing.{name_there}
use Rattle.local_code.proofs.moo_stores.perform.length_of_target.Goals as goal

pub returns : goal.returns
returns c a h =
    let s = c.args.state.now in
    let names = names_of a.program in
    let brackets = c.args.shape.now.brackets.items in
    ap (λ o. performs_of a c.args.call.now (length_of (target_at (bracketed brackets (base_of (some_name_at names o))) c.args.height)) [] s) c.in-Some.is
    ∙ ap (λ n. performs_of a c.args.call.now (length_of (target_at (bracketed brackets (in_variable (name_at names n))) c.args.height)) [] s) (sym c.in_ok-slot.ensures.slot)
    ∙ ap (λ bs. performs_of a c.args.call.now (length_of (target_at (bracketed bs (in_variable (name_at names c.in_ok-slot.slot))) c.args.height)) [] s) (sym c.as_slice.ensures.value)
    ∙ c.in_ok-did.ensures a (name_at names c.in_ok-slot.slot) (name_there a c.args.names c.in_ok-slot.slot h c.in_ok-slot.ensures.named)
