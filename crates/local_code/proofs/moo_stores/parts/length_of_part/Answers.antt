use Rattle.std.proofs.Common.{◌≡◌, ◌∙◌, ap, sym, suc, ◌-◌, arith}
use Rattle.spec_moo.specs.Effects.Lists.{length_in}
use Rattle.local_code.specs.Targets.{part_answer}
use Rattle.moo_task.specs.Shown.{answered_of}
use Rattle.local_code.specs.Putting.{held_in}
use Rattle.local_code.proofs.MooStoresStoring.{length_is}
use Rattle.local_code.proofs.moo_stores.parts.length_of_part.Goals as goal

pub returns : goal.returns
returns c a x h =
    let s = c.args.state.now in
    let paid : s.ticks ≡ suc (s.ticks - 1) = omega arith in
    length_is a c.args.call.now s c.args.slot x c.args.brackets.now h c.args.height (s.ticks - 1) paid
    ∙ ap (λ vs. answered_of a c.args.call.now (length_in (part_answer (held_in s.slots.items c.args.slot) c.args.brackets.now vs)) (record s { ticks = s.ticks - 1 }))
    (sym c.above-values.ensures)
    ∙ ap (λ slots. answered_of a c.args.call.now (length_in (part_answer (held_in slots c.args.slot) c.args.brackets.now c.above-values.result.now)) (record s { ticks = s.ticks - 1 }))
    (sym c.as_slice.ensures.value)
    ∙ ap (λ r. answered_of a c.args.call.now r (record s { ticks = s.ticks - 1 })) (sym c.in_ok-answer.ensures)
    ∙ c.in_ok-did.ensures a
