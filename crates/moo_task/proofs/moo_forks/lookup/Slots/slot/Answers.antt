use Rattle.std.proofs.Common.{ap, ◌∙◌, arith}
use Rattle.moo_program.specs.Names.{known, found_place}
use Rattle.moo_task.proofs.LookedUp.{slot_first, slot_later}
use Rattle.moo_task.proofs.moo_forks.lookup.Slots.slot.Goals as goal

pub returns-then-place-lt17 : goal.returns-then-place-lt17
returns-then-place-lt17 c =
    slot_first c.args.self.now c.args.name.now c.slot_among-place.result c.slot_among-place.ensures (omega (arith, c.if-place-lt17.true))

pub returns : goal.returns
returns c =
    let x = c.args.name.now in
    c.copied.ensures ∙ c.get.ensures.value ∙ c.self.invariant x
    ∙ slot_later c.self.inside.own.now x c.slot_among-place.result c.slot_among-place.ensures (omega (arith, c.if-place-lt17.false))
    ∙ ap (λ ns. found_place (known ns) x) c.self.view_is
