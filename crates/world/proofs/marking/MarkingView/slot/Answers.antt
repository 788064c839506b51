use Rattle.std.proofs.Common.{w32}
use Rattle.std.proofs.lemmas.Int.{to_z-of_z}
use Rattle.world.proofs.Goings.{goes_by_slot, stays_if_told}
use Rattle.world.proofs.marking.MarkingView.slot.Goals as goal

pub returns-clause-left : goal.returns-clause-left
returns-clause-left c =
    let object = to_z-of_z w32 c.args.object c.ranges.object in
    goes_by_slot c.slot_now.result _ _ _ _ c.slot_now.ensures.known.0 (rw object at c.slot_now.ensures.told) (rw object at c.slot_now.ensures.slot)

pub returns-clause-kept : goal.returns-clause-kept
returns-clause-kept c =
    let object = to_z-of_z w32 c.args.object c.ranges.object in
    stays_if_told c.slot_now.result _ _ _ (rw object at c.slot_now.ensures.told)
