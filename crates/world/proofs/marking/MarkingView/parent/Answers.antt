use Rattle.std.proofs.Common.{w32}
use Rattle.std.proofs.lemmas.Int.{to_z-of_z}
use Rattle.world.proofs.Goings.{goes_by_parent, stays_if_told}
use Rattle.world.proofs.marking.MarkingView.parent.Goals as goal

pub returns-clause-left : goal.returns-clause-left
returns-clause-left c =
    let object = to_z-of_z w32 c.args.object c.ranges.object in
    goes_by_parent c.parent_now.result _ _ _ c.parent_now.ensures.known.0 (rw object at c.parent_now.ensures.told) (rw object at c.parent_now.ensures.parent)

pub returns-clause-kept : goal.returns-clause-kept
returns-clause-kept c =
    let object = to_z-of_z w32 c.args.object c.ranges.object in
    stays_if_told c.parent_now.result _ _ _ (rw object at c.parent_now.ensures.told)
