use Rattle.std.proofs.Common.{◌<◌, length, arith}
use Rattle.world_table.proofs.Revising.{ok_as, revised_by, block_revises}
use Rattle.world_table.proofs.Rows.{child_branch, row_set}
use Rattle.world_table.proofs.place.Place.+revise.Goals as goal

pub invariant_of-self-in-Block : goal.invariant_of-self-in-Block
invariant_of-self-in-Block g t c =
    let sound = rw c.in-Block.is at c.self.invariant in
    let row = rw (← c.in-Some.ensures.value) at sound.1 in
    let inside : c.index_of-at.result < length c.in-Some.own.now.items = omega (arith, c.in-Some.own.now.ok) in
    let child = child_branch _ _ _ _ row.branches inside c.index_mut.ensures.value in
    let kept = revised_by (g.E.Revision.makes c.args.revision.now) _ c.args.key c.revise.result _ c.revise.new.self child c.revise.ensures.height c.revise.ensures.done c.revise.ensures.left c.revise.ensures.err in
    (sound.0, row_set _ _ _ _ row inside kept)

pub returns-in-Block-clause-done : goal.returns-in-Block-clause-done
returns-in-Block-clause-done g t c =
    let sound = rw c.in-Block.is at c.self.invariant in
    let row = rw (← c.in-Some.ensures.value) at sound.1 in
    let inside : c.index_of-at.result < length c.in-Some.own.now.items = omega (arith, c.in-Some.own.now.ok) in
    let whole = rw (← c.in-Some.ensures.value) at (rw c.in-Block.is at c.self.view_is) in
    ok_as _ _
    (λ b did so. block_revises (g.E.Revision.makes c.args.revision.now) _ _ _ _ _ _ _ row.branches c.index_of-at.ensures.value inside c.index_mut.ensures.value whole (did so))
    c.revise.result c.revise.ensures.done
