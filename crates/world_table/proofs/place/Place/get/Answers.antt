-- The branch at the key's place has what the block has there.
use Rattle.std.proofs.Common.{refl, ◌∙◌, ap, ◌%◌, ◌<◌, ◌≤◌, length, arith}
use Rattle.std.specs.Arc.{arc_value}
use Rattle.std.specs.Ordering.{nat_cmp}
use Rattle.std.specs.FinMap.{find}
use Rattle.world_table.specs.Branch.{Branch, reach}
use Rattle.world_table.proofs.Rows.{find_there, find_behind}
use Rattle.world_table.proofs.place.Place.get.Goals as goal

pub loop-place-init : goal.loop-place-init
loop-place-init g c = refl

pub loop-place-preserved : goal.loop-place-preserved
loop-place-preserved g c =
    let sound = rw c.in-Block.is at c.place.invariant in
    let inside : c.index_of-at.result < length (arc_value c.in-Block.places).items = omega (arith, (arc_value c.in-Block.places).ok, rw c.deref.ensures at c.len.ensures) in
    find_there c.in-Block.below c.args.key _ _ _ sound.1.branches c.index_of-at.ensures.value inside (rw c.deref-in-Block.ensures at c.index-place.ensures)
    ∙ ap (λ (b : Branch g.row.R.Denot). find nat_cmp (c.args.key % reach b.height) b.entries) (rw c.in-Block.is at c.place.view_is)
    ∙ c.loop-place.invariant

pub returns-then-at-len : goal.returns-then-at-len
returns-then-at-len g c =
    let sound = rw c.in-Block.is at c.place.invariant in
    let behind : length (arc_value c.in-Block.places).items ≤ c.index_of-at.result = omega (arith, (arc_value c.in-Block.places).ok, rw c.deref.ensures at c.len.ensures) in
    find_behind c.in-Block.below c.args.key _ _ sound.1.branches c.index_of-at.ensures.value behind
    ∙ ap (λ (b : Branch g.row.R.Denot). find nat_cmp (c.args.key % reach b.height) b.entries) (rw c.in-Block.is at c.place.view_is)
    ∙ c.loop-place.invariant
