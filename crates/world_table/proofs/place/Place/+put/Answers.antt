use Rattle.std.proofs.Common.{◌≡◌, ◌+◌, ◌%◌, ◌<◌, length, ap, ◌∙◌, arith}
use Rattle.std.proofs.lemmas.Result.{on_ok_weaker}
use Rattle.std.specs.Arc.{arc_value}
use Rattle.std.specs.Ordering.{nat_cmp}
use Rattle.std.specs.FinMap.{put}
use Rattle.world_table.specs.Branch.{Branch, reach, joined}
use Rattle.world_table.proofs.Rows.{child_branch, put_kept, put_within, row_alike, row_set}
use Rattle.world_table.proofs.place.Place.+put.Goals as goal

pub invariant_of-self : goal.invariant_of-self
invariant_of-self g t c =
    let sound = rw c.in-Block.is at c.self.invariant in
    let row = rw (← c.in-Some.ensures.value) at sound.1 in
    (sound.0, row_alike _ _ _ row c.widen.ensures.alike (c.widen.ensures.within row.size))

pub put-requires : goal.put-requires
put-requires g t c κs within =
    let sound = rw c.in-Block.is at c.self.invariant in
    let row = rw (← c.in-Some.ensures.value) at sound.1 in
    let wide = row_alike _ _ _ row c.widen.ensures.alike (c.widen.ensures.within row.size) in
    let inside : c.index_of-at.result < length c.widen.new.places.items = omega (arith, c.widen.new.places.ok, c.in_ok-widen.ensures.reaches) in
    let up : c.in-Block.below + 1 ≡ c.args.levels = c.if-below-levels.true in
    (omega arith, (within, (child_branch _ _ _ _ wide.branches inside c.index_mut.ensures.value, (omega arith, omega arith))))

pub invariant_of-self-2 : goal.invariant_of-self-2
invariant_of-self-2 g t c =
    let sound = rw c.in-Block.is at c.self.invariant in
    let row = rw (← c.in-Some.ensures.value) at sound.1 in
    let wide = row_alike _ _ _ row c.widen.ensures.alike (c.widen.ensures.within row.size) in
    let inside : c.index_of-at.result < length c.widen.new.places.items = omega (arith, c.widen.new.places.ok, c.in_ok-widen.ensures.reaches) in
    let child = child_branch _ _ _ _ wide.branches inside c.index_mut.ensures.value in
    let made = c.put.ensures in
    (sound.0, row_set _ _ _ _ wide inside (put_kept c.put.result _ c.args.key _ _ c.put.new.self child made.height made.entries made.err))

pub returns-clause-entries : goal.returns-clause-entries
returns-clause-entries g t c =
    let sound = rw c.in-Block.is at c.self.invariant in
    let row = rw (← c.in-Some.ensures.value) at sound.1 in
    let wide = row_alike _ _ _ row c.widen.ensures.alike (c.widen.ensures.within row.size) in
    let inside : c.index_of-at.result < length c.widen.new.places.items = omega (arith, c.widen.new.places.ok, c.in_ok-widen.ensures.reaches) in
    let whole = rw (← c.in-Some.ensures.value) at (rw c.in-Block.is at c.self.view_is) in
    let es : joined (reach c.in-Block.below) 0 c.widen.new.places.items ≡ c.args.self.now.entries =
    c.widen.ensures.alike.entries (reach c.in-Block.below) 0 ∙ ap (λ (b : Branch g.row.R.Denot). b.entries) whole in
    let step = λ (e : c.put.new.self.entries ≡ put nat_cmp (c.args.key % reach c.in-Block.below) (arc_value c.args.value) c.index_mut.result.now.entries).
    put_within c.in-Block.below c.args.levels c.args.key c.index_of-at.result (arc_value c.args.value) c.widen.new.places.items c.put.new.self c.index_mut.result.now c.args.self.now.entries
    c.if-below-levels.true wide.branches c.index_of-at.ensures.value inside c.index_mut.ensures.value es e in
    on_ok_weaker c.put.result step c.put.ensures.entries
