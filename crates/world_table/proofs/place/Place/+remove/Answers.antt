use Rattle.std.proofs.Common.{◌≡◌, ℕ, ◌+◌, ◌<◌, ◌≤◌, List, length, set, take, sym, subst, ap, ◌∙◌, arith}
use Rattle.world_table.specs.Branch.{Branch, reach, joined, IsRow, IsAlike}
use Rattle.world_table.proofs.Rows.{child_branch, row_set, row_cut, set_is, without_branch, without_block, without_behind}
use Rattle.world_table.proofs.place.Place.+remove.Goals as goal

pub returns-then-at-len-clause-entries : goal.returns-then-at-len-clause-entries
returns-then-at-len-clause-entries g t c =
    let sound = rw c.in-Block.is at c.self.invariant in
    let row = rw (← c.in-Some.ensures.value) at sound.1 in
    let whole = rw (← c.in-Some.ensures.value) at (rw c.in-Block.is at c.self.view_is) in
    let behind : length c.in-Some.own.now.items ≤ c.index_of-at.result = omega (arith, c.in-Some.own.now.ok) in
    ap (λ (b : Branch g.row.R.Denot). b.entries) whole ∙ without_behind _ _ _ _ _ row.branches c.index_of-at.ensures.value behind whole

pub invariant_of-self-then-count-gt0 : goal.invariant_of-self-then-count-gt0
invariant_of-self-then-count-gt0 g t c =
    let sound = rw c.in-Block.is at c.self.invariant in
    let row = rw (← c.in-Some.ensures.value) at sound.1 in
    let inside : c.index_of-at.result < length c.in-Some.own.now.items = omega (arith, c.in-Some.own.now.ok) in
    let child = child_branch _ _ _ _ row.branches inside c.index_mut.ensures.value in
    let left = row_set _ _ _ _ row inside (without_branch _ _ _ _ child c.remove.ensures.height c.in_ok-remove.ensures.lower c.in_ok-remove.ensures.entries) in
    (sound.0, subst (IsRow c.in-Block.below) (sym c.truncate.ensures.items) (row_cut _ _ _ left))

pub returns-then-count-gt0-clause-entries : goal.returns-then-count-gt0-clause-entries
returns-then-count-gt0-clause-entries g t c =
    let sound = rw c.in-Block.is at c.self.invariant in
    let row = rw (← c.in-Some.ensures.value) at sound.1 in
    let inside : c.index_of-at.result < length c.in-Some.own.now.items = omega (arith, c.in-Some.own.now.ok) in
    let whole = rw (← c.in-Some.ensures.value) at (rw c.in-Block.is at c.self.view_is) in
    let alike = subst (λ (ds : List (Branch g.row.R.Denot)). IsAlike ds (take c.used-count.result ds)) c.deref.ensures.value c.used-count.ensures.alike in
    ap (joined (reach c.in-Block.below) 0) c.truncate.ensures.items
    ∙ alike.entries (reach c.in-Block.below) 0
    ∙ ap (joined (reach c.in-Block.below) 0) (set_is _ _ _ inside)
    ∙ without_block _ _ _ _ _ _ _ row.branches c.index_of-at.ensures.value inside c.index_mut.ensures.value c.in_ok-remove.ensures.entries whole

pub returns-then-count-gt0-clause-counted : goal.returns-then-count-gt0-clause-counted
returns-then-count-gt0-clause-counted g t c =
    let sound = rw c.in-Block.is at c.self.invariant in
    let row = rw (← c.in-Some.ensures.value) at sound.1 in
    let height : c.in-Block.below + 1 ≡ c.args.self.now.height = ap (λ (b : Branch g.row.R.Denot). b.height) (rw c.in-Block.is at c.self.view_is) in
    let inside : c.index_of-at.result < length c.in-Some.own.now.items = omega (arith, c.in-Some.own.now.ok) in
    let child = child_branch _ _ _ _ row.branches inside c.index_mut.ensures.value in
    let count : c.remove.new.builder.count ≤ c.args.builder.now.count + c.index_mut.result.now.height = c.in_ok-remove.ensures.counted in
    omega (arith, child.within)

pub returns-clause-entries : goal.returns-clause-entries
returns-clause-entries g t c =
    let sound = rw c.in-Block.is at c.self.invariant in
    let row = rw (← c.in-Some.ensures.value) at sound.1 in
    let inside : c.index_of-at.result < length c.in-Some.own.now.items = omega (arith, c.in-Some.own.now.ok) in
    let whole = rw (← c.in-Some.ensures.value) at (rw c.in-Block.is at c.self.view_is) in
    let alike = subst (λ (ds : List (Branch g.row.R.Denot)). IsAlike ds (take c.used-count.result ds)) c.deref.ensures.value c.used-count.ensures.alike in
    let none : 0 ≡ c.used-count.result = omega arith in
    ap (λ (b : Branch g.row.R.Denot). b.entries) c.nothing-2.view_is
    ∙ c.nothing.ensures.entries
    ∙ ap (λ (n : ℕ). joined (reach c.in-Block.below) 0 (take n (set c.in-Some.own.now.items c.index_of-at.result c.remove.new.self))) none
    ∙ alike.entries (reach c.in-Block.below) 0
    ∙ ap (joined (reach c.in-Block.below) 0) (set_is _ _ _ inside)
    ∙ without_block _ _ _ _ _ _ _ row.branches c.index_of-at.ensures.value inside c.index_mut.ensures.value c.in_ok-remove.ensures.entries whole

pub returns-clause-counted : goal.returns-clause-counted
returns-clause-counted g t c =
    let sound = rw c.in-Block.is at c.self.invariant in
    let row = rw (← c.in-Some.ensures.value) at sound.1 in
    let height : c.in-Block.below + 1 ≡ c.args.self.now.height = ap (λ (b : Branch g.row.R.Denot). b.height) (rw c.in-Block.is at c.self.view_is) in
    let inside : c.index_of-at.result < length c.in-Some.own.now.items = omega (arith, c.in-Some.own.now.ok) in
    let child = child_branch _ _ _ _ row.branches inside c.index_mut.ensures.value in
    let count : c.remove.new.builder.count ≤ c.args.builder.now.count + c.index_mut.result.now.height = c.in_ok-remove.ensures.counted in
    omega (arith, child.within)
