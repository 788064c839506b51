use Rattle.std.proofs.Common.{◌≡◌, ℕ, ◌+◌, ◌<◌, ◌≤◌, List, length, take, Result, Ok, Err, OnOk, is_ok, if◌then◌else◌, refl, sym, ap, subst, ◌∙◌, arith}
use Rattle.std.proofs.lemmas.List.{length-take, take-take}
use Rattle.std.specs.Arc.{arc_value}
use Rattle.world_table.specs.Branch.{Branch, reach, joined, IsRow, IsAlike}
use Rattle.world_table.proofs.Rows.{child_branch, row_cut, without_branch, without_block, without_behind, without_last}
use Rattle.world_table.proofs.place.Place.+without.Goals as goal

on_ok_more : {T E : Type 0} (r : Result T E) (n m k : ℕ) → n ≡ m + (if is_ok r then 1 else 0) → m + 1 ≤ k → OnOk r (n ≤ k)
on_ok_more (Ok x) n m k e p = omega arith
on_ok_more (Err x) n m k e p = tt

pub returns-then-at-len-clause-entries : goal.returns-then-at-len-clause-entries
returns-then-at-len-clause-entries g t c =
    let sound = rw c.in-Block.is at c.self.invariant in
    let whole = rw c.in-Block.is at c.self.view_is in
    let behind : length (arc_value c.in-Block.places).items ≤ c.index_of-at.result = omega (arith, (arc_value c.in-Block.places).ok, rw c.deref.ensures at c.len.ensures) in
    ap (λ (b : Branch g.row.R.Denot). b.entries) c.in_ok-same-in-Block.ensures ∙ without_behind _ _ _ _ _ sound.1.branches c.index_of-at.ensures.value behind whole

pub returns-then-count-eq0-clause-entries : goal.returns-then-count-eq0-clause-entries
returns-then-count-eq0-clause-entries g t c =
    let sound = rw c.in-Block.is at c.self.invariant in
    let whole = rw c.in-Block.is at c.self.view_is in
    let bs = (arc_value c.in-Block.places).items in
    let same : c.deref-then-at-len-2-2.result.now ≡ bs = c.deref-then-at-len-2-2.ensures.value ∙ ap (λ v. v.items) c.deref-then-at-len-2.ensures in
    let alike = subst (λ (ds : List (Branch g.row.R.Denot)). IsAlike (take c.index_of-at.result ds) (take c.used-count.result (take c.index_of-at.result ds))) same c.used-count.ensures.alike in
    let last : c.index_of-at.result + 1 ≡ length bs = omega (arith, (arc_value c.in-Block.places).ok, rw c.deref-then-is_nothing.ensures at c.len-then-is_nothing.ensures) in
    c.nothing-then-count-eq0.ensures.entries
    ∙ ap (λ (n : ℕ). joined (reach c.in-Block.below) 0 (take n (take c.index_of-at.result bs))) (sym c.if-count-eq0.true)
    ∙ without_last _ _ _ _ _ _ c.in_ok-branch-in-Block.branch _ _ sound.1.branches c.index_of-at.ensures.value last (rw c.deref-in-Block.ensures at c.index.ensures)
    (c.if-is_nothing.ensures refl) c.in_ok-branch-in-Block.ensures.entries whole refl alike

pub returns-then-count-eq0-clause-counted : goal.returns-then-count-eq0-clause-counted
returns-then-count-eq0-clause-counted g t c =
    let sound = rw c.in-Block.is at c.self.invariant in
    let height : c.in-Block.below + 1 ≡ c.args.self.now.height = ap (λ (b : Branch g.row.R.Denot). b.height) (rw c.in-Block.is at c.self.view_is) in
    let inside : c.index_of-at.result < length (arc_value c.in-Block.places).items = omega (arith, (arc_value c.in-Block.places).ok, rw c.deref.ensures at c.len.ensures) in
    let child = child_branch _ _ _ _ sound.1.branches inside (rw c.deref-in-Block.ensures at c.index.ensures) in
    let count : c.without.new.builder.count ≤ c.args.builder.now.count + c.index.result.now.height = c.in_ok-branch-in-Block.ensures.counted in
    omega (arith, child.within)

pub copied-requires-clause-places : goal.copied-requires-clause-places
copied-requires-clause-places g t c =
    let sound = rw c.in-Block.is at c.self.invariant in
    let same : c.deref-then-at-len-2-4.result.now ≡ (arc_value c.in-Block.places).items = c.deref-then-at-len-2-4.ensures.value ∙ ap (λ v. v.items) c.deref-then-at-len-2-3.ensures in
    subst (λ (ds : List (Branch g.row.R.Denot)). IsRow c.in-Block.below (take c.used-count.result ds)) (sym same) (row_cut _ _ _ sound.1)

pub returns-then-at-len-2-clause-entries : goal.returns-then-at-len-2-clause-entries
returns-then-at-len-2-clause-entries g t c =
    let sound = rw c.in-Block.is at c.self.invariant in
    let whole = rw c.in-Block.is at c.self.view_is in
    let bs = (arc_value c.in-Block.places).items in
    let same : c.deref-then-at-len-2-2.result.now ≡ bs = c.deref-then-at-len-2-2.ensures.value ∙ ap (λ v. v.items) c.deref-then-at-len-2.ensures in
    let again : c.deref-then-at-len-2-4.result.now ≡ bs = c.deref-then-at-len-2-4.ensures.value ∙ ap (λ v. v.items) c.deref-then-at-len-2-3.ensures in
    let alike = subst (λ (ds : List (Branch g.row.R.Denot)). IsAlike (take c.index_of-at.result ds) (take c.used-count.result (take c.index_of-at.result ds))) same c.used-count.ensures.alike in
    let last : c.index_of-at.result + 1 ≡ length bs = omega (arith, (arc_value c.in-Block.places).ok, rw c.deref-then-is_nothing.ensures at c.len-then-is_nothing.ensures) in
    let short : c.used-count.result ≤ c.index_of-at.result = let len = length-take c.index_of-at.result c.deref-then-at-len-2-2.result.now in omega (arith, c.used-count.ensures.within) in
    let made =
    ap (λ (ds : List (Branch g.row.R.Denot)). joined (reach c.in-Block.below) 0 (take c.used-count.result ds)) again
    ∙ ap (joined (reach c.in-Block.below) 0) (sym (take-take c.used-count.result c.index_of-at.result bs short))
    ∙ without_last _ _ _ _ _ _ c.in_ok-branch-in-Block.branch _ c.args.self.now sound.1.branches c.index_of-at.ensures.value last (rw c.deref-in-Block.ensures at c.index.ensures)
    (c.if-is_nothing.ensures refl) c.in_ok-branch-in-Block.ensures.entries whole refl alike in
    rw made at c.copied.ensures.entries

pub returns-then-at-len-2-clause-counted : goal.returns-then-at-len-2-clause-counted
returns-then-at-len-2-clause-counted g t c =
    let sound = rw c.in-Block.is at c.self.invariant in
    let height : c.in-Block.below + 1 ≡ c.args.self.now.height = ap (λ (b : Branch g.row.R.Denot). b.height) (rw c.in-Block.is at c.self.view_is) in
    let inside : c.index_of-at.result < length (arc_value c.in-Block.places).items = omega (arith, (arc_value c.in-Block.places).ok, rw c.deref.ensures at c.len.ensures) in
    let child = child_branch _ _ _ _ sound.1.branches inside (rw c.deref-in-Block.ensures at c.index.ensures) in
    let count : c.without.new.builder.count ≤ c.args.builder.now.count + c.index.result.now.height = c.in_ok-branch-in-Block.ensures.counted in
    on_ok_more c.copied.result _ _ _ c.copied.ensures.counted (omega (arith, child.within))

pub changed-requires-clause-branch : goal.changed-requires-clause-branch
changed-requires-clause-branch g t c =
    let sound = rw c.in-Block.is at c.self.invariant in
    let inside : c.index_of-at.result < length (arc_value c.in-Block.places).items = omega (arith, (arc_value c.in-Block.places).ok, rw c.deref.ensures at c.len.ensures) in
    let child = child_branch _ _ _ _ sound.1.branches inside (rw c.deref-in-Block.ensures at c.index.ensures) in
    let made = c.in_ok-branch-in-Block.ensures in
    without_branch _ _ _ _ child made.height made.lower made.entries

pub returns-else-is_nothing-clause-entries : goal.returns-else-is_nothing-clause-entries
returns-else-is_nothing-clause-entries g t c =
    let sound = rw c.in-Block.is at c.self.invariant in
    let whole = rw c.in-Block.is at c.self.view_is in
    let inside : c.index_of-at.result < length (arc_value c.in-Block.places).items = omega (arith, (arc_value c.in-Block.places).ok, rw c.deref.ensures at c.len.ensures) in
    let same : c.deref-in-Block-3.result.now ≡ (arc_value c.in-Block.places).items = c.deref-in-Block-3.ensures.value ∙ ap (λ v. v.items) c.deref-in-Block-2.ensures in
    let made = without_block c.in-Block.below c.args.key c.index_of-at.result (arc_value c.in-Block.places).items c.in_ok-branch-in-Block.branch c.index.result.now c.args.self.now
    sound.1.branches c.index_of-at.ensures.value inside (rw c.deref-in-Block.ensures at c.index.ensures) c.in_ok-branch-in-Block.ensures.entries whole in
    rw (same, made) at c.changed.ensures.entries

pub returns-else-is_nothing-clause-counted : goal.returns-else-is_nothing-clause-counted
returns-else-is_nothing-clause-counted g t c =
    let sound = rw c.in-Block.is at c.self.invariant in
    let height : c.in-Block.below + 1 ≡ c.args.self.now.height = ap (λ (b : Branch g.row.R.Denot). b.height) (rw c.in-Block.is at c.self.view_is) in
    let inside : c.index_of-at.result < length (arc_value c.in-Block.places).items = omega (arith, (arc_value c.in-Block.places).ok, rw c.deref.ensures at c.len.ensures) in
    let child = child_branch _ _ _ _ sound.1.branches inside (rw c.deref-in-Block.ensures at c.index.ensures) in
    let count : c.without.new.builder.count ≤ c.args.builder.now.count + c.index.result.now.height = c.in_ok-branch-in-Block.ensures.counted in
    on_ok_more c.changed.result _ _ _ c.changed.ensures.counted (omega (arith, child.within))
