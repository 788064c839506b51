use Rattle.std.proofs.Common.{◌≡◌, ℕ, ◌+◌, ◌-◌, ◌<◌, List, Some, length, take, sym, ap, ◌∙◌, arith}
use Rattle.std.proofs.lemmas.List.{take_all}
use Rattle.std.specs.Arc.{arc_value}
use Rattle.world_table.specs.Branch.{Branch, reach, joined}
use Rattle.world_table.specs.Entries.{last_key}
use Rattle.world_table.proofs.Rows.{child_branch}
use Rattle.world_table.proofs.Walks.{last_found, last_passed, last_within, start_is, key_fits}
use Rattle.world_table.proofs.place.Place.+last_key.Goals as goal

pub loop-at-init : goal.loop-at-init
loop-at-init g t c =
    let whole = rw c.in-Block.is at c.self.view_is in
    let len : c.len-at.result ≡ length (arc_value c.in-Block.places).items = rw c.deref.ensures at c.len-at.ensures ∙ (arc_value c.in-Block.places).ok.0 in (
      omega arith,
      sym (ap (λ (b : Branch g.row.R.Denot). last_key b.entries) whole)
          ∙ ap (λ (bs : List (Branch g.row.R.Denot)). last_key (joined (reach c.in-Block.below) 0 bs)) (sym (take_all c.len-at.result (arc_value c.in-Block.places).items (omega arith))),
    )

pub overflow_add-result : goal.overflow_add-result
overflow_add-result g t c =
    let sound = rw c.in-Block.is at c.self.invariant in
    let most = sound.1.size in
    let inside : c.loop-at.at - 1 < length (arc_value c.in-Block.places).items = omega arith in
    let within : c.loop-at.at - 1 < 32 = omega arith in
    let child = child_branch _ _ _ _ sound.1.branches inside (rw c.deref-in-loop-at.ensures at c.index.ensures) in
    let low = last_within 0 (reach c.in-Block.below) _ _ child.rises (sym c.in-Some.ensures) in
    let fits = key_fits (c.loop-at.at - 1) c.in-Block.below c.in-Some.found within sound.0 low in
    omega arith

pub returns-in-Some : goal.returns-in-Some
returns-in-Some g t c =
    let sound = rw c.in-Block.is at c.self.invariant in
    let most = sound.1.size in
    let inside : c.loop-at.at - 1 < length (arc_value c.in-Block.places).items = omega arith in
    let within : c.loop-at.at - 1 < 32 = omega arith in
    let there = rw c.deref-in-loop-at.ensures at c.index.ensures in
    let found = last_found (reach c.in-Block.below) (c.loop-at.at - 1) c.in-Some.found (arc_value c.in-Block.places).items c.index.result.now inside there (sym c.in-Some.ensures) in
    let up : c.loop-at.at ≡ c.loop-at.at - 1 + 1 = omega arith in
    ap (λ (n : ℕ). Some (n + c.in-Some.found)) (start_is (c.loop-at.at - 1) c.in-Block.below within sound.0)
    ∙ sym (c.loop-at.invariant.1 ∙ ap (λ (n : ℕ). last_key (joined (reach c.in-Block.below) 0 (take n (arc_value c.in-Block.places).items))) up ∙ found)

pub loop-at-preserved : goal.loop-at-preserved
loop-at-preserved g t c =
    let sound = rw c.in-Block.is at c.self.invariant in
    let most = sound.1.size in
    let inside : c.loop-at.at - 1 < length (arc_value c.in-Block.places).items = omega arith in
    let within : c.loop-at.at - 1 < 32 = omega arith in
    let there = rw c.deref-in-loop-at.ensures at c.index.ensures in
    let passed = last_passed (reach c.in-Block.below) (c.loop-at.at - 1) (arc_value c.in-Block.places).items c.index.result.now inside there (sym c.in_default.ensures) in
    let up : c.loop-at.at ≡ c.loop-at.at - 1 + 1 = omega arith in
    (omega arith, c.loop-at.invariant.1 ∙ ap (λ (n : ℕ). last_key (joined (reach c.in-Block.below) 0 (take n (arc_value c.in-Block.places).items))) up ∙ passed)
