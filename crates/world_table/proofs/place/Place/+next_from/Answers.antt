use Rattle.std.proofs.Common.{◌≡◌, ℕ, ◌+◌, ◌-◌, ◌*◌, ◌<◌, length, Some, sym, ap, ◌∙◌, arith}
use Rattle.std.specs.Arc.{arc_value}
use Rattle.world_table.specs.Branch.{Branch, reach}
use Rattle.world_table.specs.Entries.{first_from}
use Rattle.world_table.proofs.Rows.{child_branch}
use Rattle.world_table.proofs.Walks.{first_start, first_within, first_found, first_passed, start_is, key_fits}
use Rattle.world_table.proofs.place.Place.+next_from.Goals as goal

pub loop-at-init : goal.loop-at-init
loop-at-init g t c =
    let sound = rw c.in-Block.is at c.self.invariant in
    let whole = rw c.in-Block.is at c.self.view_is in
    sym (ap (λ (b : Branch g.row.R.Denot). first_from c.args.key b.entries) whole) ∙ first_start c.in-Block.below c.args.key c.min-first.result _ sound.1.branches (omega (arith, c.min-first.ensures))

pub overflow_add-result : goal.overflow_add-result
overflow_add-result g t c =
    let sound = rw c.in-Block.is at c.self.invariant in
    let most = sound.1.size in
    let inside : c.loop-at.at < length (arc_value c.in-Block.places).items = omega (arith, (arc_value c.in-Block.places).ok, rw c.deref-in-Block.ensures at c.len-at-end.ensures) in
    let within : c.loop-at.at < 32 = omega arith in
    let child = child_branch _ _ _ _ sound.1.branches inside (rw c.deref-in-loop-at.ensures at c.index.ensures) in
    let low = first_within _ 0 (reach c.in-Block.below) _ _ child.rises (sym c.in-Some.ensures) in
    let fits = key_fits c.loop-at.at c.in-Block.below c.in-Some.found within sound.0 low in
    omega arith

pub returns-in-Some : goal.returns-in-Some
returns-in-Some g t c =
    let sound = rw c.in-Block.is at c.self.invariant in
    let most = sound.1.size in
    let inside : c.loop-at.at < length (arc_value c.in-Block.places).items = omega (arith, (arc_value c.in-Block.places).ok, rw c.deref-in-Block.ensures at c.len-at-end.ensures) in
    let within : c.loop-at.at < 32 = omega arith in
    let there = rw c.deref-in-loop-at.ensures at c.index.ensures in
    let start = start_is c.loop-at.at c.in-Block.below within sound.0 in
    let from : c.args.key - c.loop-at.at * reach c.in-Block.below ≡ c.saturating_sub-from.result = ap (λ (n : ℕ). c.args.key - n) (sym start) ∙ sym c.saturating_sub-from.ensures in
    let found = ap (λ (n : ℕ). first_from n c.index.result.now.entries) from ∙ sym c.in-Some.ensures in
    ap (λ (n : ℕ). Some (n + c.in-Some.found, arc_value c.in-Some.value.now)) start
    ∙ sym (c.loop-at.invariant ∙ first_found (reach c.in-Block.below) c.args.key c.loop-at.at _ _ _ inside there found)

pub loop-at-preserved : goal.loop-at-preserved
loop-at-preserved g t c =
    let sound = rw c.in-Block.is at c.self.invariant in
    let most = sound.1.size in
    let inside : c.loop-at.at < length (arc_value c.in-Block.places).items = omega (arith, (arc_value c.in-Block.places).ok, rw c.deref-in-Block.ensures at c.len-at-end.ensures) in
    let within : c.loop-at.at < 32 = omega arith in
    let there = rw c.deref-in-loop-at.ensures at c.index.ensures in
    let start = start_is c.loop-at.at c.in-Block.below within sound.0 in
    let from : c.args.key - c.loop-at.at * reach c.in-Block.below ≡ c.saturating_sub-from.result = ap (λ (n : ℕ). c.args.key - n) (sym start) ∙ sym c.saturating_sub-from.ensures in
    let none = ap (λ (n : ℕ). first_from n c.index.result.now.entries) from ∙ sym c.in_default.ensures in
    c.loop-at.invariant ∙ first_passed (reach c.in-Block.below) c.args.key c.loop-at.at _ _ inside there none
