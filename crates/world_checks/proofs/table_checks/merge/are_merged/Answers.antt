use Rattle.std.proofs.Common.{◌≡◌, ◌⊎◌, inl, inr, ◌≤◌, length, map, Some, false, IsTrue, sym, ap, ◌∙◌, refl, arith}
use Rattle.std.specs.Prelude.{slice_get}
use Rattle.std.proofs.lemmas.Bool.{eqb-true, eq-eqb}
use Rattle.world_checks.proofs.Merged.{got_one, name_merged, other_merged, all_merged}
use Rattle.std.proofs.lemmas.List.{length-map}
use Rattle.world_checks.proofs.Ordered.{next_known, all_known}
use Rattle.world_checks.proofs.table_checks.merge.are_merged.Goals as goal

pub loop-entry-preserved-then-is_name : goal.loop-entry-preserved-then-is_name
loop-entry-preserved-then-is_name g c =
    let there = got_one (λ e. e.0) c.args.entries.now c.loop-entry.entry-index c.entry-item.result (omega arith) c.entry-item.is in
    let named : c.entry-item.result.0 ≡ c.as_bytes-next.result.now = sym (c.as_bytes-next.ensures.value ∙ c.as_str.ensures) in
    name_merged _ _ _ c.loop-entry.name c.loop-entry.other c.loop-entry.entry-index c.as_bytes-next.result.now (there ∙ ap Some named) (c.if-is_name.ensures.tells refl) c.loop-entry.invariant

pub loop-entry-preserved : goal.loop-entry-preserved
loop-entry-preserved g c =
    let there = got_one (λ e. e.0) c.args.entries.now c.loop-entry.entry-index c.entry-item.result (omega arith) c.entry-item.is in
    let named : c.entry-item.result.0 ≡ c.as_bytes-next.result.now = sym (c.as_bytes-next.ensures.value ∙ c.as_str.ensures) in
    other_merged _ _ _ c.loop-entry.name c.loop-entry.other c.loop-entry.entry-index c.as_bytes-next.result.now (there ∙ ap Some named) (c.if-not-is_entry.ensures.tells refl) c.loop-entry.invariant

pub returns-then-name-names-clause-tells : goal.returns-then-name-names-clause-tells
returns-then-name-names-clause-tells g c h =
    all_merged _ _ _ c.loop-entry.name c.loop-entry.other c.loop-entry.entry-index
    (c.if-name-names.true ∙ sym (length-map c.args.names.now (λ n. n.items)))
    (eqb-true c.loop-entry.other _ h ∙ sym (length-map c.args.others.now (λ e. e.0)))
    (let all : c.loop-entry.entry-index ≡ length c.args.entries.now = omega arith in all ∙ sym (length-map c.args.entries.now (λ e. e.0))) c.loop-entry.invariant

pub returns-then-not-is_entry-clause-finds : goal.returns-then-not-is_entry-clause-finds
returns-then-not-is_entry-clause-finds g c names others entries merge =
    let there = got_one (λ e. e.0) c.args.entries.now c.loop-entry.entry-index c.entry-item.result (omega arith) c.entry-item.is in
    let named : c.entry-item.result.0 ≡ c.as_bytes-next.result.now = sym (c.as_bytes-next.ensures.value ∙ c.as_str.ensures) in
    go
    (next_known _ _ _ c.loop-entry.name c.loop-entry.other c.loop-entry.entry-index c.as_bytes-next.result.now c.loop-entry.invariant merge names others entries (there ∙ ap Some named))
  where
    go : (slice_get (map (λ n. n.items) c.args.names.now) c.loop-entry.name ≡ Some c.as_bytes-next.result.now)
        ⊎ (slice_get (map (λ e. e.0) c.args.others.now) c.loop-entry.other ≡ Some c.as_bytes-next.result.now) → IsTrue false
    go (inl e) = c.if-is_name.ensures.finds e
    go (inr e) = c.if-not-is_entry.ensures.finds e

pub returns-then-name-names-clause-finds : goal.returns-then-name-names-clause-finds
returns-then-name-names-clause-finds g c names others entries merge =
    let all : length (map (λ e. e.0) c.args.entries.now) ≤ c.loop-entry.entry-index = omega (arith, length-map c.args.entries.now (λ e. e.0), c.loop-entry-test.false) in
    let both = all_known _ _ _ c.loop-entry.name c.loop-entry.other c.loop-entry.entry-index c.loop-entry.invariant merge all in
    eq-eqb c.loop-entry.other (length c.args.others.now) (both.1 ∙ length-map c.args.others.now (λ e. e.0))

pub returns-else-name-names-clause-finds : goal.returns-else-name-names-clause-finds
returns-else-name-names-clause-finds g c names others entries merge =
    let all : length (map (λ e. e.0) c.args.entries.now) ≤ c.loop-entry.entry-index = omega (arith, length-map c.args.entries.now (λ e. e.0), c.loop-entry-test.false) in
    let both = all_known _ _ _ c.loop-entry.name c.loop-entry.other c.loop-entry.entry-index c.loop-entry.invariant merge all in
    absurd (c.if-name-names.false (both.0 ∙ length-map c.args.names.now (λ n. n.items)))
