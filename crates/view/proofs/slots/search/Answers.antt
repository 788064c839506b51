use Rattle.std.proofs.Common.{◌≡◌, ◌+◌, ◌-◌, ◌/◌, ◌<◌, length, sym, ◌∙◌, ap, arith, ℕ}
use Rattle.std.specs.declared.cmp.Ordering.TheVariants.{Less, Greater}
use Rattle.spec_value.specs.Datum.{Text, fold_case}
use Rattle.spec_world.specs.World.{Slot}
use Rattle.view.proofs.Named.{R}
use Rattle.view.proofs.Placed.{same_name, sought_behind, put_behind, none_from, put_first, found_at, set_at}
use Rattle.view.proofs.slots.search.Goals as goal

pub loop-low-preserved-in-Less : goal.loop-low-preserved-in-Less
loop-low-preserved-in-Less c =
    let k = fold_case c.args.name.now in
    let es = c.args.entries.now in
    let e = c.index-entries-middle.result in
    let middle : ℕ = c.loop-low.low + (c.loop-low.high - c.loop-low.low) / 2 in
    let lt : middle < length es = omega arith in
    let order : R k e.0 ≡ Less = ap (λ (p : Text × Slot). R k p.0) c.index-entries-middle.is ∙ sym c.order.ensures ∙ c.in-Less.is in (
      omega arith,
      omega arith,
      c.loop-low.invariant.2,
      none_from k es middle e c.requires lt c.index-entries-middle.is order,
      c.loop-low.invariant.4,
      λ s. put_first k s es middle e lt c.index-entries-middle.is order,
    )

pub returns-in-Equal-clause-there : goal.returns-in-Equal-clause-there
returns-in-Equal-clause-there c =
    let k = fold_case c.args.name.now in
    let es = c.args.entries.now in
    let e = c.index-entries-middle.result in
    let middle : ℕ = c.loop-low.low + (c.loop-low.high - c.loop-low.low) / 2 in
    let lt : middle < length es = omega arith in
    let same : k ≡ e.0 = same_name k e.0 (ap (λ (p : Text × Slot). R k p.0) c.index-entries-middle.is ∙ sym c.order.ensures ∙ c.in-Equal.is) in
    (e, lt, c.index-entries-middle.is, same, found_at k es middle e c.requires lt c.index-entries-middle.is same)

pub returns-in-Equal-clause-place : goal.returns-in-Equal-clause-place
returns-in-Equal-clause-place c =
    let k = fold_case c.args.name.now in
    let es = c.args.entries.now in
    let e = c.index-entries-middle.result in
    let middle : ℕ = c.loop-low.low + (c.loop-low.high - c.loop-low.low) / 2 in
    let lt : middle < length es = omega arith in
    let same : k ≡ e.0 = same_name k e.0 (ap (λ (p : Text × Slot). R k p.0) c.index-entries-middle.is ∙ sym c.order.ensures ∙ c.in-Equal.is) in
    (lt, λ s. set_at k s es middle e c.requires lt c.index-entries-middle.is same)

pub loop-low-preserved : goal.loop-low-preserved
loop-low-preserved c =
    let k = fold_case c.args.name.now in
    let es = c.args.entries.now in
    let e = c.index-entries-middle.result in
    let middle : ℕ = c.loop-low.low + (c.loop-low.high - c.loop-low.low) / 2 in
    let lt : middle < length es = omega arith in
    let order : R k e.0 ≡ Greater = ap (λ (p : Text × Slot). R k p.0) c.index-entries-middle.is ∙ sym c.order.ensures ∙ c.in-Greater.is in (
      omega arith,
      omega arith,
      sought_behind k es middle e c.requires lt c.index-entries-middle.is order,
      c.loop-low.invariant.3,
      λ s. put_behind k s es middle e c.requires lt c.index-entries-middle.is order,
      c.loop-low.invariant.5,
    )
