use Rattle.std.proofs.Common.{◌≡◌, ◌<◌, length, sym, ◌∙◌, arith}
use mathlib.Core.Bool.{true≢false}
use Rattle.spec_value.specs.Datum.{fold_case}
use Rattle.view.proofs.Named.{found_there, found_behind}
use Rattle.view.proofs.slots.position_of_few.Goals as goal

pub returns-then-spells : goal.returns-then-spells
returns-then-spells c =
    let e = c.index-entries-index.result in
    let lt : c.loop-index.index < length c.args.entries.now = omega arith in
    let same : fold_case c.args.name.now ≡ e.0 = c.spells.ensures.0 c.if-spells.true in
    (e, lt, c.index-entries-index.is, same, sym c.loop-index.invariant ∙ found_there _ _ _ e lt c.index-entries-index.is same)

pub loop-index-preserved : goal.loop-index-preserved
loop-index-preserved c =
    let e = c.index-entries-index.result in
    let lt : c.loop-index.index < length c.args.entries.now = omega arith in
    let differ : fold_case c.args.name.now ≡ e.0 → ⊥ = λ same. true≢false (sym (c.spells.ensures.1 same) ∙ c.if-spells.false) in
    found_behind _ _ _ e lt c.index-entries-index.is differ ∙ c.loop-index.invariant
