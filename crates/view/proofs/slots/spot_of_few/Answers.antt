use Rattle.std.proofs.Common.{◌≡◌, ◌<◌, length, sym, ◌∙◌, arith}
use Rattle.std.specs.declared.cmp.Ordering.TheVariants.{Equal}
use Rattle.spec_value.specs.Datum.{fold_case}
use Rattle.view.proofs.Named.{R}
use Rattle.view.proofs.Spots.{hits}
use Rattle.view.proofs.slots.spot_of_few.Goals as goal

pub returns-in-Equal-clause-there : goal.returns-in-Equal-clause-there
returns-in-Equal-clause-there c =
    let k = fold_case c.args.name.now in
    let e = c.index-entries-index.result in
    let lt : c.loop-index.index < length c.args.entries.now = omega arith in
    let order : R k e.0 ≡ Equal = sym c.order.ensures ∙ c.in-Equal.is in
    (lt, λ s. hits k s c.args.entries.now c.loop-index.index e lt c.index-entries-index.is order (c.loop-index.invariant s))
