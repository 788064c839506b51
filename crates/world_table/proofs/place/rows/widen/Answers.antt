use Rattle.std.proofs.Common.{◌+◌, ◌-◌, ◌++◌, List, replicate, sym, ap, ◌∙◌, subst}
use Rattle.world_table.specs.Branch.{Branch, nowhere, IsAlike}
use Rattle.world_table.proofs.Rows.{alike_vacant}
use Rattle.world_table.proofs.place.rows.widen.Goals as goal

pub returns-in_ok-reserve-clause-alike : goal.returns-in_ok-reserve-clause-alike
returns-in_ok-reserve-clause-alike g c =
    let missing = c.args.at + 1 - c.len-count.result in
    let is = c.push_vacant.ensures.items ∙ ap (λ (bs : List (Branch g.row.R.Denot)). bs ++ replicate missing nowhere) c.in_ok-reserve.ensures.items in
    subst (IsAlike c.args.places.now.items) (sym is) (alike_vacant missing c.args.places.now.items)
