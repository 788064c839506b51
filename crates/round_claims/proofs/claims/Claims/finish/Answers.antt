use Rattle.std.proofs.Common.{◌∙◌, sym, ap, arith}
use Rattle.round_claims.specs.Claimed.{Holding, Offer}
use Rattle.round_claims.proofs.Keeps.{IsCounted, ends}
use Rattle.round_claims.proofs.claims.Claims.finish.Goals as goal

-- what the closed table says to the seat
counted : (c : goal.After-min) → IsCounted c.self.inside.table.shared.key c.seat.inside.seat.me.0 c.word-exchanges.result
counted c =
    let all = ap (λ (h : Holding). h.seats) c.seat.view_is ∙ c.requires.all ∙ ap (λ (o : Offer). o.seats) (sym c.self.view_is) in
    ends c.self.inside.table.shared.key _ _ c.seat.inside.seat.id c.seat.inside.seat.me.0 c.word-exchanges.result c.close_with-ended.ensures.values.2 c.word-exchanges.ensures all

pub returns-clause-each_once : goal.returns-clause-each_once
returns-clause-each_once c = rw (
  c.min.ensures,
  ← c.self.invariant.0,
  ← ap (λ (h : Holding). h.claimed) c.seat.view_is,
) (counted c).each_once

pub returns-clause-count : goal.returns-clause-count
returns-clause-count c = rw (
  c.min.ensures,
  ← c.self.invariant.0,
  ← ap (λ (h : Holding). h.claimed) c.seat.view_is,
) (counted c).count

pub returns-clause-closed : goal.returns-clause-closed
returns-clause-closed c closed =
    let all_gone = (counted c).all_gone (ap (λ (h : Holding). h.closed) c.seat.view_is ∙ closed) in
    let same = ap (λ (o : Offer). o.positions) c.self.view_is in omega (arith, c.min.ensures, c.self.invariant.0)
