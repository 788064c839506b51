use Rattle.std.proofs.Common.{◌∙◌, sym, ap, arith}
use Rattle.round_claims.specs.Claimed.{Holding, Offer}
use Rattle.round_claims.proofs.Keeps.{exchanges}
use Rattle.round_claims.proofs.claims.Claims.claim.Goals as goal

pub fetch_add-found-requires : goal.fetch_add-found-requires
fetch_add-found-requires c =
    let same = ap (λ (h : Holding). h.offer) c.seat.view_is ∙ c.requires ∙ sym c.self.view_is in
    let seat = c.seat.inside.seat in
    let shared = c.self.inside.table.shared in
    let step = exchanges shared.key shared.table_id.slots seat.id seat.me.0 (ap (λ (o : Offer). o.positions) same) c.seat.invariant.some_seat (c.seat.invariant.may_miss c.if-seat.false) in
    (ap (λ (o : Offer). o.id) same, omega arith, rw c.seat.invariant.no_slot step)
