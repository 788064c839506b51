use Rattle.std.proofs.Common.{◌∙◌, sym, ap, arith}
use Rattle.round_claims.specs.Claimed.{Holding, Offer}
use Rattle.round_claims.specs.Rule.{size_of}
use Rattle.round_claims.proofs.Keeps.{merges}
use Rattle.round_claims.proofs.claims.Claims.merge.Goals as goal

pub join_seat-requires : goal.join_seat-requires
join_seat-requires c =
    let same = ap (λ (h : Holding). h.offer) c.seat.view_is ∙ c.requires.seat ∙ sym c.self.view_is in
    let same_other = ap (λ (h : Holding). h.offer) c.other.view_is ∙ c.requires.other ∙ sym c.self.view_is in
    let seat = c.seat.inside.seat in
    let other = c.other.inside.seat in
    let step = merges c.self.inside.table.shared.key seat.id seat.me.0 other.id other.me.0 (ap size_of same) c.seat.invariant.some_seat in
    (ap (λ (o : Offer). o.id) same, ap (λ (o : Offer). o.id) same_other, c.other.invariant.no_slot, omega arith, step)
