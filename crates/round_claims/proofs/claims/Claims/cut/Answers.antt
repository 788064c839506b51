use Rattle.std.proofs.Common.{◌∙◌, sym, ap, arith}
use Rattle.round_claims.specs.Claimed.{Offer}
use Rattle.round_claims.specs.Rule.{size_of}
use Rattle.round_claims.proofs.Keeps.{cuts}
use Rattle.round_claims.proofs.claims.Claims.cut.Goals as goal

pub split_seat-seat-requires : goal.split_seat-seat-requires
split_seat-seat-requires c =
    let same = sym c.self.view_is in
    let origin = c.args.origin.now in
    let step = cuts c.self.inside.table.shared.key origin.id origin.me.0 (c.requires.size ∙ ap size_of same) c.requires.some.0 c.requires.some.1 c.requires.empty.1 in
    (c.requires.table ∙ ap (λ (o : Offer). o.id) same, omega arith, step)
