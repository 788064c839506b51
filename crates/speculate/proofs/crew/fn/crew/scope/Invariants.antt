use Rattle.std.proofs.Common.{◌≡◌, All, vec_len}
use Rattle.round_claims.specs.Claimed.{fresh_seat}
use Rattle.speculate.proofs.crew.fn.crew.scope.Given as goal

abbrev pub invariant-seat : goal.invariant-seat
invariant-seat g l = All (λ seat. seat ≡ fresh_seat l.claims) l.seats.items

abbrev pub decreases-seat : goal.decreases-seat
decreases-seat g l = vec_len l.seats
