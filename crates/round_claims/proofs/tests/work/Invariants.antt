use Rattle.std.proofs.Common.{◌≡◌, ◌-◌, length}
use Rattle.round_claims.proofs.tests.work.Given as goal

abbrev pub invariant-claim : goal.invariant-claim
invariant-claim l = record {
  offer : l.seat.offer ≡ l.claims;
  seats : l.seat.seats ≡ 1;
  positions : l.positions.items ≡ l.seat.claimed;
}

abbrev pub decreases-claim : goal.decreases-claim
decreases-claim l = l.claims.positions - length l.seat.claimed
