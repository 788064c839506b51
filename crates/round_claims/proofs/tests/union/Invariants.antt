use Rattle.std.proofs.Common.{◌≡◌, ◌+◌, true, length, All, IfOk}
use Rattle.round_claims.specs.Claimed.{IsDone}
use Rattle.round_claims.proofs.tests.union.Given as goal

abbrev pub invariant-worker : goal.invariant-worker
invariant-worker l = record {
  offer : l.seat.offer ≡ l.fn.claims;
  closed : l.seat.closed ≡ true;
  all : length l.workers.items + l.seat.seats ≡ l.fn.claims.seats;
  positions : l.all.items ≡ l.seat.claimed;
  done : All (λ worker. IfOk worker (λ done. IsDone l.fn.claims done.0 × (done.1.items ≡ done.0.claimed))) l.workers.items;
}

abbrev pub decreases-worker : goal.decreases-worker
decreases-worker l = length l.workers.items
