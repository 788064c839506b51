use Rattle.std.proofs.Common.{◌≡◌, ◌+◌, [], length, All}
use Rattle.round_claims.specs.Claimed.{fresh_seat}
use Rattle.round_claims.specs.Rule.{size_of}
use Rattle.round_claims.proofs.claims.Claims.seats.Given as goal

abbrev pub invariant-seat : goal.invariant-seat
invariant-seat l = record {
  table : l.origin.table_id ≡ l.self.id;
  size : l.origin.me.0.size ≡ size_of l.self;
  empty : (l.origin.me.1 ≡ []) × (l.origin.me.0.claimed ≡ []);
  seats_left : l.origin.me.0.seats + l.counter ≡ l.count;
  misses_left : l.origin.me.0.misses_left + l.counter ≡ l.count;
  len : length l.all.items ≡ l.counter;
  fresh : All (λ seat. seat ≡ fresh_seat l.self) l.all.items;
}
