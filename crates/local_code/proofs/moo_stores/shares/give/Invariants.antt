use Rattle.std.proofs.Common.{◌≡◌, drop, length}
use Rattle.local_code.specs.Giving.{given_slots}
use Rattle.local_code.proofs.moo_stores.shares.give.Given as goal

abbrev pub invariant-loop-i : goal.invariant-loop-i
invariant-loop-i l =
    record {
      given : given_slots (drop l.i l.items) (drop l.i l.shares) l.slots.items ≡ given_slots l.items l.shares l.initial.slots.items;
      count : length l.slots.items ≡ length l.initial.slots.items;
    }
