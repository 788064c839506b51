use Rattle.std.proofs.Common.{◌≡◌, [], length}
use Rattle.std.specs.Vec.Iter.{into_iter_items, into_iter_len}
use Rattle.named_objects.specs.Told.{all_named}
use Rattle.named_objects.proofs.family.named.Given as goal

abbrev pub invariant-loop-slot : goal.invariant-loop-slot
invariant-loop-slot l =
    (all_named l.all l.left (into_iter_items l.slot-iterator) ≡ all_named [] l.fn.names (into_iter_items l.initial.slot-iterator))
    × (into_iter_len l.slot-iterator ≡ length (into_iter_items l.slot-iterator))
