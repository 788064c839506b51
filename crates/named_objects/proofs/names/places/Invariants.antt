use Rattle.std.proofs.Common.{ℤ, take}
use Rattle.std.specs.BTreeMap.{get}
use Rattle.std.specs.Ordering.{int_cmp}
use Rattle.named_objects.specs.Ways.{IsPlace, numbers_of}
use Rattle.named_objects.proofs.names.places.Given as goal

abbrev pub invariant-loop-place : goal.invariant-loop-place
invariant-loop-place l = (n : ℤ) → IsPlace (numbers_of (take l.place l.records)) n (get int_cmp l.places n)
