-- What is known is right, and of the places so far something is known.
use Rattle.std.proofs.Common.{◌≡◌, List, Bool}
use Rattle.upwards.specs.Ways.{HaveWays, IsRight, first_known}
use Rattle.upwards.proofs.nearest.known_everywhere.Given as goal

abbrev pub invariant-loop-place : goal.invariant-loop-place
invariant-loop-place l =
    (l.all.parents.items ≡ l.fn.all.parents.items)
    × ((filled : List Bool) → IsRight filled l.fn.all → HaveWays l.fn.all.parents.items → IsRight filled l.all × first_known l.place l.all)
