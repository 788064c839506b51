use Rattle.world_checks.specs.Guessed.{AllMarked, BelowAgree}
use Rattle.world_checks.proofs.Below.{PlacedTo}
use Rattle.world_checks.proofs.object_checks.guess.places.Given as goal

abbrev pub invariant-loop-number : goal.invariant-loop-number
invariant-loop-number l = AllMarked l.draft → BelowAgree l.way l.draft → PlacedTo l.way l.draft l.numbers l.places l.number-index
