use Rattle.std.proofs.Common.{◌≤◌, ◌-◌, Some, pos}
use Rattle.world.specs.Paired.{keys_of}
use Rattle.world.proofs.Gathered.{Gathered}
use Rattle.world.proofs.pairs.gather_of.Given as goal

abbrev pub invariant-loop-found : goal.invariant-loop-found
invariant-loop-found l = record { within : l.key ≤ 1048576; gathered : Gathered (λ k _. Some (pos k)) (keys_of l.number l.pairs) l.key l.keys.items }

abbrev pub decreases-loop-found : goal.decreases-loop-found
decreases-loop-found l = 1048576 - l.key
