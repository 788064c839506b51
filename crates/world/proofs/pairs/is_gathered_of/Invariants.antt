use Rattle.std.proofs.Common.{◌≤◌, ◌-◌, length, Some, pos}
use Rattle.world.specs.Paired.{keys_of}
use Rattle.world.proofs.Gathered.{Matches}
use Rattle.world.proofs.pairs.is_gathered_of.Given as goal

abbrev pub invariant-loop-found : goal.invariant-loop-found
invariant-loop-found l =
    record { within : l.key ≤ 1048576; few : l.count ≤ l.key; count : l.count ≤ length l.keys; same : Matches (λ k _. Some (pos k)) (keys_of l.number l.pairs) l.key l.count l.keys }

abbrev pub decreases-loop-found : goal.decreases-loop-found
decreases-loop-found l = 1048576 - l.key
