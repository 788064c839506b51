use Rattle.std.proofs.Common.{◌≤◌, ◌-◌}
use Rattle.world.proofs.Walks.{SameFrom}
use Rattle.world.proofs.records.same_entries.Given as goal

abbrev pub invariant-loop-number : goal.invariant-loop-number
invariant-loop-number g l = record { within : l.key ≤ 4294967296; same : SameFrom l.key l.a.entries l.b.entries }

abbrev pub decreases-loop-number : goal.decreases-loop-number
decreases-loop-number g l = 4294967296 - l.key
