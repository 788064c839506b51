use Rattle.std.proofs.Common.{◌≤◌, ◌-◌, length}
use Rattle.world.proofs.Gathered.{Matches}
use Rattle.world.proofs.choice.is_gathered.Given as goal

abbrev pub invariant-loop-number : goal.invariant-loop-number
invariant-loop-number g l =
    record { within : l.key ≤ 4294967296; few : l.count ≤ l.key; count : l.count ≤ length l.items; same : Matches (g.C.Choice.picks l.choice) l.records.entries l.key l.count l.items }

abbrev pub decreases-loop-number : goal.decreases-loop-number
decreases-loop-number g l = 4294967296 - l.key
