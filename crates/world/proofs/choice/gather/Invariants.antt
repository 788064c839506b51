use Rattle.std.proofs.Common.{◌≤◌, ◌-◌}
use Rattle.world.proofs.Gathered.{Gathered}
use Rattle.world.proofs.choice.gather.Given as goal

abbrev pub invariant-loop-number : goal.invariant-loop-number
invariant-loop-number g l = record { within : l.key ≤ 4294967296; gathered : Gathered (g.C.Choice.picks l.choice) l.records.entries l.key l.items.items }

abbrev pub decreases-loop-number : goal.decreases-loop-number
decreases-loop-number g l = 4294967296 - l.key
