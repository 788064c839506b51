use Rattle.std.proofs.Common.{◌≤◌}
use Rattle.world.proofs.asked.Asked.find_by_mark.Given as goal

abbrev pub invariant-loop-index : goal.invariant-loop-index
invariant-loop-index l = l.index ≤ 12

abbrev pub decreases-loop-index : goal.decreases-loop-index
decreases-loop-index l = l.index
