use Rattle.std.proofs.Common.{◌-◌, ◌≤◌, length}
use Rattle.world.proofs.marking.is_late.Given as goal

abbrev pub invariant-loop-index : goal.invariant-loop-index
invariant-loop-index l = l.index ≤ length l.fn.objects

abbrev pub decreases-loop-index : goal.decreases-loop-index
decreases-loop-index l = l.index - l.first
