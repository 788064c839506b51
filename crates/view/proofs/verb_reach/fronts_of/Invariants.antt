use Rattle.std.proofs.Common.{◌≡◌, ◌-◌, length}
use Rattle.view.specs.Naming.{AreFronts}
use Rattle.view.proofs.verb_reach.fronts_of.Given as goal

abbrev pub invariant-loop-first : goal.invariant-loop-first
invariant-loop-first l = (length l.fronts.items ≡ l.first) × AreFronts l.fronts.items l.reaches

abbrev pub decreases-loop-first : goal.decreases-loop-first
decreases-loop-first l = 32 - l.first
