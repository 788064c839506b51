use Rattle.std.proofs.Common.{◌≡◌, ◌++◌, ◌-◌, drop, map, length}
use Rattle.moo_program.specs.Drafting.{item_of}
use Rattle.moo_program.specs.Assembling.{scan}
use Rattle.moo_program.proofs.open.starts.Given as goal

abbrev pub invariant-loop-i : goal.invariant-loop-i
invariant-loop-i l = l.starts.items ++ scan 0 l.place (map item_of (drop l.i l.items)) ≡ scan 0 l.fn.first (map item_of l.items)

abbrev pub decreases-loop-i : goal.decreases-loop-i
decreases-loop-i l = length l.items - l.i
