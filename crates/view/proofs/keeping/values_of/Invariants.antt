use Rattle.std.proofs.Common.{◌≡◌, take, map}
use Rattle.view.specs.Keeping.{filled}
use Rattle.view.proofs.keeping.values_of.Given as goal

abbrev pub invariant-loop-slot : goal.invariant-loop-slot
invariant-loop-slot l = l.values.items ≡ map filled (take l.slot-index l.slots)
