use Rattle.std.proofs.Common.{map, take}
use Rattle.view.specs.Meanings.{change_of}
use Rattle.speculate.specs.Fresh.{Passes}
use Rattle.speculate.proofs.stamps.Stamps.stamp.Given as goal

abbrev pub invariant-loop-change : goal.invariant-loop-change
invariant-loop-change l = Passes l.count l.fn.self l.self (map change_of (take l.change-index l.changes))
