use Rattle.std.proofs.Common.{map, drop, IsTrue}
use Rattle.view.specs.Meanings.{change_of}
use Rattle.speculate.specs.Verbs.{all_leave_verbs}
use Rattle.speculate.proofs.guesses.all_leave_verbs.Given as goal

abbrev pub invariant-loop-change : goal.invariant-loop-change
invariant-loop-change l = IsTrue (all_leave_verbs (map change_of (drop l.change-index l.changes))) → IsTrue (all_leave_verbs (map change_of l.changes))
