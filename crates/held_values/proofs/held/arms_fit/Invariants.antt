use Rattle.std.proofs.Common.{IsTrue, drop}
use Rattle.spec_program.specs.Place.{arm_kinds}
use Rattle.spec_world.specs.WellFormed.{kinds_fit}
use Rattle.moo_tree.specs.StatementView.{arms_of}
use Rattle.held_values.proofs.held.arms_fit.Given as goal

abbrev pub invariant-loop-i : goal.invariant-loop-i
invariant-loop-i l =
    IsTrue (kinds_fit (arm_kinds (arms_of (drop l.i l.arms))) (drop l.i l.held)) → IsTrue (kinds_fit (arm_kinds (arms_of l.arms)) l.held)
