use Rattle.std.proofs.Common.{◌≡◌, [], take, drop}
use Rattle.spec_program.specs.Place.{nth, arm_kinds, arm_parts}
use Rattle.moo_tree.specs.StatementView.{arms_of}
use Rattle.tree_parts.proofs.statement_parts.arm_part.Given as goal

abbrev pub invariant-loop-i : goal.invariant-loop-i
invariant-loop-i l =
    nth (arm_parts [] (arms_of l.arms)) l.index ≡ nth (arm_parts (arm_kinds (arms_of (take l.i l.arms))) (arms_of (drop l.i l.arms))) l.left
