use Rattle.std.proofs.Common.{◌≡◌, ◌++◌, map, drop}
use Rattle.spec_program.specs.Place.{arm_kinds}
use Rattle.moo_tree.specs.StatementView.{arms_of}
use Rattle.held_values.specs.Wanted.{of_kind}
use Rattle.held_values.proofs.wanted.push_arms.Given as goal

-- what the arms that are left will push
abbrev pub invariant-loop-arm : goal.invariant-loop-arm
invariant-loop-arm l = l.wanted.items ++ map of_kind (arm_kinds (arms_of (drop l.arm-index l.arms))) ≡ l.fn.wanted.items ++ map of_kind (arm_kinds (arms_of l.arms))
