use Rattle.std.proofs.Common.{◌≡◌, ◌+◌, ◌*◌, take, map}
use Rattle.moo_tree.specs.Depth.{statement_depth, program_depth, branches_depth, arms_depth}
use Rattle.moo_tree.specs.StatementView.{program_of, branches_of, branch_of, arms_of, arm_of}
use Rattle.moo_copy.proofs.statement.+statement.Given as goal

abbrev pub decreases-copy_statement : goal.decreases-copy_statement
decreases-copy_statement l = 4 * statement_depth l.statement.now

abbrev pub decreases-copy_statements : goal.decreases-copy_statements
decreases-copy_statements l = 4 * program_depth (program_of l.statements.now) + 1

abbrev pub decreases-copy_branch : goal.decreases-copy_branch
decreases-copy_branch l = 4 * branches_depth (branch_of l.branch.now) + 2

abbrev pub decreases-copy_branches : goal.decreases-copy_branches
decreases-copy_branches l = 4 * branches_depth (branches_of l.branches.now) + 3

abbrev pub decreases-copy_arm : goal.decreases-copy_arm
decreases-copy_arm l = 4 * arms_depth (arm_of l.arm.now) + 2

abbrev pub decreases-copy_arms : goal.decreases-copy_arms
decreases-copy_arms l = 4 * arms_depth (arms_of l.arms.now) + 3

abbrev pub invariant-copy_statements-loop-i : goal.invariant-copy_statements-loop-i
invariant-copy_statements-loop-i l = l.copies.items ≡ take l.i l.statements

abbrev pub invariant-copy_branches-loop-i : goal.invariant-copy_branches-loop-i
invariant-copy_branches-loop-i l = map branch_of l.copies.items ≡ map branch_of (take l.i l.branches)

abbrev pub invariant-copy_arms-loop-i : goal.invariant-copy_arms-loop-i
invariant-copy_arms-loop-i l = map arm_of l.copies.items ≡ map arm_of (take l.i l.arms)
