use Rattle.std.proofs.Common.{◌≡◌, ◌+◌, ◌*◌, take, map}
use Rattle.moo_tree.specs.Depth.{statement_depth, program_depth, branches_depth, arms_depth}
use Rattle.moo_tree.specs.StatementView.{program_of, branches_of, branch_of, arms_of, arm_of}
use Rattle.moo_tree.proofs.+same_statement.Given as goal

abbrev pub decreases-statement::Statement::same : goal.decreases-statement::Statement::same
decreases-statement::Statement::same l = 4 * statement_depth l.self.now

abbrev pub decreases-statement::Branch::same : goal.decreases-statement::Branch::same
decreases-statement::Branch::same l = 4 * branches_depth (branch_of l.self.now) + 2

abbrev pub decreases-statement::Arm::same : goal.decreases-statement::Arm::same
decreases-statement::Arm::same l = 4 * arms_depth (arm_of l.self.now) + 2

abbrev pub decreases-same_statement::same_statements : goal.decreases-same_statement::same_statements
decreases-same_statement::same_statements l = 4 * program_depth (program_of l.xs.now) + 1

abbrev pub decreases-same_statement::same_branches : goal.decreases-same_statement::same_branches
decreases-same_statement::same_branches l = 4 * branches_depth (branches_of l.xs.now) + 3

abbrev pub decreases-same_statement::same_arms : goal.decreases-same_statement::same_arms
decreases-same_statement::same_arms l = 4 * arms_depth (arms_of l.xs.now) + 3

abbrev pub invariant-same_statement::same_statements-loop-i : goal.invariant-same_statement::same_statements-loop-i
invariant-same_statement::same_statements-loop-i l = take l.i l.xs ≡ take l.i l.ys

abbrev pub invariant-same_statement::same_branches-loop-i : goal.invariant-same_statement::same_branches-loop-i
invariant-same_statement::same_branches-loop-i l = map branch_of (take l.i l.xs) ≡ map branch_of (take l.i l.ys)

abbrev pub invariant-same_statement::same_arms-loop-i : goal.invariant-same_statement::same_arms-loop-i
invariant-same_statement::same_arms-loop-i l = map arm_of (take l.i l.xs) ≡ map arm_of (take l.i l.ys)
