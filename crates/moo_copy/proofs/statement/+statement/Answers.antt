use Rattle.std.proofs.Common.{◌≤◌, arith}
use Rattle.moo_tree.specs.Depth.{statement_depth, program_depth, branches_depth, arms_depth}
use Rattle.moo_tree.specs.StatementView.{program_of, branches_of, branch_of, arms_of, arm_of}
use Rattle.moo_tree.proofs.Sameness.{statement_within, branch_within, arm_within}
use Rattle.moo_copy.proofs.statement.+statement.Goals as goal

pub copy_statements-copy_statement-requires : goal.copy_statements-copy_statement-requires
copy_statements-copy_statement-requires t c =
    let h : statement_depth c.index-statements-i.result ≤ program_depth (program_of c.args.statements.now) = rw c.index-statements-i.is (statement_within _ _ _ c.loop-i-test.true) in
    (omega (arith, h), tt)

pub copy_branches-copy_branch-requires : goal.copy_branches-copy_branch-requires
copy_branches-copy_branch-requires t c =
    let h : branches_depth (branch_of c.index-branches-i.result) ≤ branches_depth (branches_of c.args.branches.now) = rw c.index-branches-i.is (branch_within _ _ _ c.loop-i-test.true) in
    (omega (arith, h), tt)

pub copy_arms-copy_arm-requires : goal.copy_arms-copy_arm-requires
copy_arms-copy_arm-requires t c =
    let h : arms_depth (arm_of c.index-arms-i.result) ≤ arms_depth (arms_of c.args.arms.now) = rw c.index-arms-i.is (arm_within _ _ _ c.loop-i-test.true) in
    (omega (arith, h), tt)
