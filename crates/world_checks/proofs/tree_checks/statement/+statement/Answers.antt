use Rattle.std.proofs.Common.{◌≤◌, arith}
use Rattle.moo_tree.specs.Depth.{statement_depth, program_depth, branches_depth, arms_depth}
use Rattle.moo_tree.specs.StatementView.{program_of, branches_of, branch_of, arms_of, arm_of}
use Rattle.moo_tree.proofs.Sameness.{statement_within, branch_within, arm_within}
use Rattle.world_checks.proofs.tree_checks.statement.+statement.Goals as goal

pub program_fits-statement_fits-requires : goal.program_fits-statement_fits-requires
program_fits-statement_fits-requires t c =
    let h : statement_depth c.statement-item.result ≤ program_depth (program_of c.args.statements.now) = rw c.statement-item.is (statement_within _ _ _ c.loop-statement-test.true) in
    (omega (arith, h), tt)

pub branches_fit-branch_fits-requires : goal.branches_fit-branch_fits-requires
branches_fit-branch_fits-requires t c =
    let h : branches_depth (branch_of c.branch-item.result) ≤ branches_depth (branches_of c.args.branches.now) = rw c.branch-item.is (branch_within _ _ _ c.loop-branch-test.true) in
    (omega (arith, h), tt)

pub arms_fit-arm_fits-requires : goal.arms_fit-arm_fits-requires
arms_fit-arm_fits-requires t c =
    let h : arms_depth (arm_of c.arm-item.result) ≤ arms_depth (arms_of c.args.arms.now) = rw c.arm-item.is (arm_within _ _ _ c.loop-arm-test.true) in
    (omega (arith, h), tt)
