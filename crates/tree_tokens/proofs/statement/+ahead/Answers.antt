use Rattle.std.proofs.Common.{◌≤◌, ap, arith}
use Rattle.moo_tree.specs.Depth.{statement_depth, program_depth, branches_depth, arms_depth}
use Rattle.moo_tree.specs.StatementView.{program_of, branches_of, branch_of, arms_of, arm_of}
use Rattle.moo_tree.proofs.Sameness.{statement_within, branch_within, arm_within}
use Rattle.tree_tokens.proofs.statement.+ahead.Goals as goal

pub behind_arms-behind_arm-requires : goal.behind_arms-behind_arm-requires
behind_arms-behind_arm-requires t c =
    let h : arms_depth (arm_of c.arm-item.result) ≤ arms_depth (arms_of c.args.arms.now) = rw c.arm-item.is (arm_within _ _ _ c.loop-arm-test.true) in
    (omega (arith, h), tt)

pub behind_statements-behind_statement-requires : goal.behind_statements-behind_statement-requires
behind_statements-behind_statement-requires t c =
    let h : statement_depth c.statement-item.result ≤ program_depth (program_of c.args.statements.now) = rw c.statement-item.is (statement_within _ _ _ c.loop-statement-test.true) in
    (omega (arith, h), tt)

pub behind_branches-behind_branch-requires-in-loop-branch : goal.behind_branches-behind_branch-requires-in-loop-branch
behind_branches-behind_branch-requires-in-loop-branch t c =
    let h : branches_depth (branch_of c.branch-item.result) ≤ branches_depth (branches_of c.in-Some.others.now) = rw c.branch-item.is (branch_within _ _ _ c.loop-branch-test.true) in
    let e = ap (λ bs. branches_depth (branches_of bs)) c.in-Some.ensures.cases.0 in
    (omega (arith, h, e), tt)
