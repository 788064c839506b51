use Rattle.std.proofs.Common.{◌≤◌, arith}
use Rattle.moo_tree.specs.Depth.{statement_depth, program_depth, branches_depth, arms_depth}
use Rattle.moo_tree.specs.StatementView.{program_of, branches_of, branch_of, arms_of, arm_of}
use Rattle.moo_tree.proofs.Sameness.{statement_within, branch_within, arm_within, mapped_at}
use Rattle.moo_tree.proofs.+same_statement.Goals as goal

pub same_statement::same_statements-same-requires : goal.same_statement::same_statements-same-requires
same_statement::same_statements-same-requires t c =
    let h : statement_depth c.index-xs-i.result ≤ program_depth (program_of c.args.xs.now) = rw c.index-xs-i.is (statement_within _ _ _ c.loop-i-test.true) in
    (omega (arith, h), tt)

pub same_statement::same_branches-same-requires : goal.same_statement::same_branches-same-requires
same_statement::same_branches-same-requires t c =
    let h : branches_depth (branch_of c.index-xs-i.result) ≤ branches_depth (branches_of c.args.xs.now) = rw c.index-xs-i.is (branch_within _ _ _ c.loop-i-test.true) in
    (omega (arith, h), tt)

pub same_statement::same_arms-same-requires : goal.same_statement::same_arms-same-requires
same_statement::same_arms-same-requires t c =
    let h : arms_depth (arm_of c.index-xs-i.result) ≤ arms_depth (arms_of c.args.xs.now) = rw c.index-xs-i.is (arm_within _ _ _ c.loop-i-test.true) in
    (omega (arith, h), tt)

pub same_statement::same_branches-returns-then-not-same : goal.same_statement::same_branches-returns-then-not-same
same_statement::same_branches-returns-then-not-same t c = (
  λ h. absurd (cc),
  λ e. c.if-not-same.ensures.1 (rw (c.index-xs-i.is, c.index-ys-i.is) (mapped_at branch_of c.args.xs.now c.args.ys.now c.loop-i.i c.index-xs-i.result c.index-ys-i.result c.loop-i-test.true e)),
)

pub same_statement::same_arms-returns-then-not-same : goal.same_statement::same_arms-returns-then-not-same
same_statement::same_arms-returns-then-not-same t c = (
  λ h. absurd (cc),
  λ e. c.if-not-same.ensures.1 (rw (c.index-xs-i.is, c.index-ys-i.is) (mapped_at arm_of c.args.xs.now c.args.ys.now c.loop-i.i c.index-xs-i.result c.index-ys-i.result c.loop-i-test.true e)),
)
