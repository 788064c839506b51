use Rattle.std.proofs.Common.{◌≡◌, ◌+◌, ◌*◌, [], ◌∷◌, ◌++◌, drop}
use Rattle.std.specs.Prelude.{codes}
use Rattle.spec_program.specs.Spelling.{program_lines, branches_lines, arms_lines}
use Rattle.moo_tree.specs.Depth.{statement_depth, program_depth, branches_depth, arms_depth}
use Rattle.moo_tree.specs.StatementView.{program_of, branches_of, branch_of, arms_of}
use Rattle.moo_printer.proofs.statement.+statement.Given as goal

abbrev pub decreases-put_statement : goal.decreases-put_statement
decreases-put_statement l = 5 * statement_depth l.statement.now

abbrev pub decreases-put_body : goal.decreases-put_body
decreases-put_body l = 5 * program_depth (program_of l.body.now) + 2

abbrev pub decreases-put_statements : goal.decreases-put_statements
decreases-put_statements l = 5 * program_depth (program_of l.statements.now) + 1

abbrev pub decreases-put_branches : goal.decreases-put_branches
decreases-put_branches l = 5 * branches_depth (branches_of l.branches.now) + 4

abbrev pub decreases-put_branch : goal.decreases-put_branch
decreases-put_branch l = 5 * branches_depth (branch_of l.branch.now) + 3

abbrev pub decreases-put_arms : goal.decreases-put_arms
decreases-put_arms l = 5 * arms_depth (arms_of l.arms.now) + 3

abbrev pub invariant-put_statements-loop-statement : goal.invariant-put_statements-loop-statement
invariant-put_statements-loop-statement l =
    l.lines.items ++ program_lines l.indent (program_of (drop l.statement-index l.statements)) ≡ l.fn.lines.items ++ program_lines l.indent (program_of l.statements)

abbrev pub invariant-put_branches-loop-branch : goal.invariant-put_branches-loop-branch
invariant-put_branches-loop-branch l =
    l.lines.items ++ branches_lines l.indent (codes "elseif") (branches_of (drop l.branch-index l.rest))
    ≡ l.fn.lines.items ++ branches_lines l.indent (105 ∷ 102 ∷ []) (branches_of l.branches)

abbrev pub invariant-put_arms-loop-arm : goal.invariant-put_arms-loop-arm
invariant-put_arms-loop-arm l =
    l.lines.items ++ arms_lines l.indent (arms_of (drop l.arm-index l.arms)) ≡ l.fn.lines.items ++ arms_lines l.indent (arms_of l.arms)
