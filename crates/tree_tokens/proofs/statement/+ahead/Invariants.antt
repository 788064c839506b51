use Rattle.std.proofs.Common.{◌≡◌, ◌+◌, ◌*◌, List, ◌++◌, drop}
use Rattle.spec_program.specs.Tokens as t
use Rattle.spec_program.specs.Tokens.{Token}
use Rattle.spec_spelling.specs.ProgramTokens.{program_tokens, branches_tokens, arms_tokens}
use Rattle.moo_tree.specs.Depth.{statement_depth, program_depth, branches_depth, arms_depth}
use Rattle.moo_tree.specs.StatementView.{program_of, branches_of, branch_of, arms_of, arm_of}
use Rattle.tokens_ahead.specs.Bare.{bare}
use Rattle.tree_tokens.proofs.statement.+ahead.Given as goal

abbrev pub decreases-behind_statement : goal.decreases-behind_statement
decreases-behind_statement l = 5 * statement_depth l.statement.now

abbrev pub decreases-behind_body : goal.decreases-behind_body
decreases-behind_body l = 5 * program_depth (program_of l.body.now) + 2

abbrev pub decreases-behind_statements : goal.decreases-behind_statements
decreases-behind_statements l = 5 * program_depth (program_of l.statements.now) + 1

abbrev pub decreases-behind_branches : goal.decreases-behind_branches
decreases-behind_branches l = 5 * branches_depth (branches_of l.branches.now) + 4

abbrev pub decreases-behind_branch : goal.decreases-behind_branch
decreases-behind_branch l = 5 * branches_depth (branch_of l.branch.now) + 3

abbrev pub decreases-behind_arms : goal.decreases-behind_arms
decreases-behind_arms l = 5 * arms_depth (arms_of l.arms.now) + 4

abbrev pub decreases-behind_arm : goal.decreases-behind_arm
decreases-behind_arm l = 5 * arms_depth (arm_of l.arm.now) + 3

abbrev pub invariant-behind_statements-loop-statement : goal.invariant-behind_statements-loop-statement
invariant-behind_statements-loop-statement l =
    (ks : List Token) → bare l.rest ≡ program_tokens (program_of (drop l.statement-index l.statements)) ++ ks
    → bare l.fn.text ≡ program_tokens (program_of l.statements) ++ ks

abbrev pub invariant-behind_branches-loop-branch : goal.invariant-behind_branches-loop-branch
invariant-behind_branches-loop-branch l =
    (ks : List Token) → bare l.rest ≡ branches_tokens t.elseif_word (branches_of (drop l.branch-index l.others)) ++ ks
    → bare l.fn.text ≡ branches_tokens t.if_word (branches_of l.branches) ++ ks

abbrev pub invariant-behind_arms-loop-arm : goal.invariant-behind_arms-loop-arm
invariant-behind_arms-loop-arm l =
    (ks : List Token) → bare l.rest ≡ arms_tokens (arms_of (drop l.arm-index l.arms)) ++ ks
    → bare l.fn.text ≡ arms_tokens (arms_of l.arms) ++ ks
