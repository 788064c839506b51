use Rattle.std.proofs.Common.{◌≡◌, ◌≤◌, ◌+◌, ◌*◌, drop}
use Rattle.spec_program.specs.Trees.{program_fits, branches_fit, arms_fit, program_height, branches_height, arms_height}
use Rattle.moo_tree.specs.StatementView.{program_of, branches_of, arms_of}
use Rattle.tree_grammar.proofs.statement.+statement.Given as goal

abbrev pub decreases-statement_fits : goal.decreases-statement_fits
decreases-statement_fits l = 6 * l.room

abbrev pub decreases-program_fits : goal.decreases-program_fits
decreases-program_fits l = 6 * l.room + 1

abbrev pub decreases-body_fits : goal.decreases-body_fits
decreases-body_fits l = 6 * l.room + 2

abbrev pub decreases-fork_fits : goal.decreases-fork_fits
decreases-fork_fits l = 6 * l.room + 2

abbrev pub decreases-some_branches_fit : goal.decreases-some_branches_fit
decreases-some_branches_fit l = 6 * l.room + 4

abbrev pub decreases-branches_fit : goal.decreases-branches_fit
decreases-branches_fit l = 6 * l.room + 3

abbrev pub decreases-branch_fits : goal.decreases-branch_fits
decreases-branch_fits l = 6 * l.room + 2

abbrev pub decreases-arms_fit : goal.decreases-arms_fit
decreases-arms_fit l = 6 * l.room + 3

abbrev pub decreases-arm_fits : goal.decreases-arm_fits
decreases-arm_fits l = 6 * l.room + 2

abbrev pub invariant-program_fits-loop-statement : goal.invariant-program_fits-loop-statement
invariant-program_fits-loop-statement l =
    (program_fits l.loops (program_of l.statements) ≡ program_fits l.loops (program_of (drop l.statement-index l.statements)))
    × (program_height (program_of (drop l.statement-index l.statements)) ≤ l.room → program_height (program_of l.statements) ≤ l.room)

abbrev pub invariant-branches_fit-loop-branch : goal.invariant-branches_fit-loop-branch
invariant-branches_fit-loop-branch l =
    (branches_fit l.loops (branches_of l.branches) ≡ branches_fit l.loops (branches_of (drop l.branch-index l.branches)))
    × (branches_height (branches_of (drop l.branch-index l.branches)) ≤ l.room → branches_height (branches_of l.branches) ≤ l.room)

abbrev pub invariant-arms_fit-loop-arm : goal.invariant-arms_fit-loop-arm
invariant-arms_fit-loop-arm l =
    (arms_fit l.loops (arms_of l.arms) ≡ arms_fit l.loops (arms_of (drop l.arm-index l.arms)))
    × (arms_height (arms_of (drop l.arm-index l.arms)) ≤ l.room → arms_height (arms_of l.arms) ≤ l.room)
