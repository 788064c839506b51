use Rattle.std.proofs.Common.{◌≡◌, ◌+◌, ◌*◌, suc, nat_eq, drop}
use Rattle.std.specs.Prelude.{max}
use Rattle.moo_tree.specs.Depth.{statement_depth, program_depth, branches_depth, arms_depth}
use Rattle.moo_tree.specs.StatementView.{program_of, branches_of, branch_of, arms_of}
use Rattle.moo_code.specs.Layout.{stop, program_layout, branches_layout, arms_layout}
use Rattle.moo_program.specs.Drafting.{around_of, state, over}
use Rattle.moo_program.specs.Branches.{otherwise_if}
use Rattle.moo_program.proofs.HandlerRows.{first_part}
use Rattle.moo_program.proofs.moo_bytecode.draft.Draft.+statement.Given as goal

abbrev pub decreases-statement : goal.decreases-statement
decreases-statement l = 8 * statement_depth l.statement.now

abbrev pub decreases-statement_part : goal.decreases-statement_part
decreases-statement_part l = 8 * statement_depth l.statement.now + 1

abbrev pub decreases-program : goal.decreases-program
decreases-program l = 8 * program_depth (program_of l.statements.now) + 2

abbrev pub decreases-program_part : goal.decreases-program_part
decreases-program_part l = 8 * program_depth (program_of l.statements.now) + 3

abbrev pub invariant-program-loop-i : goal.invariant-program-loop-i
invariant-program-loop-i l = state l.self ≡ over (program_layout (around_of l.around) (program_of (drop l.i l.statements))) (state l.initial.self)

abbrev pub decreases-if_branch : goal.decreases-if_branch
decreases-if_branch l = 8 * branches_depth (branch_of l.branch.now) + 4

abbrev pub decreases-if_branches : goal.decreases-if_branches
decreases-if_branches l = 8 * branches_depth (branches_of l.branches.now) + 5

abbrev pub invariant-if_branches-loop-i : goal.invariant-if_branches-loop-i
invariant-if_branches-loop-i l =
    state l.self ≡ over (branches_layout (around_of l.around) (nat_eq l.i 0) (suc (l.i + l.i)) (branches_of (drop l.i l.branches)) (otherwise_if l.followed) stop) (state l.initial.self)

abbrev pub decreases-if_with_else : goal.decreases-if_with_else
decreases-if_with_else l = 8 * max (branches_depth (branches_of l.branches.now)) (program_depth (program_of l.body.now)) + 6

abbrev pub decreases-arm : goal.decreases-arm
decreases-arm l = 8 * program_depth (program_of l.arm.now.body.items) + 4

abbrev pub decreases-arms : goal.decreases-arms
decreases-arms l = 8 * arms_depth (arms_of l.arms.now) + 5

abbrev pub invariant-arms-loop-i : goal.invariant-arms-loop-i
invariant-arms-loop-i l = state l.self ≡ over (arms_layout (around_of l.around) l.i (first_part 2 l.i l.arms) (arms_of (drop l.i l.arms))) (state l.initial.self)

abbrev pub decreases-try_except : goal.decreases-try_except
decreases-try_except l = 8 * max (program_depth (program_of l.body.now)) (arms_depth (arms_of l.arms.now)) + 6
