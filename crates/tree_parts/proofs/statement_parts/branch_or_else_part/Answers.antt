use Rattle.std.proofs.Common.{◌-◌, ◌*◌, ◌∷◌, [], length, ap, sym, ◌∙◌, arith}
use Rattle.spec_program.specs.Construct.{of_program}
use Rattle.spec_program.specs.Place.{part, nth, branch_parts}
use Rattle.moo_tree.specs.StatementView.{branches_of, program_of}
use Rattle.tree_parts.proofs.Nth.{nth_before, nth_behind, branches_counted}
use Rattle.tree_parts.proofs.statement_parts.branch_or_else_part.Goals as goal

pub returns-then-index-branches : goal.returns-then-index-branches
returns-then-index-branches c =
    let bs = c.args.branches.now in
    let rest = part (of_program (program_of c.args.otherwise.now)) [] ∷ [] in
    c.branch_part.ensures ∙ sym (nth_before (branch_parts (branches_of bs)) rest c.args.index (omega (arith, branches_counted bs, c.if-index-branches.true)))

pub returns-else-index-branches : goal.returns-else-index-branches
returns-else-index-branches c =
    let bs = c.args.branches.now in
    let rest = part (of_program (program_of c.args.otherwise.now)) [] ∷ [] in
    let m = c.args.index - 2 * length bs in
    c.sole.ensures ∙ ap (λ p. nth (p ∷ []) m) c.alone.ensures
    ∙ sym (nth_behind (branch_parts (branches_of bs)) rest c.args.index m (omega (arith, branches_counted bs, c.if-index-branches.false)))
