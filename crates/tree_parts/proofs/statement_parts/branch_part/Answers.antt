use Rattle.std.proofs.Common.{◌/◌, ◌%◌, length, refl, sym, ◌∙◌, arith}
use Rattle.std.proofs.lemmas.Option.{slice_get_read}
use Rattle.spec_program.specs.Place.{branch_parts}
use Rattle.moo_tree.specs.StatementView.{branches_of}
use Rattle.tree_parts.proofs.Nth.{nth_past, branches_counted, branch_at}
use Rattle.tree_parts.proofs.statement_parts.branch_part.Goals as goal

pub returns-then-place-branches : goal.returns-then-place-branches
returns-then-place-branches c =
    let bs = c.args.branches.now in
    let at = slice_get_read bs (length bs) (c.args.index / 2) c.index-branches-place.result refl c.if-place-branches.true c.index-branches-place.is in
    c.of_branch.ensures ∙ sym (branch_at bs (c.args.index / 2) c.args.index (c.args.index % 2) c.index-branches-place.result at (omega arith) (omega arith))

pub returns-else-place-branches : goal.returns-else-place-branches
returns-else-place-branches c =
    let count = branches_counted c.args.branches.now in
    sym (nth_past (branch_parts (branches_of c.args.branches.now)) c.args.index (omega (arith, count, c.if-place-branches.false)))
