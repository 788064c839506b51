use Rattle.std.proofs.Common.{Some, length, refl, sym, ap, ◌∙◌, arith}
use Rattle.std.proofs.lemmas.Option.{slice_get_read}
use Rattle.spec_program.specs.Place.{program_parts}
use Rattle.moo_tree.specs.StatementView.{program_of}
use Rattle.tree_parts.proofs.Nth.{nth_past, statements_counted, statement_at}
use Rattle.tree_parts.proofs.statement_parts.program_part.Goals as goal

pub returns-then-index-statements : goal.returns-then-index-statements
returns-then-index-statements c =
    let ss = c.args.statements.now in
    let at = slice_get_read ss (length ss) c.args.index c.index-statements-index.result refl c.if-index-statements.true c.index-statements-index.is in
    ap Some c.beside.ensures ∙ sym (statement_at ss c.args.index c.index-statements-index.result at)

pub returns-else-index-statements : goal.returns-else-index-statements
returns-else-index-statements c =
    let count = statements_counted c.args.statements.now in
    sym (nth_past (program_parts (program_of c.args.statements.now)) c.args.index (omega (arith, count, c.if-index-statements.false)))
