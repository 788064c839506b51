use Rattle.std.proofs.Common.{◌∙◌, ap, sym, length}
use Rattle.std.proofs.lemmas.Bool.{eqb-true}
use Rattle.spec_value.specs.TextSearch.{first_at}
use Rattle.moo_text.proofs.Standing.{first_is, first_of_nothing}
use Rattle.moo_text.proofs.search.find.Goals as goal

pub returns-then-is_empty : goal.returns-then-is_empty
returns-then-is_empty c = first_of_nothing c.args.case_counts c.args.text.now c.args.sought.now (eqb-true (length c.args.sought.now) 0 (sym c.if-is_empty.ensures))

pub returns : goal.returns
returns c =
    let found = rw c.as_bytes.ensures.value at c.first_from.ensures in
    first_is c.args.case_counts c.args.text.now c.as_bytes-sought.result.now c.first_from.result found
    ∙ ap (first_at c.args.case_counts c.args.text.now) c.as_bytes-sought.ensures.value
