use Rattle.std.proofs.Common.{◌∙◌, ap, sym, length, Some, None}
use Rattle.std.proofs.lemmas.Bool.{eqb-true}
use Rattle.spec_value.specs.TextSearch.{last_at}
use Rattle.moo_text.proofs.Standing.{last_is, last_of_nothing}
use Rattle.moo_text.proofs.search.find_last.Goals as goal

pub returns-then-is_empty : goal.returns-then-is_empty
returns-then-is_empty c = last_of_nothing c.args.case_counts c.args.text.now c.args.sought.now (eqb-true (length c.args.sought.now) 0 (sym c.if-is_empty.ensures))

pub returns-in_err-behind : goal.returns-in_err-behind
returns-in_err-behind c =
    let found = rw c.as_bytes.ensures.value at c.in_err-behind.ensures in
    c.from_residual.ensures
    ∙ last_is c.args.case_counts c.args.text.now c.as_bytes-sought.result.now None found
    ∙ ap (last_at c.args.case_counts c.args.text.now) c.as_bytes-sought.ensures.value

pub returns : goal.returns
returns c =
    let found = rw c.as_bytes.ensures.value at c.in_ok-behind.ensures in
    last_is c.args.case_counts c.args.text.now c.as_bytes-sought.result.now (Some c.in_ok-behind.behind) found
    ∙ ap (last_at c.args.case_counts c.args.text.now) c.as_bytes-sought.ensures.value
