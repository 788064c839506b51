use Rattle.line_fields.proofs.ValuesTold.{no_quote, whole_text}
use Rattle.line_fields.proofs.held.text_literal.Goals as goal

pub returns-in_default-clause-fault : goal.returns-in_default-clause-fault
returns-in_default-clause-fault c = no_quote c.args.text.now c.in_default.ensures

pub returns-then-is_empty-clause-fault : goal.returns-then-is_empty-clause-fault
returns-then-is_empty-clause-fault c =
    let f = rw c.in-Some-2.is at c.in_ok-found.ensures.tells in
    whole_text c.args.text.now c.in-Some.behind.now c.in-Some-2.found c.in-Some-2.rest c.is_empty.result c.in-Some.ensures f c.is_empty.ensures c.if-is_empty.true c.know.ensures
