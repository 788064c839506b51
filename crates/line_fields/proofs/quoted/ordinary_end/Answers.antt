use Rattle.std.proofs.Common.{take, subst, sym, ◌∙◌, IsTrue}
use Rattle.spec_value.specs.Datum.{is_text}
use Rattle.line_fields.proofs.Quotes.{run_through}
use Rattle.line_fields.proofs.quoted.ordinary_end.Goals as goal

pub returns-then-are_characters-clause-value : goal.returns-then-are_characters-clause-value
returns-then-are_characters-clause-value c =
    let all : IsTrue (is_text (take c.mark_end-end.result c.args.bytes.now)) = sym c.are_characters.ensures ∙ c.if-are_characters.true in
    c.mark_end-end.ensures.value ∙ run_through c.args.bytes.now (subst (λ k. IsTrue (is_text (take k c.args.bytes.now))) c.mark_end-end.ensures.value all)
