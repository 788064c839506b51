use Rattle.std.proofs.Common.{sym, ap, ◌∙◌}
use Rattle.spec_value.specs.Datum.{fold_case}
use Rattle.moo_token.specs.Tokens.{keyword_of, error_of}
use Rattle.moo_token.proofs.ReservedWords.{keyword_is, error_is, identifier_is}
use Rattle.moo_token.proofs.words.word_token.Goals as goal

pub returns-in-Some : goal.returns-in-Some
returns-in-Some c = keyword_is c.args.word.items _ c.in-Some.keyword (c.deref-2.ensures.value ∙ c.in_ok-folded.ensures ∙ ap fold_case c.deref.ensures.value) (sym c.in-Some.is ∙ c.keyword_of.ensures)

pub returns-in-Some-error_of : goal.returns-in-Some-error_of
returns-in-Some-error_of c =
    error_is c.args.word.items c.in_ok-folded.folded.items c.in-Some-error_of.error (c.in_ok-folded.ensures ∙ ap fold_case c.deref.ensures.value)
    (sym c.in-None.is ∙ c.keyword_of.ensures ∙ ap keyword_of c.deref-2.ensures.value) (sym c.in-Some-error_of.is ∙ c.error_of.ensures ∙ ap error_of c.deref-in-None.ensures.value)

pub returns-in-None-error_of : goal.returns-in-None-error_of
returns-in-None-error_of c =
    identifier_is c.args.word.items c.in_ok-folded.folded.items (c.in_ok-folded.ensures ∙ ap fold_case c.deref.ensures.value)
    (sym c.in-None.is ∙ c.keyword_of.ensures ∙ ap keyword_of c.deref-2.ensures.value) (sym c.in-None-error_of.is ∙ c.error_of.ensures ∙ ap error_of c.deref-in-None.ensures.value)
