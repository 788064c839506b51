use Rattle.std.proofs.Common.{◌∙◌, sym}
use Rattle.tokens_ahead.proofs.Literals.{error_taken}
use Rattle.tokens_ahead.proofs.literal.behind_error.Goals as goal

pub returns : goal.returns
returns c =
    error_taken _ _ _ _ _ (c.as_bytes.ensures.value ∙ c.name.ensures) c.behind_blanks-text.ensures (c.in_ok-rest.ensures) (sym c.continues_word.ensures ∙ c.if-continues_word.false)
