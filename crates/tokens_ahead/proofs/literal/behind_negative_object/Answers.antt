use Rattle.std.proofs.Common.{◌∙◌, sym}
use Rattle.tokens_ahead.proofs.Literals.{negative_taken}
use Rattle.tokens_ahead.proofs.literal.behind_negative_object.Goals as goal

pub returns : goal.returns
returns c =
    negative_taken _ _ _ _ _ c.args.number c.requires c.behind_blanks-text.ensures (c.in_ok-minus.ensures) (c.in_ok-digits.ensures) (c.in_ok-rest.ensures) (sym c.continues_word.ensures ∙ c.if-continues_word.false)
