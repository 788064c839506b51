use Rattle.std.proofs.Common.{◌∙◌, sym}
use Rattle.tokens_ahead.proofs.Literals.{integer_taken}
use Rattle.tokens_ahead.proofs.literal.behind_integer.Goals as goal

pub returns : goal.returns
returns c =
    integer_taken _ _ _ c.args.number c.requires c.behind_blanks-text.ensures (c.in_ok-rest.ensures) (sym c.continues_word.ensures ∙ c.if-continues_word.false)
