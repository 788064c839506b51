use Rattle.tokens_ahead.proofs.Literals.{string_taken}
use Rattle.tokens_ahead.proofs.literal.behind_string.Goals as goal

pub returns : goal.returns
returns c =
    string_taken _ _ _ _ c.args.characters.now c.behind_byte-2.result c.requires c.behind_blanks-text.ensures (c.in_ok-open.ensures) (c.in_ok-close.ensures) c.behind_byte-2.ensures
