use Rattle.std.proofs.Common.{◌∙◌, sym}
use Rattle.tokens_ahead.proofs.Taken.{keyword_taken}
use Rattle.tokens_ahead.proofs.word.behind_keyword.Goals as goal

pub returns : goal.returns
returns c =
    keyword_taken _ _ _ _ c.args.wanted c.behind_blanks-text.ensures c.spelling.ensures (c.in_ok-rest.ensures.word) (c.in_ok-rest.ensures.rest) (sym c.continues_word.ensures ∙ c.if-continues_word.false)
