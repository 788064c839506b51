use Rattle.std.proofs.Common.{sym, ◌∙◌}
use Rattle.reader_blocks.proofs.heads.for_named.Goals as goal

pub returns : goal.returns
returns c = rw (sym c.take_keyword.ensures.there ∙ c.if-not-take_keyword.false, ← c.take_keyword.ensures.left) c.for_in.ensures
