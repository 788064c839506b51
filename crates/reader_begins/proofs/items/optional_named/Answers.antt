use Rattle.std.proofs.Common.{sym, ◌∙◌}
use Rattle.reader_begins.proofs.items.optional_named.Goals as goal

pub returns : goal.returns
returns c = rw (sym c.take_sign.ensures.there ∙ c.if-take_sign.false, ← c.take_sign.ensures.left) c.bare_optional.ensures
