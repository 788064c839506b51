use Rattle.moo_text.proofs.Ascii.{text_utf8}
use Rattle.moo_text.proofs.characters.text_of.Goals as goal

pub unreachable-requires : goal.unreachable-requires
unreachable-requires c = c.in-Err.ensures.cases.0 (text_utf8 c.args.characters.now c.requires)
