use Rattle.moo_reader.proofs.Texts.{text_utf8}
use Rattle.moo_reader.proofs.text.text_of.Goals as goal

pub unreachable-requires : goal.unreachable-requires
unreachable-requires c = c.in-Err.ensures.cases.0 (text_utf8 c.args.bytes.now c.requires)
