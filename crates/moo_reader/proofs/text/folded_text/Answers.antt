use Rattle.std.proofs.Common.{ap, ◌∙◌}
use Rattle.spec_value.specs.Datum.{is_text}
use Rattle.moo_reader.proofs.Texts.{fold_text}
use Rattle.moo_reader.proofs.text.folded_text.Goals as goal

pub text_of-requires : goal.text_of-requires
text_of-requires c = ap is_text (c.deref.ensures.value ∙ c.in_ok-folded.ensures) ∙ fold_text c.args.bytes.now c.requires
