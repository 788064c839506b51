use Rattle.std.proofs.Common.{◌∙◌}
use Rattle.line_fields.specs.Bits.{bits_of_verb}
use Rattle.checkpoint_lines.proofs.Giving.{found_ok}
use Rattle.checkpoint_lines.proofs.row.Row.verb_bits.Goals as goal

pub returns-clause-reads : goal.returns-clause-reads
returns-clause-reads c = λ v e. found_ok c.verb_bits.result (bits_of_verb v) c.known.result _ (c.verb_bits.ensures.reads v (c.field.ensures ∙ e)) c.known.ensures
