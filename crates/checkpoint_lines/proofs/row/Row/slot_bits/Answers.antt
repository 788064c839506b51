use Rattle.std.proofs.Common.{◌∙◌}
use Rattle.line_fields.specs.Bits.{bits_of_slot}
use Rattle.checkpoint_lines.proofs.Giving.{found_ok}
use Rattle.checkpoint_lines.proofs.row.Row.slot_bits.Goals as goal

pub returns-clause-reads : goal.returns-clause-reads
returns-clause-reads c = λ s e. found_ok c.slot_bits.result (bits_of_slot s) c.known.result _ (c.slot_bits.ensures.reads s (c.field.ensures ∙ e)) c.known.ensures
