use Rattle.std.proofs.Common.{◌∙◌}
use Rattle.line_fields.specs.Bits.{flags_of}
use Rattle.checkpoint_lines.proofs.Giving.{found_ok}
use Rattle.checkpoint_lines.proofs.row.Row.object_flags.Goals as goal

pub returns-clause-reads : goal.returns-clause-reads
returns-clause-reads c = λ x e. found_ok c.object_flags.result (flags_of x) c.known.result _ (c.object_flags.ensures.reads x (c.field.ensures ∙ e)) c.known.ensures
