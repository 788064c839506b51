use Rattle.std.proofs.Common.{◌∙◌}
use Rattle.checkpoint_lines.proofs.Giving.{found_ok}
use Rattle.checkpoint_lines.proofs.row.Row.number.Goals as goal

pub returns-clause-reads : goal.returns-clause-reads
returns-clause-reads c = λ n l m e. found_ok c.natural.result n c.known.result _ (c.natural.ensures.reads n l m (c.field.ensures ∙ e)) c.known.ensures
