use Rattle.std.proofs.Common.{◌∙◌}
use Rattle.checkpoint_lines.proofs.Giving.{found_ok}
use Rattle.checkpoint_lines.proofs.row.Row.object.Goals as goal

pub returns-clause-reads : goal.returns-clause-reads
returns-clause-reads c = λ z h e. found_ok c.object.result z c.known.result _ (c.object.ensures.reads z h (c.field.ensures ∙ e)) c.known.ensures
