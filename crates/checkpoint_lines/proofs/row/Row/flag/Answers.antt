use Rattle.std.proofs.Common.{◌∙◌}
use Rattle.checkpoint_lines.proofs.Giving.{found_ok}
use Rattle.checkpoint_lines.proofs.row.Row.flag.Goals as goal

pub returns-clause-reads : goal.returns-clause-reads
returns-clause-reads c = λ b e. found_ok c.flag.result b c.known.result _ (c.flag.ensures.reads b (c.field.ensures ∙ e)) c.known.ensures
