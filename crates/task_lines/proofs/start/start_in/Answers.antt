use Rattle.std.proofs.Common.{sym, ◌∙◌}
use Rattle.spec_world.specs.Checkpoint.{start_values}
use Rattle.line_fields.proofs.Lists.{items_same}
use Rattle.task_lines.proofs.start.start_in.Goals as goal

pub returns-in-Some-clause-reads : goal.returns-in-Some-clause-reads
returns-in-Some-clause-reads c = λ s e. c.start_of.ensures.reads s (items_same c.in-Some.items.now (start_values s) (sym c.in-Some.ensures.reads ∙ e))
