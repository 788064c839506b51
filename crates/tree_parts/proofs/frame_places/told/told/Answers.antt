use Rattle.tree_parts.proofs.Stored.{count_told, lines_told}
use Rattle.tree_parts.proofs.frame_places.told.told.Goals as goal

pub returns-clause-count : goal.returns-clause-count
returns-clause-count c = count_told c.args.task.now c.verbs.result.now c.as_slice.result.now c.verbs.ensures.kept c.verbs.ensures.task c.as_slice.ensures

pub returns-clause-lines : goal.returns-clause-lines
returns-clause-lines c = lines_told c.args.task.now c.verbs.result.now c.as_slice.result.now c.verbs.ensures.kept c.verbs.ensures.task c.as_slice.ensures
