use Rattle.std.proofs.Common.{ap, sym, ◌∙◌, is_some}
use Rattle.due_table.proofs.OneMoment.{is_some-now, tells_there, tells_absent}
use Rattle.due_table.proofs.keys.is_in.Goals as goal

pub returns-clause-there : goal.returns-clause-there
returns-clause-there c = tells_there c.args.key _ _ (c.is_some.ensures ∙ sym (is_some-now _ c.get.result) ∙ ap is_some c.get.ensures) c.len-sorted.ensures.sorted

pub returns-clause-absent : goal.returns-clause-absent
returns-clause-absent c = tells_absent c.args.key _ _ (c.is_some.ensures ∙ sym (is_some-now _ c.get.result) ∙ ap is_some c.get.ensures)
