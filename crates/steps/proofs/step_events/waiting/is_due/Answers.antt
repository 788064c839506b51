use Rattle.std.proofs.Common.{◌∙◌, ap, sym}
use Rattle.steps.proofs.Dues.{passed, due_once_passed}
use Rattle.steps.proofs.step_events.waiting.is_due.Goals as goal

pub returns-in-Some : goal.returns-in-Some
returns-in-Some c = ap (passed c.args.moment) (sym c.in-Some.is ∙ c.due.ensures) ∙ due_once_passed c.args.moment c.args.task.now.waiting

pub returns-in-None : goal.returns-in-None
returns-in-None c = ap (passed c.args.moment) (sym c.in-None.is ∙ c.due.ensures) ∙ due_once_passed c.args.moment c.args.task.now.waiting
