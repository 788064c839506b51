use Rattle.moo_task.proofs.Copying.{begins}
use Rattle.moo_task.proofs.moo_forks.body.begun.Goals as goal

pub returns-clause-kept : goal.returns-clause-kept
returns-clause-kept c =
    begins c.args.frame.now c.args.body c.names-names.result.now c.in_ok-slots.further c.in_ok-slots.slots.items c.in_ok-call.call c.in_ok-start.start c.new.result
    c.names-names.ensures c.in_ok-slots.ensures.slots c.in_ok-slots.ensures.further c.in_ok-call.ensures c.in_ok-start.ensures.cases c.new.ensures
