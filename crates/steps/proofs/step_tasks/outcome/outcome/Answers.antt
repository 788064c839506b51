use Rattle.std.proofs.Common.{◌∙◌, ap, sym, map}
use Rattle.moo_task.specs.Deeds.{told_of, queued_of}
use Rattle.task_step.specs.OutcomeView.{result_of}
use Rattle.steps.proofs.step_tasks.outcome.outcome.Goals as goal

pub returns : goal.returns
returns c w =
    let output = sym (c.in_ok-output.ensures ∙ ap (map told_of) c.deref.ensures.value) in
    let queued = sym (c.in_ok-queued.ensures ∙ ap (map queued_of) c.deref-2.ensures.value) in
    let closed = sym (c.in_ok-closed.ensures ∙ c.deref-3.ensures.value) in
    λ i. (
      w,
      record {
        result = result_of c.args.finish.ending;
        ticks_used = c.args.finish.ticks;
        output = output i;
        queued = queued i;
        closed = closed i;
        checkpoint = c.args.deeds.now.checkpoint;
      },
    )
