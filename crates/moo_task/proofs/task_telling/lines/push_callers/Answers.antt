use Rattle.std.proofs.Common.{◌∷◌, [], ◌++◌, ◌∙◌, ap}
use Rattle.spec_value.specs.Datum.{Text}
use Rattle.moo_task.proofs.Callers.{one_caller}
use Rattle.moo_task.proofs.task_telling.lines.push_callers.Goals as goal

pub loop-verb-preserved : goal.loop-verb-preserved
loop-verb-preserved c =
    one_caller _ _ _ c.args.verbs.now c.loop-verb.verb-index c.verb-item.result c.loop-verb-test.true c.verb-item.is
    (c.in_ok-push.ensures.items ∙ ap (λ (t : Text). c.loop-verb.lines.items ++ t ∷ []) c.in_ok-line.ensures) c.loop-verb.invariant
