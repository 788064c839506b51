use Rattle.std.proofs.Common.{◌∷◌, [], ap, sym, ◌∙◌}
use Rattle.task_lines.proofs.Loops.{onto_more}
use Rattle.task_lines.proofs.held.operands.Goals as goal

pub loop-value-preserved : goal.loop-value-preserved
loop-value-preserved c = c.in_ok-push.ensures.ok ∙ ap (λ vs. c.in-Some.value ∷ vs) c.loop-value.invariant ∙ sym (onto_more c.loop-value.yielded c.in-Some.value [])
