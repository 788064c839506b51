use Rattle.std.proofs.Common.{ap, sym}
use Rattle.spec_moo.specs.Scene.{Scene}
use Rattle.spec_moo.specs.Steps.Outcomes.{comes_to}
use Rattle.task_step.specs.OutcomeView.{result_of}
use Rattle.steps.proofs.step_tasks.finish.Finish.idle.Goals as goal

pub returns : goal.returns
returns c s d opening w = ap (λ (x : Scene). comes_to x (result_of c.args.ending) 0) (sym (opening w 0))
