use Rattle.spec_moo.specs.Steps.Outcomes.{comes_to}
use Rattle.rules.proofs.Tellings.{if_ok_as}
use Rattle.steps.proofs.step_runs.play.play_task.Goals as goal

pub returns-clause-played : goal.returns-clause-played
returns-clause-played g c =
    if_ok_as _ _ (λ o ran p may w h. let r = ran p may w h in (r.0, λ i. comes_to (r.1.scene i) (r.1.result i) (r.1.ticks i))) c.run_task.result c.run_task.ensures.ran
