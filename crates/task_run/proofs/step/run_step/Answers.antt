use Rattle.std.proofs.Common.{rules}
use Rattle.spec_moo.specs.Steps.{play1}
use Rattle.task_run.proofs.Playing.{answer_stepped}
use Rattle.task_run.proofs.step.run_step.Goals as goal

pub returns-clause-played : goal.returns-clause-played
returns-clause-played g c =
    answer_stepped g.V.View.holds g.V.View.now c.args.view.now c.play_step.new.view (λ w. play1 w c.args.step.now) c.play_step.result c.play_step.ensures.played
