use Rattle.std.proofs.Common.{refl, subst, ◌∙◌, rules}
use Rattle.spec_world.specs.World.{World}
use Rattle.spec_moo.specs.Steps.{play1}
use Rattle.world.specs.Forks.{start_of, changed_in}
use Rattle.task_run.specs.Performed.{StepsTo}
use Rattle.task_run.proofs.Playing.{is_played}
use Rattle.task_run.proofs.list.play_step.Goals as goal

pub returns-clause-ok : goal.returns-clause-ok
returns-clause-ok c =
    let stepped : StepsTo (play1 c.args.world.now.plain c.args.step.now) (changed_in c.run_step.new.view) c.in_ok-outcome.outcome =
    subst (λ (w : World). StepsTo (play1 w c.args.step.now) (changed_in c.run_step.new.view) c.in_ok-outcome.outcome) c.open-live.ensures.unchanged
    (c.in_ok-outcome.ensures.played ((start_of c.run_step.new.view).plain) refl).1 in
    let kept = c.keep.ensures.plain ∙ stepped.0 in
    is_played _ _ _ (search (rules, kept), stepped.1)
