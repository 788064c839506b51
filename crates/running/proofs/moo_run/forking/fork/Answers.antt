use Rattle.std.proofs.Common.{◌≡◌, ◌∙◌, ap, sym, subst, rules, w32, to_z, of_z}
use Rattle.spec_world.specs.World.{World}
use Rattle.moo_task.specs.Forking.{fork_shown, ReadsNowhere}
use Rattle.moo_task.specs.declared.moo_forks.fork.Fork.{Fork}
use Rattle.moo_task.specs.declared.outcome.Outcome.TheVariants.{On}
use Rattle.local_code.specs.Scenes.{scene_at, led_at}
use Rattle.running.proofs.Steps.{queued_agree}
use Rattle.running.proofs.moo_run.forking.fork.Goals as goal

pub returns-in_ok-outcome-in-NotStarted-clause-led : goal.returns-in_ok-outcome-in-NotStarted-clause-led
returns-in_ok-outcome-in-NotStarted-clause-led g c w h =
    let u : World = g.V.View.now c.args.view.now w in (
      h,
      c.in_ok-forked.ensures.shown u ∙ ap (λ (f : Fork). fork_shown f c.start_fork.new.deeds u c.start_fork.new.task) c.in-NotStarted.is
          ∙ c.in_ok-outcome-in-NotStarted.ensures (scene_at c.start_fork.new.deeds u c.start_fork.new.task),
    )

pub returns-in_ok-write_task-in-Started-clause-led : goal.returns-in_ok-write_task-in-Started-clause-led
returns-in_ok-write_task-in-Started-clause-led g c w h =
    let put = c.in_ok-write_task-in-Started.ensures.left w h in
    let whole : to_z w32 (of_z w32 c.in-Started.id) ≡ c.in-Started.id = search rules in
    let u : World = g.V.View.now c.args.view.now w in (
      put.0,
      c.in_ok-forked.ensures.shown u ∙ ap (λ (f : Fork). fork_shown f c.start_fork.new.deeds u c.start_fork.new.task) c.in-Started.is
          ∙ ap (λ (v : World). led_at On c.start_fork.new.deeds v c.start_fork.new.task) (sym (rw whole at put.1)),
    )

pub returns-in_ok-write_task-in-Started-clause-well_formed : goal.returns-in_ok-write_task-in-Started-clause-well_formed
returns-in_ok-write_task-in-Started-clause-well_formed g c =
    let whole : to_z w32 (of_z w32 c.in-Started.id) ≡ c.in-Started.id = search rules in
    queued_agree g.V.View.holds g.V.View.now c.args.view.now c.write_task.new.view c.in-Started.id c.in-Started.started (subst ReadsNowhere c.in-Started.is c.in_ok-forked.ensures.quiet) c.requires.well_formed (rw whole at c.in_ok-write_task-in-Started.ensures.left)
