use Rattle.std.proofs.Common.{refl, w32}
use Rattle.std.proofs.lemmas.Int.{to_z-of_z}
use Rattle.moo_task.specs.Meant.{failure_meant}
use Rattle.spec_moo.specs.Pending.{raised}
use Rattle.task_step.specs.declared.outcome.Ending.TheVariants.{Raised}
use Rattle.steps.proofs.Endings.{telling}
use Rattle.steps.proofs.step_runs.ending.failed.Goals as goal

pub returns-clause-settles : goal.returns-clause-settles
returns-clause-settles g c w h =
    let view = g.V.View in
    let player = to_z-of_z w32 c.args.player c.ranges.player in
    let r = (rw player at c.in_ok-tell.ensures.left) w h in (
      r.0,
      telling c.args.player (raised (failure_meant c.args.failure)) (Raised c.args.failure.code) c.args.deeds.now c.tell.new.deeds (view.now c.args.view.now w) (view.now c.tell.new.view w) c.in_ok-lines.lines.items tt refl
          c.in_ok-lines.ensures r.1.0 r.1.1,
    )
