use Rattle.std.proofs.Common.{◌≡◌, ◌∷◌, subst, w32, rules}
use Rattle.std.proofs.lemmas.Int.{to_z-of_z}
use Rattle.moo_code.specs.Machine.{verb}
use Rattle.moo_task.specs.Outcomes.{running_kept}
use Rattle.local_code.specs.declared.moo_run.stopped.Stop.{Stop}
use Rattle.steps.specs.Stops.{CanBeKept}
use Rattle.steps.proofs.Endings.{ends_settles, ticks_settle, waits_settle}
use Rattle.steps.proofs.step_runs.ending.after_stop.Goals as goal

pub waits-requires-clause-kept : goal.waits-requires-clause-kept
waits-requires-clause-kept g c = subst (λ (x : Stop). CanBeKept x (verb (running_kept c.args.task) ∷ c.args.task.outer)) c.in-Waits.is c.requires.kept

pub returns-in_ok-ending-in-Ends-clause-settles : goal.returns-in_ok-ending-in-Ends-clause-settles
returns-in_ok-ending-in-Ends-clause-settles g c w h =
    let view = g.V.View in
    let player = to_z-of_z w32 c.args.player c.ranges.player in
    let r = (rw player at c.in_ok-ending-in-Ends.ensures.settles) w h in (
      r.0,
      ends_settles c.args.player (verb (running_kept c.args.task) ∷ c.args.task.outer) c.in_ok-ending-in-Ends.ending c.args.deeds.now c.ended.new.deeds (view.now c.args.view.now w) (view.now c.ended.new.view w) c.args.stop c.in-Ends.end c.in-Ends.is r.1,
    )

pub returns-in_ok-ending-in-OutOfTicks-clause-settles : goal.returns-in_ok-ending-in-OutOfTicks-clause-settles
returns-in_ok-ending-in-OutOfTicks-clause-settles g c w h =
    let view = g.V.View in
    let player = to_z-of_z w32 c.args.player c.ranges.player in
    let verbs : c.deref.result.now ≡ c.in-OutOfTicks.verbs.items = search rules in
    let r = (rw (player, verbs) at c.in_ok-ending-in-OutOfTicks.ensures.settles) w h in (
      r.0,
      ticks_settle c.args.player (verb (running_kept c.args.task) ∷ c.args.task.outer) c.in_ok-ending-in-OutOfTicks.ending c.args.deeds.now c.ran_out.new.deeds (view.now c.args.view.now w) (view.now c.ran_out.new.view w) c.args.stop c.in-OutOfTicks.verbs
          c.in-OutOfTicks.is r.1,
    )

pub returns-in_ok-ending-in-Waits-clause-settles : goal.returns-in_ok-ending-in-Waits-clause-settles
returns-in_ok-ending-in-Waits-clause-settles g c w h =
    let view = g.V.View in
    let player = to_z-of_z w32 c.args.player c.ranges.player in
    let r = (rw player at c.in_ok-ending-in-Waits.ensures.settles) w h in (
      r.0,
      waits_settle c.args.player (verb (running_kept c.args.task) ∷ c.args.task.outer) c.in_ok-ending-in-Waits.ending c.args.deeds.now c.waits.new.deeds (view.now c.args.view.now w) (view.now c.waits.new.view w) c.args.stop c.in-Waits.waiting c.in-Waits.is r.1,
    )
