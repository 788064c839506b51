use Rattle.std.proofs.Common.{◌≡◌, ◌-◌, refl, w32, to_z, of_z, rules}
use Rattle.rules.proofs.InheritStanding.{agreeing_stands}
use Rattle.moo_task.specs.Outcomes.{running_kept, ticks_of}
use Rattle.steps.specs.Stops.{left_at}
use Rattle.steps.specs.declared.step_tasks.finish.Finish.{Finish}
use Rattle.steps.proofs.Runs.{loops, can_be_kept, has_run, value_ready}
use Rattle.steps.proofs.step_runs.run.run_task.Goals as goal

pub run-requires-clause-well_formed : goal.run-requires-clause-well_formed
run-requires-clause-well_formed g c w h = agreeing_stands (g.V.View.now c.args.view.now w) (c.requires.ready w h 0).agrees.world

pub run-requires-clause-under_way : goal.run-requires-clause-under_way
run-requires-clause-under_way g c = loops (running_kept c.args.task) c.args.task.outer c.requires.runs.1.under_way

pub after_stop-requires-clause-kept : goal.after_stop-requires-clause-kept
after_stop-requires-clause-kept g c =
    let view = g.V.View in
    let home = view.home c.run.new.view in
    let l = c.in_ok-stop.ensures.stopped home c.in_ok-stop.ensures.lasts.home_is_left in
    can_be_kept c.args.deeds.now c.run.new.deeds (view.now c.args.view.now home) (view.now c.run.new.view home) c.args.task c.run.new.task c.requires.runs.0 c.in_ok-stop.stop c.requires.runs.1
    (c.requires.ready home l.0 (ticks_of c.args.task)) l.1

pub returns-clause-ran : goal.returns-clause-ran
returns-clause-ran g c p may w h =
    let view = g.V.View in
    let player : to_z w32 (of_z w32 c.args.task.player) ≡ c.args.task.player = search rules in
    let k = (rw player at c.in_ok-ending.ensures.settles) w h in
    let l = c.in_ok-stop.ensures.stopped w k.0 in (
      l.0,
      has_run c.args.deeds.now c.run.new.deeds (view.now c.args.view.now w) (view.now c.run.new.view w) c.args.task c.run.new.task p c.in_ok-stop.stop may (c.requires.ready w l.0 (ticks_of c.args.task)) l.1
          c.after_stop.new.deeds (view.now c.after_stop.new.view w) c.args.task.player _ refl k.1 (search rules),
    )

pub returns-clause-ready : goal.returns-clause-ready
returns-clause-ready g c value w h t =
    let view = g.V.View in
    let player : to_z w32 (of_z w32 c.args.task.player) ≡ c.args.task.player = search rules in
    let k = (rw player at c.in_ok-ending.ensures.settles) w h in
    let l = c.in_ok-stop.ensures.stopped w k.0 in
    let r : Finish = record { ending = c.in_ok-ending.ending; ticks = ticks_of c.args.task - left_at c.in_ok-stop.stop (ticks_of c.run.new.task) } in
    value_ready c.args.deeds.now c.run.new.deeds (view.now c.args.view.now w) (view.now c.run.new.view w) c.args.task c.run.new.task c.requires.runs.0 c.in_ok-stop.stop c.requires.runs.1
    (c.requires.ready w l.0 (ticks_of c.args.task)) l.1 c.after_stop.new.deeds (view.now c.after_stop.new.view w) c.args.task.player r refl k.1 refl value t
