use Rattle.std.proofs.Common.{Some, None, to_z, of_z, w32}
use Rattle.std.proofs.lemmas.Int.{to_z-of_z}
use Rattle.spec_world.specs.Questions.{new_task, apply}
use Rattle.spec_moo.specs.Steps.Running.{gone_on}
use Rattle.spec_ready.proofs.Readiness.{tasks_leave, going_on_stands}
use Rattle.moo_task.specs.Deeds.{scene_of}
use Rattle.moo_task.specs.Outcomes.{ticks_of}
use Rattle.steps.proofs.Beginnings.{may_go_on}
use Rattle.steps.proofs.StepsPlaying.{ready_changed}
use Rattle.steps.proofs.Resuming.{resumes}
use Rattle.steps.specs.StepsPerformed.{came_to_of}
use Rattle.steps.proofs.step_events.waiting.resume.Goals as goal

pub play_task-requires-clause-ready : goal.play_task-requires-clause-ready
play_task-requires-clause-ready g c =
    let view = g.V.View in
    rw (to_z-of_z w32 c.args.id c.ranges.id) (ready_changed view.holds view.now c.args.view.now c.write_task.new.view (apply (new_task c.args.id None)) c.args.deeds.now (record c.args.deeds.now { task = Some c.args.id }) c.requires.ready
    (rw (to_z-of_z w32 c.args.id c.ranges.id) at c.in_ok-write_task.ensures.left)
    (λ w t h r. tasks_leave (scene_of c.args.deeds.now (view.now c.args.view.now w) t) c.args.id c.args.task.now (c.requires.there w h) r))

pub play_task-requires-clause-runs : goal.play_task-requires-clause-runs
play_task-requires-clause-runs g c =
    let view = g.V.View in
    let home = view.home c.args.view.now in
    let m = may_go_on (gone_on c.args.task.now c.args.task.now.waiting c.args.value) c.in_ok-running.running c.in_ok-running.ensures.pending c.in_ok-running.ensures.under_way
    (λ p is. going_on_stands (scene_of c.args.deeds.now (view.now c.args.view.now home) 0) c.args.id c.args.task.now c.args.value p (c.requires.ready home c.requires.home 0) (c.requires.there home c.requires.home) is) in
    (m.0, m.1.1)

pub returns-clause-played : goal.returns-clause-played
returns-clause-played g c =
    let view = g.V.View in
    let home = view.home c.args.view.now in
    let id = to_z-of_z w32 c.args.id c.ranges.id in
    resumes view.holds view.now c.args.view.now c.write_task.new.view c.play_task.new.view c.args.deeds.now c.args.id (to_z w32 (of_z w32 c.args.id)) c.args.ticks (ticks_of c.in_ok-running.running) (came_to_of c.play_task.new.deeds c.in_ok-outcome.outcome)
    (gone_on c.args.task.now c.args.task.now.waiting c.args.value) c.in_ok-running.running id c.in_ok-running.ensures.ticks (rw id at c.in_ok-write_task.ensures.left)
    (may_go_on (gone_on c.args.task.now c.args.task.now.waiting c.args.value) c.in_ok-running.running c.in_ok-running.ensures.pending c.in_ok-running.ensures.under_way
    (λ p is. going_on_stands (scene_of c.args.deeds.now (view.now c.args.view.now home) 0) c.args.id c.args.task.now c.args.value p (c.requires.ready home c.requires.home 0) (c.requires.there home c.requires.home) is))
    c.in_ok-outcome.ensures.played
