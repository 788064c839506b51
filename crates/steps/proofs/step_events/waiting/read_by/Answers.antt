use Rattle.std.proofs.Common.{◌≡◌, ◌∙◌, Some, None, ap, w32}
use Rattle.std.proofs.lemmas.Int.{to_z-of_z}
use Rattle.spec_value.specs.Table.{at}
use Rattle.spec_moo.specs.Steps.Running.{gone_on}
use Rattle.spec_moo.specs.Steps.Events.{read_by, resumed, with_own_task, foreground_ticks}
use Rattle.moo_task.specs.Deeds.{scene_of}
use Rattle.steps.proofs.StepsPlaying.{plays_told, plays_then, ready_told, told_still}
use Rattle.steps.specs.StepsPerformed.{came_to_of}
use Rattle.steps.proofs.step_events.waiting.read_by.Goals as goal

pub resume-requires-clause-ready : goal.resume-requires-clause-ready
resume-requires-clause-ready g c =
    ready_told g.V.View.holds g.V.View.now c.args.view.now c.read_task.new.view (λ w. at w.tasks c.args.id ≡ c.in_ok-task.task) c.args.deeds.now c.requires.ready
    (rw (to_z-of_z w32 c.args.id c.ranges.id) at c.in_ok-task.ensures.left)

pub resume-requires-clause-there : goal.resume-requires-clause-there
resume-requires-clause-there g c =
    rw (to_z-of_z w32 c.args.id c.ranges.id) (told_still g.V.View.holds g.V.View.now c.args.view.now c.read_task.new.view (λ w. at w.tasks c.args.id ≡ Some c.in-Some.task)
    (rw (to_z-of_z w32 c.args.id c.ranges.id, c.in-Some.is) at c.in_ok-task.ensures.left))

pub returns-in_ok-outcome-in-Some-clause-played : goal.returns-in_ok-outcome-in-Some-clause-played
returns-in_ok-outcome-in-Some-clause-played g c =
    let id = to_z-of_z w32 c.args.id c.ranges.id in
    plays_then g.V.View.holds g.V.View.now c.args.view.now c.read_task.new.view c.resume.new.view (λ w. at w.tasks c.args.id ≡ Some c.in-Some.task)
    (λ w. read_by (scene_of c.args.deeds.now w foreground_ticks) c.args.id c.args.value (at w.tasks c.args.id))
    (λ w. resumed (with_own_task (scene_of c.args.deeds.now w foreground_ticks) c.args.id) (gone_on c.in-Some.task c.in-Some.task.waiting c.args.value)) (came_to_of c.resume.new.deeds c.in_ok-outcome-in-Some.outcome)
    (rw (id, c.in-Some.is) at c.in_ok-task.ensures.left) (rw id at c.in_ok-outcome-in-Some.ensures.played)
    (λ w is. ap (read_by (scene_of c.args.deeds.now w foreground_ticks) c.args.id c.args.value) is)

pub returns-in-None-clause-played : goal.returns-in-None-clause-played
returns-in-None-clause-played g c =
    plays_told g.V.View.holds g.V.View.now c.args.view.now c.read_task.new.view (λ w. at w.tasks c.args.id ≡ None)
    (λ w. read_by (scene_of c.args.deeds.now w foreground_ticks) c.args.id c.args.value (at w.tasks c.args.id)) (came_to_of c.args.deeds.now c.nothing.result)
    (rw (to_z-of_z w32 c.args.id c.ranges.id, c.in-None.is) at c.in_ok-task.ensures.left)
    (λ w is. ap (read_by (scene_of c.args.deeds.now w foreground_ticks) c.args.id c.args.value) is ∙ c.nothing.ensures c.args.deeds.now w foreground_ticks)
