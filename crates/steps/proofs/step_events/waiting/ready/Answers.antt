use Rattle.std.proofs.Common.{◌≡◌, ◌∙◌, Some, None, ap, sym, w32}
use Rattle.std.proofs.lemmas.Int.{to_z-of_z}
use Rattle.spec_value.specs.Table.{at}
use Rattle.spec_moo.specs.Steps.Events.{ready_at, ready_run, is_due}
use Rattle.steps.proofs.StepsPlaying.{plays_told, plays_then, ready_told, told_still}
use Rattle.steps.specs.StepsPerformed.{came_to_of}
use Rattle.steps.proofs.step_events.waiting.ready.Goals as goal

pub ready_run-requires-clause-ready : goal.ready_run-requires-clause-ready
ready_run-requires-clause-ready g c =
    ready_told g.V.View.holds g.V.View.now c.args.view.now c.read_task.new.view (λ w. at w.tasks c.args.id ≡ c.in_ok-task.task) c.args.deeds.now c.requires.ready
    (rw (to_z-of_z w32 c.args.id c.ranges.id) at c.in_ok-task.ensures.left)

pub ready_run-requires-clause-there : goal.ready_run-requires-clause-there
ready_run-requires-clause-there g c =
    rw (to_z-of_z w32 c.args.id c.ranges.id) (told_still g.V.View.holds g.V.View.now c.args.view.now c.read_task.new.view (λ w. at w.tasks c.args.id ≡ Some c.in-Some.task)
    (rw (to_z-of_z w32 c.args.id c.ranges.id, c.in-Some.is) at c.in_ok-task.ensures.left))

pub returns-in_ok-outcome-in-Some-clause-played : goal.returns-in_ok-outcome-in-Some-clause-played
returns-in_ok-outcome-in-Some-clause-played g c s opening =
    let id = to_z-of_z w32 c.args.id c.ranges.id in
    plays_then g.V.View.holds g.V.View.now c.args.view.now c.read_task.new.view c.ready_run.new.view (λ w. at w.tasks c.args.id ≡ Some c.in-Some.task)
    (λ w. ready_at s w c.args.id (at w.tasks c.args.id)) (λ w. ready_run s w c.args.id c.in-Some.task (is_due s.moment c.in-Some.task.waiting)) (came_to_of c.ready_run.new.deeds c.in_ok-outcome-in-Some.outcome)
    (rw (id, c.in-Some.is) at c.in_ok-task.ensures.left) ((rw id at c.in_ok-outcome-in-Some.ensures.played) s opening) (λ w is. ap (ready_at s w c.args.id) is)

pub returns-in-None-clause-played : goal.returns-in-None-clause-played
returns-in-None-clause-played g c s opening =
    plays_told g.V.View.holds g.V.View.now c.args.view.now c.read_task.new.view (λ w. at w.tasks c.args.id ≡ None) (λ w. ready_at s w c.args.id (at w.tasks c.args.id)) (came_to_of c.args.deeds.now c.idle.result)
    (rw (to_z-of_z w32 c.args.id c.ranges.id, c.in-None.is) at c.in_ok-task.ensures.left) (λ w is. ap (ready_at s w c.args.id) is ∙ sym (c.idle.ensures s c.args.deeds.now opening w))
