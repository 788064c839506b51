use Rattle.std.proofs.Common.{◌≡◌, ◌∙◌, ℤ, Some, None, ap, sym, subst, w32}
use Rattle.std.proofs.lemmas.Int.{to_z-of_z}
use Rattle.spec_value.specs.Table.{at}
use Rattle.steps.specs.declared.step_tasks.finish.Finish.{Finish}
use Rattle.spec_moo.specs.Scene.{Scene}
use Rattle.spec_moo.specs.Steps.Events.{line_on, line_taken, foreground_ticks}
use Rattle.moo_task.specs.Deeds.{scene_of}
use Rattle.view.specs.Law.{Goes}
use Rattle.rules.proofs.Tellings.{if_ok_as}
use Rattle.steps.proofs.StepsPlaying.{plays_told, plays_then, ready_told, told_still}
use Rattle.steps.specs.StepsPerformed.{came_to_of}
use Rattle.steps.proofs.step_events.lines.line.Goals as goal

pub take_line-requires-clause-ready : goal.take_line-requires-clause-ready
take_line-requires-clause-ready g c =
    ready_told g.V.View.holds g.V.View.now c.args.view.now c.read_link.new.view (λ w. at w.links c.args.connection ≡ c.in_ok-link.link) c.args.deeds.now c.requires.ready
    (rw (to_z-of_z w32 c.args.connection c.ranges.connection) at c.in_ok-link.ensures.left)

pub take_line-requires-clause-link : goal.take_line-requires-clause-link
take_line-requires-clause-link g c =
    rw (to_z-of_z w32 c.args.connection c.ranges.connection) (told_still g.V.View.holds g.V.View.now c.args.view.now c.read_link.new.view (λ w. at w.links c.args.connection ≡ Some c.in-Some.link)
    (rw (to_z-of_z w32 c.args.connection c.ranges.connection, c.in-Some.is) at c.in_ok-link.ensures.left))

pub returns-in-Some-clause-played : goal.returns-in-Some-clause-played
returns-in-Some-clause-played g c =
    let connection = to_z-of_z w32 c.args.connection c.ranges.connection in
    let k = c.in-Some.link in
    let taken = λ (n : ℤ) (o : Finish). Goes g.V.View.holds g.V.View.now c.read_link.new.view c.take_line.new.view
    (λ before after. line_taken (scene_of c.args.deeds.now before foreground_ticks) n k c.args.text.now k.programming ≡ came_to_of c.take_line.new.deeds o after) in
    if_ok_as (taken _) _
    (λ o played s opening. plays_then g.V.View.holds g.V.View.now c.args.view.now c.read_link.new.view c.take_line.new.view (λ w. at w.links c.args.connection ≡ Some k)
    (λ w. line_on s w c.args.connection c.args.text.now (at w.links c.args.connection))
    (λ w. line_taken (scene_of c.args.deeds.now w foreground_ticks) c.args.connection k c.args.text.now k.programming) (came_to_of c.take_line.new.deeds o)
    (rw (connection, c.in-Some.is) at c.in_ok-link.ensures.left) (subst (λ (n : ℤ). taken n o) connection played)
    (λ w is. ap (line_on s w c.args.connection c.args.text.now) is
    ∙ ap (λ (u : Scene). line_taken u c.args.connection k c.args.text.now k.programming) (opening w foreground_ticks)))
    c.take_line.result c.take_line.ensures.played

pub returns-in-None-clause-played : goal.returns-in-None-clause-played
returns-in-None-clause-played g c s opening =
    plays_told g.V.View.holds g.V.View.now c.args.view.now c.read_link.new.view (λ w. at w.links c.args.connection ≡ None)
    (λ w. line_on s w c.args.connection c.args.text.now (at w.links c.args.connection)) (came_to_of c.args.deeds.now c.idle.result)
    (rw (to_z-of_z w32 c.args.connection c.ranges.connection, c.in-None.is) at c.in_ok-link.ensures.left)
    (λ w is. ap (line_on s w c.args.connection c.args.text.now) is ∙ sym (c.idle.ensures s c.args.deeds.now opening w))
