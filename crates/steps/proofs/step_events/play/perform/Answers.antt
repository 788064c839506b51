use Rattle.std.proofs.Common.{◌≡◌, to_z, of_z, w32, pos, rules}
use Rattle.spec_world.specs.World.{World}
use Rattle.spec_moo.specs.Steps.Events.{event_of}
use Rattle.task_step.specs.StepView.{event_of as meant}
use Rattle.task_step.specs.declared.step.Event.{Event}
use Rattle.rules.proofs.Tellings.{if_ok_as}
use Rattle.steps.proofs.StepsPlaying.{plays_as}
use Rattle.steps.specs.StepsPerformed.{came_to_of}
use Rattle.steps.proofs.step_events.play.perform.Goals as goal

pub returns-in-Open-clause-played : goal.returns-in-Open-clause-played
returns-in-Open-clause-played g c =
    let number : to_z w32 (of_z w32 c.number_of-number.result) ≡ pos c.in-Open.connection = search rules in
    if_ok_as _ _
    (λ o played s opening. plays_as g.V.View.holds g.V.View.now c.args.view.now c.open.new.view (λ (k : Event) (w : World). event_of w s (meant k)) c.args.event.now _ (came_to_of c.open.new.deeds o) c.in-Open.is (played s opening))
    c.open.result (rw number at c.open.ensures.played)

pub returns-in-Close-clause-played : goal.returns-in-Close-clause-played
returns-in-Close-clause-played g c =
    let number : to_z w32 (of_z w32 c.number_of-number-in-Close.result) ≡ pos c.in-Close.connection = search rules in
    if_ok_as _ _
    (λ o played s opening. plays_as g.V.View.holds g.V.View.now c.args.view.now c.close.new.view (λ (k : Event) (w : World). event_of w s (meant k)) c.args.event.now _ (came_to_of c.close.new.deeds o) c.in-Close.is (played s opening))
    c.close.result (rw number at c.close.ensures.played)

pub returns-in-Line-clause-played : goal.returns-in-Line-clause-played
returns-in-Line-clause-played g c =
    let number : to_z w32 (of_z w32 c.number_of-number-in-Line.result) ≡ pos c.in-Line.connection = search rules in
    if_ok_as _ _
    (λ o played s opening. plays_as g.V.View.holds g.V.View.now c.args.view.now c.line.new.view (λ (k : Event) (w : World). event_of w s (meant k)) c.args.event.now _ (came_to_of c.line.new.deeds o) c.in-Line.is (played s opening))
    c.line.result (rw number at c.line.ensures.played)

pub returns-in-Ready-clause-played : goal.returns-in-Ready-clause-played
returns-in-Ready-clause-played g c =
    let id : to_z w32 (of_z w32 c.in-Ready.id) ≡ c.in-Ready.id = search rules in
    if_ok_as _ _
    (λ o played s opening. plays_as g.V.View.holds g.V.View.now c.args.view.now c.ready.new.view (λ (k : Event) (w : World). event_of w s (meant k)) c.args.event.now _ (came_to_of c.ready.new.deeds o) c.in-Ready.is (played s opening))
    c.ready.result (rw id at c.ready.ensures.played)
