use Rattle.std.proofs.Common.{◌≡◌, ◌+◌, ◌∙◌, ap}
use Rattle.spec_world.specs.Step.{Step}
use Rattle.spec_ready.proofs.Readiness.{number_small}
use Rattle.task_step.specs.StepView.{event_of}
use Rattle.rules.proofs.Tellings.{if_ok_as}
use Rattle.steps.proofs.StepsPlaying.{if_on_ok}
use Rattle.steps.proofs.StepsSteps.{now_numbered, step_ended, step_played, step_ready, sound_after}
use Rattle.steps.proofs.step_events.play.play_step.Goals as goal

pub perform-requires-clause-ready : goal.perform-requires-clause-ready
perform-requires-clause-ready g c w h t =
    let view = g.V.View in
    let s = c.args.step.now in
    let number : c.from.result + 1 ≡ s.number + 1 = ap (λ n. n + 1) (c.from.ensures ∙ ap (λ (x : Step). x.number) c.step.view_is) in
    let told = c.in_ok-ending.ensures.left w h in
    let raised = c.in_ok-raise_next.ensures.left w told.0 in
    let there = now_numbered (view.now c.args.view.now w) (view.now c.raise_next.new.view w) (view.now c.read_ending.new.view w) s (c.from.result + 1) (number_small s c.requires.range) number raised.1 told.1.0 in
    step_ready (view.now c.args.view.now w) (view.now c.read_ending.new.view w) s c.opening-deeds.result t there (c.requires.sound w raised.0).well_formed c.requires.range c.opening-deeds.ensures

pub returns-then-ending-clause-played : goal.returns-then-ending-clause-played
returns-then-ending-clause-played g c w h =
    let view = g.V.View in
    let s = c.args.step.now in
    let number : c.from.result + 1 ≡ s.number + 1 = ap (λ n. n + 1) (c.from.ensures ∙ ap (λ (x : Step). x.number) c.step.view_is) in
    let told = c.in_ok-ending.ensures.left w h in
    let raised = c.in_ok-raise_next.ensures.left w told.0 in (
      raised.0,
      step_ended (view.now c.args.view.now w) (view.now c.raise_next.new.view w) (view.now c.read_ending.new.view w) s (c.from.result + 1) c.idle.result (number_small s c.requires.range) number raised.1 told.1.0
          (told.1.1 ∙ c.if-ending.true) c.idle.ensures,
    )

pub returns-clause-played : goal.returns-clause-played
returns-clause-played g c =
    if_ok_as _ _
    (λ o gives w h.
    let view = g.V.View in
    let s = c.args.step.now in
    let number : c.from.result + 1 ≡ s.number + 1 = ap (λ n. n + 1) (c.from.ensures ∙ ap (λ (x : Step). x.number) c.step.view_is) in
    let event : event_of (c.step.inside).event ≡ s.event = ap (λ (x : Step). x.event) c.step.view_is in
    let rest = (rw event at c.in_ok-finish.ensures.played) s c.opening-deeds.ensures w h in
    let told = c.in_ok-ending.ensures.left w rest.0 in
    let raised = c.in_ok-raise_next.ensures.left w told.0 in (
      raised.0,
      step_played (view.now c.args.view.now w) (view.now c.raise_next.new.view w) (view.now c.read_ending.new.view w) s (c.from.result + 1) _ (number_small s c.requires.range) number raised.1 told.1.0
          (told.1.1 ∙ c.if-ending.false) (rest.1 ∙ gives (view.now c.perform.new.view w)),
    ))
    c.outcome.result c.outcome.ensures

pub returns-clause-sound : goal.returns-clause-sound
returns-clause-sound g c =
    let view = g.V.View in
    if_on_ok c.outcome.result _ _
    (λ o played w h. let r = played w h in sound_after (view.now c.args.view.now w) (view.now c.perform.new.view w) c.args.step.now o (c.requires.sound w r.0) c.requires.range r.1)
    (returns-clause-played g c)

pub returns-then-ending-clause-sound : goal.returns-then-ending-clause-sound
returns-then-ending-clause-sound g c w h =
    let view = g.V.View in
    let r = returns-then-ending-clause-played g c w h in
    sound_after (view.now c.args.view.now w) (view.now c.read_ending.new.view w) c.args.step.now c.idle.result (c.requires.sound w r.0) c.requires.range r.1
