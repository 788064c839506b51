use Rattle.std.proofs.Common.{◌≡◌, ℕ, ℤ, Ok, sym, subst, w32}
use Rattle.std.proofs.lemmas.Int.{to_z-of_z}
use Rattle.spec_moo.specs.Pending.{done}
use Rattle.spec_moo.specs.Steps.Events.{login_value}
use Rattle.moo_task.specs.Deeds.{scene_of}
use Rattle.view.specs.Law.{Goes}
use Rattle.task_step.specs.OutcomeView.{result_of}
use Rattle.steps.specs.StepsPerformed.{HasValue}
use Rattle.steps.proofs.Accepted.{no_value_of, no_value_stays, accepted_value}
use Rattle.steps.proofs.step_links.logins.accept.Goals as goal

pub returns-in_default-clause-accepts : goal.returns-in_default-clause-accepts
returns-in_default-clause-accepts g c w h =
    let v = g.V.View.now c.args.view.now w in
    (h, λ t why is. sym (no_value_stays (scene_of c.args.deeds.now v t) c.args.connection why (result_of c.args.ending.now) (no_value_of c.args.ending.now c.in_default.not-Value) is))

pub accept_value-requires-clause-ready : goal.accept_value-requires-clause-ready
accept_value-requires-clause-ready g c = c.requires.ready (subst HasValue (sym c.in-Value.is) tt)

pub returns-in_ok-accept_value-in-Value-clause-accepts : goal.returns-in_ok-accept_value-in-Value-clause-accepts
returns-in_ok-accept_value-in-Value-clause-accepts g c =
    let view = g.V.View in
    let connection = to_z-of_z w32 c.args.connection c.ranges.connection in
    let told =
    subst
    (λ (n : ℤ). Goes view.holds view.now c.args.view.now c.accept_value.new.view
    (λ before after. (t : ℕ) → scene_of c.accept_value.new.deeds after t ≡ login_value (scene_of c.args.deeds.now before t) n (done c.in-Value.value))) connection
    c.in_ok-accept_value-in-Value.ensures.left in
    accepted_value {E = ℕ} view.holds view.now c.args.view.now c.accept_value.new.view c.args.deeds.now c.accept_value.new.deeds c.args.connection c.args.ending.now c.in-Value.value (Ok tt)
    c.in-Value.is told
