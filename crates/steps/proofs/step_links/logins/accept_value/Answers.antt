use Rattle.std.proofs.Common.{◌≡◌, sym, subst, to_z, of_z, w32, rules}
use Rattle.std.specs.Prelude.{ℕ, OnOk}
use Rattle.std.proofs.lemmas.Int.{to_z-of_z}
use Rattle.spec_value.specs.Datum.{Datum, object}
use Rattle.spec_moo.specs.Pending.{done}
use Rattle.spec_moo.specs.Steps.Events.{login_value}
use Rattle.moo_task.specs.Deeds.{scene_of}
use Rattle.view.specs.Law.{Goes}
use Rattle.steps.proofs.Accepted.{no_object_of, value_stays}
use Rattle.steps.proofs.step_links.logins.accept_value.Goals as goal

pub returns-in_default-clause-left : goal.returns-in_default-clause-left
returns-in_default-clause-left g c w h =
    let v = g.V.View.now c.args.view.now w in
    (h, λ t. sym (value_stays (scene_of c.args.deeds.now v t) c.args.connection c.args.value.now (no_object_of c.shown.result c.args.value.now c.shown.ensures c.in_default.not-Object)))

pub returns-in-Object-clause-left : goal.returns-in-Object-clause-left
returns-in-Object-clause-left g c =
    let view = g.V.View in
    let id : to_z w32 (of_z w32 c.in-Object.object) ≡ c.in-Object.object = search rules in
    let is : object c.in-Object.object ≡ c.args.value.now = c.in-Object.ensures in
    subst
    (λ (x : Datum). OnOk c.accept_object.result (Goes view.holds view.now c.args.view.now c.accept_object.new.view
    (λ before after. (t : ℕ) → scene_of c.accept_object.new.deeds after t ≡ login_value (scene_of c.args.deeds.now before t) c.args.connection (done x))))
    is (rw (to_z-of_z w32 c.args.connection c.ranges.connection, id) at c.accept_object.ensures.left)
