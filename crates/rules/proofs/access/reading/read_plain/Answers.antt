use Rattle.std.proofs.Common.{◌≡◌, refl, subst, Option, rules, w32, to_z, of_z}
use Rattle.std.specs.Prelude.{IfSome}
use Rattle.spec_value.specs.Datum.{Datum}
use Rattle.spec_world.specs.World.{World}
use Rattle.view.specs.Writing.{IsReadBy}
use Rattle.rules.proofs.ReadRules.{read_by}
use Rattle.rules.proofs.access.reading.read_plain.Goals as goal

pub returns-in-Some-clause-left : goal.returns-in-Some-clause-left
returns-in-Some-clause-left g c = λ w is.
    let view = g.V.View in
    let object : to_z w32 (of_z w32 c.args.object) ≡ c.args.object = search rules in
    let programmer : to_z w32 (of_z w32 c.args.programmer) ≡ c.args.programmer = search rules in
    let each = subst (λ (o : Option Datum). IfSome o (λ v. (u : World) → view.holds c.args.view.now u → IsReadBy c.args.programmer c.args.object c.args.name.now v (view.now c.args.view.now u))) c.in-Some.is
    (rw (object, programmer) at c.in_ok-value.ensures) in
    (is, (refl, read_by (view.now c.args.view.now w) c.args.programmer c.args.object c.args.name.now c.in-Some.value ((c.requires.well_formed w is).objects) (each w is)))
