use mir.Syntax.{w32}
use mir.Val.{SFits}
use Rattle.std.proofs.Common.{◌≡◌, ◌∷◌, [], IsTrue, subst, sym, rules}
use Rattle.std.proofs.lemmas.Int.{to_z-of_z}
use Rattle.spec_value.specs.Datum.{integer, object}
use Rattle.spec_program.specs.Place.{walks_range}
use Rattle.spec_world.specs.WellFormed.{held_fits}
use Rattle.held_values.proofs.walk.ends_fit.Goals as goal

pub returns-in-Integer-clause-tells : goal.returns-in-Integer-clause-tells
returns-in-Integer-clause-tells c t around =
    let is : c.args.first.now ≡ integer c.in-Integer.number = sym c.in-Integer.ensures in
    let fits : SFits w32 c.in-Integer.number = search rules in
    rw is (subst (λ z. IsTrue (held_fits around walks_range (integer z ∷ c.args.last.now ∷ []))) (to_z-of_z w32 c.in-Integer.number fits) (c.is_integer_from.ensures.tells t around))

pub returns-in-Object-clause-tells : goal.returns-in-Object-clause-tells
returns-in-Object-clause-tells c t around =
    let is : c.args.first.now ≡ object c.in-Object.number = sym c.in-Object.ensures in
    let fits : SFits w32 c.in-Object.number = search rules in
    rw is (subst (λ z. IsTrue (held_fits around walks_range (object z ∷ c.args.last.now ∷ []))) (to_z-of_z w32 c.in-Object.number fits) (c.is_object_from.ensures.tells t around))

pub returns-in-Integer-clause-finds : goal.returns-in-Integer-clause-finds
returns-in-Integer-clause-finds c around h =
    let is : c.args.first.now ≡ integer c.in-Integer.number = sym c.in-Integer.ensures in
    let fits : SFits w32 c.in-Integer.number = search rules in
    let here = subst (λ v. IsTrue (held_fits around walks_range (v ∷ c.args.last.now ∷ []))) is h in
    c.is_integer_from.ensures.finds around
    (subst (λ z. IsTrue (held_fits around walks_range (integer z ∷ c.args.last.now ∷ []))) (sym (to_z-of_z w32 c.in-Integer.number fits)) here)

pub returns-in-Object-clause-finds : goal.returns-in-Object-clause-finds
returns-in-Object-clause-finds c around h =
    let is : c.args.first.now ≡ object c.in-Object.number = sym c.in-Object.ensures in
    let fits : SFits w32 c.in-Object.number = search rules in
    let here = subst (λ v. IsTrue (held_fits around walks_range (v ∷ c.args.last.now ∷ []))) is h in
    c.is_object_from.ensures.finds around
    (subst (λ z. IsTrue (held_fits around walks_range (object z ∷ c.args.last.now ∷ []))) (sym (to_z-of_z w32 c.in-Object.number fits)) here)
