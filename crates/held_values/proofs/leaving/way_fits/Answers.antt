use Rattle.std.proofs.Common.{◌≡◌, ◌∙◌, IsTrue, length, pos, sym, subst, rules}
use Rattle.std.proofs.lemmas.Bool.{eqb-true, eq-eqb}
use Rattle.spec_value.specs.Datum.{integer, item, of_list}
use Rattle.spec_world.specs.WellFormed.{tells_leaving}
use Rattle.held_values.proofs.Telling.{ended_so, returned_so}
use Rattle.held_values.proofs.ValueKinds.{return_told}
use Rattle.held_values.proofs.leaving.way_fits.Goals as goal

pub returns-then-way-eq1-clause-tells : goal.returns-then-way-eq1-clause-tells
returns-then-way-eq1-clause-tells c t =
    let is : c.args.way ≡ pos 1 = search rules in
    subst (λ z. IsTrue (tells_leaving c.args.around (item (integer z) (of_list c.args.rest.now)))) (sym is) (return_told c.args.rest.now (eqb-true (length c.args.rest.now) 1 t) c.args.around)

pub returns-then-way-eq2-clause-tells : goal.returns-then-way-eq2-clause-tells
returns-then-way-eq2-clause-tells c t =
    let is : c.args.way ≡ pos 2 = search rules in
    subst (λ z. IsTrue (tells_leaving c.args.around (item (integer z) (of_list c.args.rest.now)))) (sym is) (c.error_fits.ensures.tells t c.args.around)

pub returns-then-way-eq1-clause-finds : goal.returns-then-way-eq1-clause-finds
returns-then-way-eq1-clause-finds c h =
    let is : c.args.way ≡ pos 1 = search rules in
    let here = subst (λ z. IsTrue (tells_leaving c.args.around (item (integer z) (of_list c.args.rest.now)))) is h in
    eq-eqb (length c.args.rest.now) 1 (returned_so c.args.around c.args.rest.now here)

pub returns-then-way-eq2-clause-finds : goal.returns-then-way-eq2-clause-finds
returns-then-way-eq2-clause-finds c h =
    let is : c.args.way ≡ pos 2 = search rules in
    c.error_fits.ensures.finds c.args.around (subst (λ z. IsTrue (tells_leaving c.args.around (item (integer z) (of_list c.args.rest.now)))) is h)

pub returns-then-way-eq0-clause-finds : goal.returns-then-way-eq0-clause-finds
returns-then-way-eq0-clause-finds c h =
    let is : c.args.way ≡ pos 0 = search rules in
    let here = subst (λ z. IsTrue (tells_leaving c.args.around (item (integer z) (of_list c.args.rest.now)))) is h in
    c.is_empty.ensures ∙ eq-eqb (length c.args.rest.now) 0 (ended_so c.args.around c.args.rest.now here)
