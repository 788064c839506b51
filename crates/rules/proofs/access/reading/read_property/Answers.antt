use Rattle.std.proofs.Common.{◌≡◌, sym, ◌∙◌, rules, w32, to_z, of_z}
use Rattle.std.proofs.lemmas.Int.{to_z-of_z}
use Rattle.spec_value.specs.Datum.{text}
use Rattle.spec_world.specs.World.{object_at}
use Rattle.spec_moo.specs.Properties.{read, read_object}
use Rattle.moo_value.specs.Answers.{answer_of}
use Rattle.view.specs.Law.{Tells}
use Rattle.rules.proofs.Tellings.{if_ok_as, told_as}
use Rattle.rules.proofs.ReadRules.{read_as}
use Rattle.rules.proofs.access.reading.read_property.Goals as goal

pub returns-in-Object-Some-clause-left : goal.returns-in-Object-Some-clause-left
returns-in-Object-Some-clause-left g c =
    let programmer = to_z-of_z w32 c.args.programmer c.ranges.programmer in
    let at : to_z w32 (of_z w32 c.in-Object-Some.object) ≡ c.in-Object-Some.object = search rules in
    let name : text c.in-Object-Some.name.now ≡ c.args.name.now = sym c.in-Object-Some.ensures'.some in
    if_ok_as
    (λ a. Tells g.V.View.holds g.V.View.now c.args.view.now c.read_by_name.new.view
    (λ w. read_object w c.args.programmer c.in-Object-Some.object c.in-Object-Some.name.now (object_at w c.in-Object-Some.object) ≡ answer_of a))
    (λ a. Tells g.V.View.holds g.V.View.now c.args.view.now c.read_by_name.new.view (λ w. read w c.args.programmer c.args.object.now c.args.name.now ≡ answer_of a))
    (λ a told. told_as g.V.View.holds g.V.View.now c.args.view.now c.read_by_name.new.view
    (λ w. read_object w c.args.programmer c.in-Object-Some.object c.in-Object-Some.name.now (object_at w c.in-Object-Some.object) ≡ answer_of a)
    (λ w. read w c.args.programmer c.args.object.now c.args.name.now ≡ answer_of a) c.requires.well_formed told
    (λ w sound is. read_as w c.args.programmer c.in-Object-Some.object c.in-Object-Some.name.now c.args.object.now c.args.name.now c.in-Object-Some.ensures name ∙ is))
    c.read_by_name.result (rw (programmer, at) at c.read_by_name.ensures.left)
