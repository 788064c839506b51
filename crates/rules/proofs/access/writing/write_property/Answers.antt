use Rattle.std.proofs.Common.{◌≡◌, sym, rules, w32, to_z, of_z}
use Rattle.std.proofs.lemmas.Int.{to_z-of_z}
use Rattle.spec_value.specs.Datum.{text}
use Rattle.spec_world.specs.World.{object_at}
use Rattle.spec_moo.specs.Properties.{write, write_object}
use Rattle.view.specs.Law.{Goes}
use Rattle.rules.proofs.Tellings.{if_ok_as}
use Rattle.rules.specs.Writing.{IsWritten}
use Rattle.rules.proofs.WriteRules.{write_as, written_as}
use Rattle.rules.proofs.WritesKeep.{written_known}
use Rattle.rules.proofs.access.writing.write_property.Goals as goal

pub returns-in-Object-Some-clause-left : goal.returns-in-Object-Some-clause-left
returns-in-Object-Some-clause-left g c =
    let programmer = to_z-of_z w32 c.args.programmer c.ranges.programmer in
    let at : to_z w32 (of_z w32 c.in-Object-Some.object) ≡ c.in-Object-Some.object = search rules in
    let name : text c.in-Object-Some.name.now ≡ c.args.name.now = sym c.in-Object-Some.ensures'.some in
    if_ok_as
    (λ a. Goes g.V.View.holds g.V.View.now c.args.view.now c.write_by_name.new.view
    (λ before after. IsWritten before after (write_object before c.args.programmer c.in-Object-Some.object c.in-Object-Some.name.now c.args.value (object_at before c.in-Object-Some.object)) a))
    (λ a. Goes g.V.View.holds g.V.View.now c.args.view.now c.write_by_name.new.view (λ before after. IsWritten before after (write before c.args.programmer c.args.object.now c.args.name.now c.args.value) a))
    (λ a. written_as g.V.View.holds g.V.View.now c.args.view.now c.write_by_name.new.view
    (λ w. write_object w c.args.programmer c.in-Object-Some.object c.in-Object-Some.name.now c.args.value (object_at w c.in-Object-Some.object))
    (λ w. write w c.args.programmer c.args.object.now c.args.name.now c.args.value)
    (λ w. write_as w c.args.programmer c.in-Object-Some.object c.in-Object-Some.name.now c.args.value c.args.object.now c.args.name.now c.in-Object-Some.ensures name) a)
    c.write_by_name.result (rw (programmer, at) at c.write_by_name.ensures.left)

pub returns-in-Object-Some-clause-well_formed : goal.returns-in-Object-Some-clause-well_formed
returns-in-Object-Some-clause-well_formed g c =
    written_known g.V.View.holds g.V.View.now c.args.view.now c.write_by_name.new.view c.args.programmer c.args.object.now c.args.name.now c.args.value c.write_by_name.result
    (returns-in-Object-Some-clause-left g c)
