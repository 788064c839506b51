use Rattle.std.proofs.Common.{◌≡◌, sym, rules, w32, to_z, of_z}
use Rattle.std.proofs.lemmas.Int.{to_z-of_z}
use Rattle.spec_value.specs.Datum.{text}
use Rattle.rules.proofs.WriteRules.{simply_as}
use Rattle.rules.proofs.WritesKeep.{simply_known}
use Rattle.rules.proofs.access.writing.write_simply.Goals as goal

pub returns-in-Object-Some-clause-left : goal.returns-in-Object-Some-clause-left
returns-in-Object-Some-clause-left g c =
    let programmer = to_z-of_z w32 c.args.programmer c.ranges.programmer in
    let at : to_z w32 (of_z w32 c.in-Object-Some.object) ≡ c.in-Object-Some.object = search rules in
    let name : text c.in-Object-Some.name.now ≡ c.args.name.now = sym c.in-Object-Some.ensures'.some in
    simply_as g.V.View.holds g.V.View.now c.args.programmer c.args.value.now c.args.view.now c.write_named.new.view c.in-Object-Some.object c.in-Object-Some.name.now c.args.object.now c.args.name.now
    c.write_named.result c.in-Object-Some.ensures name (rw (programmer, at) at c.write_named.ensures.left)

pub returns-in-Object-Some-clause-well_formed : goal.returns-in-Object-Some-clause-well_formed
returns-in-Object-Some-clause-well_formed g c =
    simply_known g.V.View.holds g.V.View.now c.args.view.now c.write_named.new.view c.args.programmer c.args.object.now c.args.name.now c.args.value.now c.write_named.result
    (returns-in-Object-Some-clause-left g c)
