use Rattle.std.proofs.Common.{◌≡◌, None, rules, w32, to_z, of_z}
use Rattle.spec_moo.specs.Properties.{built_in}
use Rattle.spec_value.specs.Datum.{text, object as object_of}
use Rattle.rules.proofs.WriteRules.{simply_told}
use Rattle.rules.proofs.WritesKeep.{simply_known}
use Rattle.rules.proofs.access.writing.write_named.Goals as goal

pub returns-in-None-clause-left : goal.returns-in-None-clause-left
returns-in-None-clause-left g c =
    let programmer : to_z w32 (of_z w32 c.args.programmer) ≡ c.args.programmer = search rules in
    let object : to_z w32 (of_z w32 c.args.object) ≡ c.args.object = search rules in
    let none : built_in c.args.name.now ≡ None = search rules in
    simply_told g.V.View.holds g.V.View.now c.args.programmer c.args.value.now c.args.view.now c.write.new.self c.args.object c.args.name.now c.write.result none
    (rw (programmer, object) at c.write.ensures.left)

pub returns-in-None-clause-well_formed : goal.returns-in-None-clause-well_formed
returns-in-None-clause-well_formed g c =
    simply_known g.V.View.holds g.V.View.now c.args.view.now c.write.new.self c.args.programmer (object_of c.args.object) (text c.args.name.now) c.args.value.now c.write.result
    (returns-in-None-clause-left g c)
