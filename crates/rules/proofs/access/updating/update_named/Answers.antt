use Rattle.std.proofs.Common.{◌≡◌, rules, w32, to_z, of_z}
use Rattle.moo_value.specs.Operators.{binary_of}
use Rattle.rules.proofs.UpdateRules.{simply_updated, updated_known}
use Rattle.rules.proofs.access.updating.update_named.Goals as goal

pub returns-clause-left : goal.returns-clause-left
returns-clause-left g c =
    let programmer : to_z w32 (of_z w32 c.args.programmer) ≡ c.args.programmer = search rules in
    let object : to_z w32 (of_z w32 c.args.object) ≡ c.args.object = search rules in
    let second : to_z w32 (of_z w32 c.args.second) ≡ c.args.second = search rules in
    simply_updated g.V.View.holds g.V.View.now c.args.view.now c.update_at_hand.new.self c.args.programmer c.args.object c.args.name.now (binary_of c.args.operator) c.args.second c.update_at_hand.result
    c.requires.well_formed (rw (programmer, object, second) at c.update_at_hand.ensures.left)

pub returns-clause-well_formed : goal.returns-clause-well_formed
returns-clause-well_formed g c =
    updated_known g.V.View.holds g.V.View.now c.args.view.now c.update_at_hand.new.self c.args.programmer c.args.object c.args.name.now (binary_of c.args.operator) c.args.second c.update_at_hand.result
    (returns-clause-left g c) c.requires.well_formed
