use Rattle.std.proofs.Common.{◌≡◌, Some, None, rules, w32}
use Rattle.std.proofs.lemmas.Int.{to_z-of_z}
use Rattle.rules.specs.Standing.{IsStanding}
use Rattle.rules.proofs.Tellings.{stays_known}
use Rattle.builtins.specs.Refused.{IsRefusal}
use Rattle.builtins.proofs.BuiltinsLinksRows.{boots_not, boots}
use Rattle.builtins.proofs.builtins_links.links.boot_player.Goals as goal

pub returns-in-Some-clause-left : goal.returns-in-Some-clause-left
returns-in-Some-clause-left g c =
    let object = to_z-of_z w32 c.args.object c.ranges.object in
    let programmer = to_z-of_z w32 c.args.programmer c.ranges.programmer in
    boots_not g.V.View.holds g.V.View.now c.args.deeds.now c.args.programmer c.args.object c.args.view.now c.refusal.new.view c.in-Some.error (rw (object, programmer, c.in-Some.is) at c.in_ok-refused.ensures.left)

pub returns-in-Some-clause-well_formed : goal.returns-in-Some-clause-well_formed
returns-in-Some-clause-well_formed g c =
    let object = to_z-of_z w32 c.args.object c.ranges.object in
    let programmer = to_z-of_z w32 c.args.programmer c.ranges.programmer in
    stays_known g.V.View.holds g.V.View.now IsStanding c.args.view.now c.refusal.new.view (λ w. IsRefusal w c.args.programmer c.args.object (Some c.in-Some.error)) c.requires.well_formed
    (rw (object, programmer, c.in-Some.is) at c.in_ok-refused.ensures.left)

pub close_connection_of-requires-clause-well_formed : goal.close_connection_of-requires-clause-well_formed
close_connection_of-requires-clause-well_formed g c =
    let object = to_z-of_z w32 c.args.object c.ranges.object in
    let programmer = to_z-of_z w32 c.args.programmer c.ranges.programmer in
    let none : c.in_ok-refused.refused ≡ None = first_of (search rules, cc) in
    stays_known g.V.View.holds g.V.View.now IsStanding c.args.view.now c.refusal.new.view (λ w. IsRefusal w c.args.programmer c.args.object None) c.requires.well_formed
    (rw (object, programmer, none) at c.in_ok-refused.ensures.left)

pub returns-clause-left : goal.returns-clause-left
returns-clause-left g c =
    let object = to_z-of_z w32 c.args.object c.ranges.object in
    let programmer = to_z-of_z w32 c.args.programmer c.ranges.programmer in
    let none : c.in_ok-refused.refused ≡ None = first_of (search rules, cc) in
    boots g.V.View.holds g.V.View.now c.args.deeds.now c.args.programmer c.args.object c.args.view.now c.refusal.new.view c.close_connection_of.new.view c.close_connection_of.new.deeds c.integer.result c.integer.ensures
    (rw (object, programmer, none) at c.in_ok-refused.ensures.left) (rw object at c.in_ok-close_connection_of.ensures.left)
