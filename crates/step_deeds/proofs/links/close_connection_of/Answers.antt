use Rattle.std.proofs.Common.{◌≡◌, Some, None, rules, w32, to_z, of_z}
use Rattle.std.proofs.lemmas.Int.{to_z-of_z}
use Rattle.spec_world.specs.Links.{connection_of}
use Rattle.rules.specs.Standing.{IsStanding}
use Rattle.rules.proofs.Tellings.{stays_known}
use Rattle.step_deeds.proofs.Closing.{none_closed, one_closed}
use Rattle.step_deeds.proofs.links.close_connection_of.Goals as goal

pub returns-in_default-clause-left : goal.returns-in_default-clause-left
returns-in_default-clause-left g c =
    let object = to_z-of_z w32 c.args.object c.ranges.object in
    let none : c.in_ok-link.field-0 ≡ None = first_of (search rules, cc) in
    none_closed g.V.View.holds g.V.View.now c.args.view.now c.connection.new.view c.args.deeds.now c.args.object (rw (object, none) at c.in_ok-link.ensures.left)

pub returns-in_default-clause-well_formed : goal.returns-in_default-clause-well_formed
returns-in_default-clause-well_formed g c =
    let object = to_z-of_z w32 c.args.object c.ranges.object in
    stays_known g.V.View.holds g.V.View.now IsStanding c.args.view.now c.connection.new.view (λ w. connection_of w c.args.object ≡ c.in_ok-link.field-0) c.requires.well_formed (rw object at c.in_ok-link.ensures.left)

pub close_link-requires-clause-well_formed : goal.close_link-requires-clause-well_formed
close_link-requires-clause-well_formed g c =
    let object = to_z-of_z w32 c.args.object c.ranges.object in
    stays_known g.V.View.holds g.V.View.now IsStanding c.args.view.now c.connection.new.view (λ w. connection_of w c.args.object ≡ Some c.in-Some.link) c.requires.well_formed
    (rw (object, c.in-Some.is) at c.in_ok-link.ensures.left)

pub returns-clause-left : goal.returns-clause-left
returns-clause-left g c =
    let object = to_z-of_z w32 c.args.object c.ranges.object in
    let link : to_z w32 (of_z w32 c.in-Some.link) ≡ c.in-Some.link = search rules in
    one_closed g.V.View.holds g.V.View.now c.args.view.now c.connection.new.view c.close_link.new.view c.args.deeds.now c.push.new.self.items c.args.object c.in-Some.link
    (rw (object, c.in-Some.is) at c.in_ok-link.ensures.left) (rw link at c.in_ok-close_link.ensures.left) (rw link at c.in_ok-push.ensures.items)
