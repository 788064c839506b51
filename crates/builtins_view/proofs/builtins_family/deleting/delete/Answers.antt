use Rattle.std.proofs.Common.{◌≡◌, true, map, Some, w32}
use Rattle.std.proofs.lemmas.Int.{to_z-of_z}
use Rattle.spec_value.specs.Datum.{fold_case}
use Rattle.spec_world.specs.WellFormed.{has_name}
use Rattle.spec_world.specs.Permissions.{may, change_members}
use Rattle.spec_world.specs.Questions.{defines_at}
use Rattle.rules.proofs.Tellings.{known_on}
use Rattle.builtins_view.proofs.BuiltinsFamilyChains.{deleted_does, refused_does}
use Rattle.builtins_view.proofs.builtins_family.deleting.delete.Goals as goal

pub returns-clause-left : goal.returns-clause-left
returns-clause-left g c =
    let object = to_z-of_z w32 c.args.object c.ranges.object in
    let programmer = to_z-of_z w32 c.args.programmer c.ranges.programmer in
    let named : has_name (map fold_case c.in-Some.names) (fold_case c.args.name.now) ≡ true =
    cc (c.has_name-named.ensures, c.if-not-named.false, c.as_slice.ensures)
    in
    deleted_does g.V.View.holds g.V.View.now c.args.view.now c.read_defines.new.view c.may.new.view c.below.new.view c.take_out.new.view c.args.object c.args.name.now c.in-Some.names
    c.in_ok-family.family.items c.args.programmer c.integer.result c.integer.ensures c.requires.well_formed (rw (object, c.in-Some.is) at c.in_ok-names.ensures.left) named
    (rw (object, programmer, c.if-not-allowed.false) at c.in_ok-allowed.ensures.left) (rw object at c.in_ok-family.ensures.left)
    (rw (object, c.as_slice-2.ensures, c.as_slice-3.ensures.value) at c.in_ok-take_out.ensures.left)

pub returns-then-not-allowed-clause-left : goal.returns-then-not-allowed-clause-left
returns-then-not-allowed-clause-left g c =
    let object = to_z-of_z w32 c.args.object c.ranges.object in
    let programmer = to_z-of_z w32 c.args.programmer c.ranges.programmer in
    let named : has_name (map fold_case c.in-Some.names) (fold_case c.args.name.now) ≡ true =
    cc (c.has_name-named.ensures, c.if-not-named.false, c.as_slice.ensures)
    in
    refused_does g.V.View.holds g.V.View.now c.args.view.now c.read_defines.new.view c.may.new.view c.args.object c.args.name.now c.in-Some.names c.args.programmer
    (rw (object, c.in-Some.is) at c.in_ok-names.ensures.left) named (rw (object, programmer, c.if-not-allowed.true) at c.in_ok-allowed.ensures.left)

pub below-requires-clause-well_formed : goal.below-requires-clause-well_formed
below-requires-clause-well_formed g c =
    let object = to_z-of_z w32 c.args.object c.ranges.object in
    let programmer = to_z-of_z w32 c.args.programmer c.ranges.programmer in
    known_on g.V.View.holds g.V.View.now c.read_defines.new.view c.may.new.view (λ w. may w c.args.programmer (change_members c.args.object) ≡ true)
    (known_on g.V.View.holds g.V.View.now c.args.view.now c.read_defines.new.view (λ w. defines_at w c.args.object ≡ Some c.in-Some.names) c.requires.well_formed
    (rw (object, c.in-Some.is) at c.in_ok-names.ensures.left))
    (rw (object, programmer, c.if-not-allowed.false) at c.in_ok-allowed.ensures.left)
