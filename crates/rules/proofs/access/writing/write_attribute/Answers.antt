use Rattle.std.proofs.Common.{◌≡◌, ◌||◌, true, false, Some, w32}
use Rattle.std.proofs.lemmas.Int.{to_z-of_z}
use Rattle.spec_world.specs.World.{object_at}
use Rattle.spec_world.specs.Permissions.{is_wizard}
use Rattle.spec_world.specs.Questions.{header_at, new_part, new_header}
use Rattle.moo_value.specs.declared.error.MooError.TheVariants.{PermissionDenied}
use Rattle.view.specs.BuiltIn.{attribute_of}
use Rattle.rules.specs.Writing.{built_in_written, owner_may}
use Rattle.rules.proofs.WriteRules.{told_both, told_so, refused_told, written_told, barred, changed}
use Rattle.rules.proofs.access.writing.write_attribute.Goals as goal

pub returns-then-not-allowed-clause-left : goal.returns-then-not-allowed-clause-left
returns-then-not-allowed-clause-left g c =
    let object = to_z-of_z w32 c.args.object c.ranges.object in
    let programmer = to_z-of_z w32 c.args.programmer c.ranges.programmer in
    let own : c.owner_may-own.result ≡ owner_may c.in-Some.header c.args.programmer (attribute_of c.args.attribute) = rw programmer at c.owner_may-own.ensures in
    refused_told g.V.View.holds g.V.View.now c.args.view.now c.or_is_wizard.new.view
    (λ w. built_in_written w c.args.programmer c.args.object c.args.value.now (attribute_of c.args.attribute) (object_at w c.args.object)) PermissionDenied
    (told_so g.V.View.holds g.V.View.now c.args.view.now c.or_is_wizard.new.view
    (λ w. (header_at w c.args.object ≡ Some c.in-Some.header) × ((is_wizard w c.args.programmer || owner_may c.in-Some.header c.args.programmer (attribute_of c.args.attribute)) ≡ false)) _
    (told_both g.V.View.holds g.V.View.now c.args.view.now c.read_header.new.view c.or_is_wizard.new.view (λ w. header_at w c.args.object ≡ Some c.in-Some.header)
    (λ w. (is_wizard w c.args.programmer || owner_may c.in-Some.header c.args.programmer (attribute_of c.args.attribute)) ≡ false)
    (rw (object, c.in-Some.is) at c.in_ok-header.ensures.left) (rw (programmer, own, c.if-not-allowed.true) at c.in_ok-allowed.ensures.left))
    (λ w h. barred w c.args.programmer c.args.object c.args.attribute c.args.value.now c.in-Some.header h.0 c.in-Some-2.header (rw c.in-Some-2.is at c.in_ok-header-2.ensures) h.1))

pub returns-clause-left : goal.returns-clause-left
returns-clause-left g c =
    let object = to_z-of_z w32 c.args.object c.ranges.object in
    let programmer = to_z-of_z w32 c.args.programmer c.ranges.programmer in
    let own : c.owner_may-own.result ≡ owner_may c.in-Some.header c.args.programmer (attribute_of c.args.attribute) = rw programmer at c.owner_may-own.ensures in
    written_told g.V.View.holds g.V.View.now c.args.view.now c.or_is_wizard.new.view c.write_part.new.view
    (λ w. built_in_written w c.args.programmer c.args.object c.args.value.now (attribute_of c.args.attribute) (object_at w c.args.object))
    (λ w. (header_at w c.args.object ≡ Some c.in-Some.header) × ((is_wizard w c.args.programmer || owner_may c.in-Some.header c.args.programmer (attribute_of c.args.attribute)) ≡ true))
    (new_part c.args.object (new_header c.in-Some-2.header))
    (told_both g.V.View.holds g.V.View.now c.args.view.now c.read_header.new.view c.or_is_wizard.new.view (λ w. header_at w c.args.object ≡ Some c.in-Some.header)
    (λ w. (is_wizard w c.args.programmer || owner_may c.in-Some.header c.args.programmer (attribute_of c.args.attribute)) ≡ true)
    (rw (object, c.in-Some.is) at c.in_ok-header.ensures.left) (rw (programmer, own, c.if-not-allowed.false) at c.in_ok-allowed.ensures.left))
    (rw object at c.in_ok-write_part.ensures.left)
    (λ w h. changed w c.args.programmer c.args.object c.args.attribute c.args.value.now c.in-Some.header h.0 c.in-Some-2.header (rw c.in-Some-2.is at c.in_ok-header-2.ensures) h.1)
