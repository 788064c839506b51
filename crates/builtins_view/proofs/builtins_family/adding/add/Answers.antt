use Rattle.std.proofs.Common.{◌≡◌, true, Some, None, rules, w32}
use Rattle.std.proofs.lemmas.Int.{to_z-of_z}
use Rattle.spec_world.specs.Permissions.{may, change_members}
use Rattle.spec_world.specs.Questions.{defines_at}
use Rattle.moo_value.specs.Answers.{answer_of}
use Rattle.builtins_view.specs.Said.{with_programmer}
use Rattle.builtins_view.proofs.Chains.{then_does}
use Rattle.builtins_view.specs.Defining.{property_given, property_owned}
use Rattle.rules.proofs.Tellings.{known_on}
use Rattle.builtins_view.proofs.BuiltinsFamilyChains.{is_given, absent_given, refused_given}
use Rattle.builtins_view.proofs.builtins_family.adding.add.Goals as goal

pub returns-clause-left : goal.returns-clause-left
returns-clause-left g c =
    let object = to_z-of_z w32 c.args.object c.ranges.object in
    let programmer = to_z-of_z w32 c.args.programmer c.ranges.programmer in
    let owner = to_z-of_z w32 c.args.owner c.ranges.owner in
    then_does g.V.View.holds g.V.View.now c.args.view.now c.read_defines.new.view c.may.new.view c.add_owned.new.view
    (λ w. defines_at w c.args.object ≡ Some c.in-Some.names) (λ w. may w c.args.programmer (change_members c.args.object) ≡ true)
    (property_owned c.args.object c.args.name.now c.args.slot c.args.owner c.args.bits.now) (property_given c.args.object c.args.name.now c.args.slot c.args.owner c.args.bits.now)
    c.args.programmer (answer_of c.in_ok-answer.answer)
    (rw (object, c.in-Some.is) at c.in_ok-names.ensures.left)
    (rw (object, programmer, c.if-not-allowed.false) at c.in_ok-allowed.ensures.left)
    (rw (object, programmer, owner, c.as_slice.ensures) at c.in_ok-answer.ensures.left)
    (λ s k is allowed. is_given s (with_programmer k c.args.programmer) c.args.object c.args.name.now c.args.slot c.args.owner c.args.bits.now c.in-Some.names is allowed)

pub returns-in_default-clause-left : goal.returns-in_default-clause-left
returns-in_default-clause-left g c =
    let object = to_z-of_z w32 c.args.object c.ranges.object in
    let programmer = to_z-of_z w32 c.args.programmer c.ranges.programmer in
    let owner = to_z-of_z w32 c.args.owner c.ranges.owner in
    let none : c.in_ok-names.field-0 ≡ None = first_of (search rules, cc) in
    absent_given g.V.View.holds g.V.View.now c.args.object c.args.name.now c.args.slot c.args.owner c.args.bits.now c.args.programmer c.args.view.now c.read_defines.new.view
    (rw (object, none) at c.in_ok-names.ensures.left)

pub returns-then-not-allowed-clause-left : goal.returns-then-not-allowed-clause-left
returns-then-not-allowed-clause-left g c =
    let object = to_z-of_z w32 c.args.object c.ranges.object in
    let programmer = to_z-of_z w32 c.args.programmer c.ranges.programmer in
    let owner = to_z-of_z w32 c.args.owner c.ranges.owner in
    refused_given g.V.View.holds g.V.View.now c.args.object c.args.name.now c.args.slot c.args.owner c.args.bits.now c.args.programmer c.args.view.now c.read_defines.new.view c.may.new.view
    c.in-Some.names (rw (object, c.in-Some.is) at c.in_ok-names.ensures.left) (rw (object, programmer, c.if-not-allowed.true) at c.in_ok-allowed.ensures.left)

pub add_owned-requires-clause-well_formed : goal.add_owned-requires-clause-well_formed
add_owned-requires-clause-well_formed g c =
    let object = to_z-of_z w32 c.args.object c.ranges.object in
    let programmer = to_z-of_z w32 c.args.programmer c.ranges.programmer in
    known_on g.V.View.holds g.V.View.now c.read_defines.new.view c.may.new.view (λ w. may w c.args.programmer (change_members c.args.object) ≡ true)
    (known_on g.V.View.holds g.V.View.now c.args.view.now c.read_defines.new.view (λ w. defines_at w c.args.object ≡ Some c.in-Some.names) c.requires.well_formed
    (rw (object, c.in-Some.is) at c.in_ok-names.ensures.left))
    (rw (object, programmer, c.if-not-allowed.false) at c.in_ok-allowed.ensures.left)
