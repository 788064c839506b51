use Rattle.std.proofs.Common.{◌≡◌, true, Some, w32}
use Rattle.std.proofs.lemmas.Int.{to_z-of_z}
use Rattle.std.specs.Prelude.{option_map}
use Rattle.spec_world.specs.Permissions.{may, change_members}
use Rattle.spec_world.specs.Questions.{verbs_at}
use Rattle.moo_value.specs.Answers.{answer_of}
use Rattle.builtins_view.specs.Said.{with_programmer}
use Rattle.builtins_view.specs.BuiltinsChangeLater.{added, added_owned}
use Rattle.builtins_view.specs.Specifiers.{specifier_of}
use Rattle.builtins_view.proofs.Chains.{then_does, is_added}
use Rattle.builtins_view.proofs.builtins_change.verbs.add.Goals as goal

pub returns-clause-left : goal.returns-clause-left
returns-clause-left g c =
    let object = to_z-of_z w32 c.args.object c.ranges.object in
    let programmer = to_z-of_z w32 c.args.programmer c.ranges.programmer in
    then_does g.V.View.holds g.V.View.now c.args.view.now c.read_verbs.new.view c.may.new.view c.add_owned.new.view
    (λ w. verbs_at w c.args.object ≡ Some c.in-Some.verbs) (λ w. may w c.args.programmer (change_members c.args.object) ≡ true)
    (added_owned (option_map specifier_of c.args.specifier) c.args.object c.args.info.now) (added (option_map specifier_of c.args.specifier) c.args.object c.args.info.now)
    c.args.programmer (answer_of c.in_ok-answer.answer)
    (rw (object, c.in-Some.is) at c.in_ok-verbs.ensures.left)
    (rw (object, programmer, c.if-not-allowed.false) at c.in_ok-allowed.ensures.left)
    (rw (object, programmer, c.as_slice.ensures) at c.in_ok-answer.ensures.left)
    (λ s k is allowed. is_added s (with_programmer k c.args.programmer) (option_map specifier_of c.args.specifier) c.args.object c.args.info.now c.in-Some.verbs is allowed)
