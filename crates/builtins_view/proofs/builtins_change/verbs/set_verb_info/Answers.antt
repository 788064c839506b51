use Rattle.std.proofs.Common.{◌≡◌, true, [], ◌∷◌, Some, w32}
use Rattle.std.proofs.lemmas.Int.{to_z-of_z}
use Rattle.spec_value.specs.Datum.{object as object_of}
use Rattle.spec_world.specs.Permissions.{in_place, may, write_verb}
use Rattle.spec_world.specs.Questions.{verbs_at}
use Rattle.spec_moo.specs.Natives.Verbs.{verb_place, set_verb_info_row}
use Rattle.moo_value.specs.Answers.{answer_of}
use Rattle.builtins_view.specs.Said.{with_programmer}
use Rattle.builtins_view.specs.BuiltinsChangeLater.{verb_given}
use Rattle.builtins_view.specs.BuiltinsChangeListed.{info_given}
use Rattle.builtins_view.proofs.Chains.{then_does, verb_is_given}
use Rattle.builtins_view.proofs.Keeping.{goes_well}
use Rattle.builtins_view.proofs.RowsKeep.{set_verb_info_keeps}
use Rattle.builtins_view.proofs.builtins_change.verbs.set_verb_info.Goals as goal

pub returns-clause-left : goal.returns-clause-left
returns-clause-left g c =
    let object = to_z-of_z w32 c.args.object c.ranges.object in
    let programmer = to_z-of_z w32 c.args.programmer c.ranges.programmer in
    let place : verb_place c.in-Some.verbs c.args.which.now ≡ Some c.in-Some-own_verb.place = cc (c.in-Some-own_verb.ensures.0, c.in-Some-own_verb.place-is, c.as_slice.ensures, c.verbs.view_is) in
    let there : in_place c.in-Some.verbs c.in-Some-own_verb.place ≡ Some c.in-Some-own_verb.verb.now =
    cc (c.in-Some-own_verb.ensures.1, c.in-Some-own_verb.place-is, c.in-Some-own_verb.verb-is, c.as_slice.ensures, c.verbs.view_is)
    in
    then_does g.V.View.holds g.V.View.now c.args.view.now c.read_verbs.new.view c.may.new.view c.give_info.new.view
    (λ w. verbs_at w c.args.object ≡ Some c.in-Some.verbs) (λ w. may w c.args.programmer (write_verb c.args.object c.in-Some-own_verb.place) ≡ true)
    (verb_given c.args.object c.in-Some-own_verb.place c.in-Some-own_verb.verb.now c.args.info.now)
    (λ s k. set_verb_info_row s k (object_of c.args.object ∷ c.args.which.now ∷ info_given c.args.info.now ∷ []))
    c.args.programmer (answer_of c.in_ok-answer.answer)
    (rw (object, c.in-Some.is) at c.in_ok-verbs.ensures.left)
    (rw (object, programmer, c.if-not-allowed.false) at c.in_ok-allowed.ensures.left)
    (rw (object, programmer, c.as_slice-2.ensures) at c.in_ok-answer.ensures.left)
    (λ s k is allowed. verb_is_given s (with_programmer k c.args.programmer) c.args.object c.args.which.now c.args.info.now c.in-Some.verbs c.in-Some-own_verb.place c.in-Some-own_verb.verb.now
    is place there allowed)

pub returns-clause-well_formed : goal.returns-clause-well_formed
returns-clause-well_formed g c =
    goes_well g.V.View.holds g.V.View.now c.args.view.now c.give_info.new.view (λ s k. set_verb_info_row s k (object_of c.args.object ∷ c.args.which.now ∷ info_given c.args.info.now ∷ []))
    c.args.programmer (answer_of c.in_ok-answer.answer) (set_verb_info_keeps (object_of c.args.object ∷ c.args.which.now ∷ info_given c.args.info.now ∷ [])) (returns-clause-left g c)
