use Rattle.std.proofs.Common.{◌≡◌, true, [], ◌∷◌, Some, w32}
use Rattle.std.proofs.lemmas.Int.{to_z-of_z}
use Rattle.spec_value.specs.Datum.{object as object_of, list, of_list}
use Rattle.spec_program.specs.ReadPrograms.{parsed_lines}
use Rattle.spec_world.specs.Permissions.{in_place, may, program_verb}
use Rattle.spec_world.specs.Questions.{verbs_at}
use Rattle.spec_moo.specs.Natives.Verbs.{verb_place, texts_of, programmed, set_verb_code_row}
use Rattle.moo_value.specs.Answers.{answer_of}
use Rattle.builtins_view.specs.Said.{with_programmer}
use Rattle.builtins_view.proofs.Keeping.{goes_well}
use Rattle.builtins_view.proofs.Chains.{then_does}
use Rattle.builtins.proofs.BuiltinsCodeChains.{verb_is_programmed}
use Rattle.builtins.proofs.BuiltinsCodeRowsKeep.{set_verb_code_keeps}
use Rattle.builtins.proofs.builtins_code.programming.set_verb_code.Goals as goal

pub returns-clause-left : goal.returns-clause-left
returns-clause-left g c =
    let object = to_z-of_z w32 c.args.object c.ranges.object in
    let programmer = to_z-of_z w32 c.args.programmer c.ranges.programmer in
    let place : verb_place c.in-Some.verbs c.args.which.now ≡ Some c.in-Some-own_verb.place = cc (c.in-Some-own_verb.ensures.0, c.in-Some-own_verb.place-is, c.as_slice.ensures, c.verbs.view_is) in
    let there : in_place c.in-Some.verbs c.in-Some-own_verb.place ≡ Some c.in-Some-own_verb.verb.now =
    cc (c.in-Some-own_verb.ensures.1, c.in-Some-own_verb.place-is, c.in-Some-own_verb.verb-is, c.as_slice.ensures, c.verbs.view_is)
    in
    then_does g.V.View.holds g.V.View.now c.args.view.now c.read_verbs.new.view c.may.new.view c.put_lines.new.view
    (λ w. verbs_at w c.args.object ≡ Some c.in-Some.verbs) (λ w. may w c.args.programmer (program_verb c.args.object c.in-Some-own_verb.place) ≡ true)
    (λ s k. programmed s c.args.object c.in-Some-own_verb.place (parsed_lines (texts_of (of_list c.args.lines.now))))
    (λ s k. set_verb_code_row s k (object_of c.args.object ∷ c.args.which.now ∷ list (of_list c.args.lines.now) ∷ []))
    c.args.programmer (answer_of c.in_ok-answer.answer)
    (rw (object, c.in-Some.is) at c.in_ok-verbs.ensures.left)
    (rw (object, programmer, c.if-not-allowed.false) at c.in_ok-allowed.ensures.left)
    (λ w l. let u = (rw (object, c.as_slice-2.ensures) at c.in_ok-answer.ensures.left) w l in (u.0, λ h s k. u.1 h s))
    (λ s k is allowed. verb_is_programmed s (with_programmer k c.args.programmer) c.args.object c.args.which.now (of_list c.args.lines.now) c.in-Some.verbs c.in-Some-own_verb.place
    c.in-Some-own_verb.verb.now is place there allowed)

pub returns-clause-well_formed : goal.returns-clause-well_formed
returns-clause-well_formed g c =
    goes_well g.V.View.holds g.V.View.now c.args.view.now c.put_lines.new.view (λ s k. set_verb_code_row s k (object_of c.args.object ∷ c.args.which.now ∷ list (of_list c.args.lines.now) ∷ []))
    c.args.programmer (answer_of c.in_ok-answer.answer) (set_verb_code_keeps (object_of c.args.object ∷ c.args.which.now ∷ list (of_list c.args.lines.now) ∷ [])) (returns-clause-left g c)
