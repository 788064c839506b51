use Rattle.std.proofs.Common.{◌≡◌, Ok, Err, Some, None, w32}
use Rattle.std.proofs.lemmas.Int.{to_z-of_z}
use Rattle.spec_world.specs.World.{object_at}
use Rattle.spec_world.specs.VerbsSought.{find_verb}
use Rattle.rules.proofs.Tellings.{told_as, told_on}
use Rattle.rules.specs.Calling.{verb_error, verb_found}
use Rattle.rules.proofs.CallRules.{found_there, none_there}
use Rattle.rules.proofs.access.calling.found_on.Goals as goal

pub returns-in-Some-clause-left : goal.returns-in-Some-clause-left
returns-in-Some-clause-left g c =
    let object = to_z-of_z w32 c.args.object c.ranges.object in
    told_as g.V.View.holds g.V.View.now c.args.view.now c.find_verb.new.view (λ w. find_verb w c.args.object c.args.word.now ≡ Some c.in-Some.found)
    (λ w. verb_found w c.args.object c.args.word.now (object_at w c.args.object) ≡ Ok c.in-Some.found)
    c.requires.well_formed (rw (object, c.in-Some.is) at c.in_ok-verb.ensures.left)
    (λ w sound is. found_there w c.args.object c.args.word.now c.in-Some.found sound is)

pub returns-in_ok-error-in-None-clause-left : goal.returns-in_ok-error-in-None-clause-left
returns-in_ok-error-in-None-clause-left g c =
    let object = to_z-of_z w32 c.args.object c.ranges.object in
    told_on g.V.View.holds g.V.View.now c.args.view.now c.find_verb.new.view c.missing.new.view (λ w. find_verb w c.args.object c.args.word.now ≡ None)
    (λ w. verb_error (object_at w c.args.object) ≡ c.in_ok-error-in-None.error) (λ w. verb_found w c.args.object c.args.word.now (object_at w c.args.object) ≡ Err c.in_ok-error-in-None.error)
    c.requires.well_formed (rw (object, c.in-None.is) at c.in_ok-verb.ensures.left) (rw object at c.in_ok-error-in-None.ensures.left)
    (λ w sound is error. none_there w c.args.object c.args.word.now c.in_ok-error-in-None.error is error)
