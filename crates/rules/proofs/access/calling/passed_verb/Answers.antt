use Rattle.std.proofs.Common.{◌≡◌, Some, None, ap, ◌∙◌, rules, w32, to_z, of_z}
use Rattle.std.proofs.lemmas.Int.{to_z-of_z}
use Rattle.spec_world.specs.World.{Header, object_at}
use Rattle.spec_world.specs.Questions.{header_at}
use Rattle.spec_world.specs.VerbsSought.{find_verb}
use Rattle.spec_moo.specs.Effects.Calls.{above_definer}
use Rattle.view.specs.Law.{Tells}
use Rattle.rules.proofs.Tellings.{if_ok_as, told_as, told_on}
use Rattle.rules.proofs.CallRules.{passed_above, passed_nowhere}
use Rattle.rules.proofs.StaysSound.{lasts_on, sound_told}
use Rattle.rules.proofs.access.calling.passed_verb.Goals as goal

pub returns-in-Some-clause-left : goal.returns-in-Some-clause-left
returns-in-Some-clause-left g c =
    let definer = to_z-of_z w32 c.args.definer c.ranges.definer in
    let whole : to_z w32 (of_z w32 c.header.inside.parent) ≡ c.header.inside.parent = search rules in
    let parent : to_z w32 (of_z w32 c.header.inside.parent) ≡ c.in-Some.header.parent = whole ∙ ap (λ (h : Header). h.parent) c.header.view_is in
    if_ok_as
    (λ f. Tells g.V.View.holds g.V.View.now c.read_header.new.view c.find_verb.new.view (λ w. find_verb w c.in-Some.header.parent c.args.word.now ≡ f))
    (λ f. Tells g.V.View.holds g.V.View.now c.args.view.now c.find_verb.new.view (λ w. above_definer w c.args.word.now (object_at w c.args.definer) ≡ f))
    (λ f told. told_on g.V.View.holds g.V.View.now c.args.view.now c.read_header.new.view c.find_verb.new.view (λ w. header_at w c.args.definer ≡ Some c.in-Some.header)
    (λ w. find_verb w c.in-Some.header.parent c.args.word.now ≡ f) (λ w. above_definer w c.args.word.now (object_at w c.args.definer) ≡ f)
    c.requires.well_formed (rw (definer, c.in-Some.is) at c.in_ok-header.ensures.left) told
    (λ w sound is found. passed_above w c.args.word.now c.args.definer c.in-Some.header f is found))
    c.find_verb.result (rw parent at c.find_verb.ensures.left)

pub returns-in-None-clause-left : goal.returns-in-None-clause-left
returns-in-None-clause-left g c =
    let definer = to_z-of_z w32 c.args.definer c.ranges.definer in
    told_as g.V.View.holds g.V.View.now c.args.view.now c.read_header.new.view (λ w. header_at w c.args.definer ≡ None) (λ w. above_definer w c.args.word.now (object_at w c.args.definer) ≡ None)
    c.requires.well_formed (rw (definer, c.in-None.is) at c.in_ok-header.ensures.left) (λ w sound is. passed_nowhere w c.args.word.now c.args.definer is)

pub returns-in-Some-clause-sound : goal.returns-in-Some-clause-sound
returns-in-Some-clause-sound g c =
    sound_told g.V.View.holds g.V.View.now g.V.View.home g.V.View.anchor c.args.view.now c.find_verb.new.view (λ f w. above_definer w c.args.word.now (object_at w c.args.definer) ≡ f) c.find_verb.result
    (lasts_on g.V.View.holds g.V.View.home g.V.View.anchor c.args.view.now c.read_header.new.view c.find_verb.new.view _ c.find_verb.result c.in_ok-header.ensures.lasts c.find_verb.ensures.lasts)
    (returns-in-Some-clause-left g c)
