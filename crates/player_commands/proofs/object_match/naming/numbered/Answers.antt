use Rattle.std.proofs.Common.{◌≡◌, true, false, Some, is_some, rules, w32}
use Rattle.std.proofs.lemmas.Int.{to_z-of_z}
use Rattle.spec_world.specs.Questions.{header_at}
use Rattle.spec_world.specs.Naming.{by_number, by_words}
use Rattle.view.specs.Law.{Tells}
use Rattle.rules.proofs.Tellings.{if_ok_as, told_as, told_on, known_on}
use Rattle.player_commands.proofs.NamingRules.{numbered_there, numbered_gone}
use Rattle.player_commands.proofs.object_match.naming.numbered.Goals as goal

pub returns-then-is_some-clause-left : goal.returns-then-is_some-clause-left
returns-then-is_some-clause-left g c =
    let object = to_z-of_z w32 c.args.object c.ranges.object in
    let some : is_some c.in_ok-header.header ≡ true = search rules in
    rw object (told_as g.V.View.holds g.V.View.now c.args.view.now c.read_header.new.view (λ w. header_at w c.args.object ≡ c.in_ok-header.header)
    (λ w. by_number w c.args.player c.args.text.now (Some c.args.object) ≡ c.args.object)
    c.requires.well_formed (rw object at c.in_ok-header.ensures.left)
    (λ w sound is. numbered_there w c.args.player c.args.text.now c.args.object c.in_ok-header.header is some))

pub by_words-requires-clause-well_formed : goal.by_words-requires-clause-well_formed
by_words-requires-clause-well_formed g c =
    let object = to_z-of_z w32 c.args.object c.ranges.object in
    known_on g.V.View.holds g.V.View.now c.args.view.now c.read_header.new.view (λ w. header_at w c.args.object ≡ c.in_ok-header.header) c.requires.well_formed (rw object at c.in_ok-header.ensures.left)

pub returns-clause-left : goal.returns-clause-left
returns-clause-left g c =
    let object = to_z-of_z w32 c.args.object c.ranges.object in
    let player = to_z-of_z w32 c.args.player c.ranges.player in
    let none : is_some c.in_ok-header.header ≡ false = search rules in
    if_ok_as
    (λ n. Tells g.V.View.holds g.V.View.now c.read_header.new.view c.by_words.new.view (λ w. by_words w c.args.player c.args.text.now ≡ n))
    (λ n. Tells g.V.View.holds g.V.View.now c.args.view.now c.by_words.new.view (λ w. by_number w c.args.player c.args.text.now (Some c.args.object) ≡ n))
    (λ n told. told_on g.V.View.holds g.V.View.now c.args.view.now c.read_header.new.view c.by_words.new.view (λ w. header_at w c.args.object ≡ c.in_ok-header.header)
    (λ w. by_words w c.args.player c.args.text.now ≡ n) (λ w. by_number w c.args.player c.args.text.now (Some c.args.object) ≡ n)
    c.requires.well_formed (rw object at c.in_ok-header.ensures.left) told
    (λ w sound is so. numbered_gone w c.args.player c.args.text.now c.args.object n c.in_ok-header.header is none so))
    c.by_words.result (rw player at c.by_words.ensures.left)
