use Rattle.std.proofs.Common.{◌≡◌, rules, w32, to_z, of_z}
use Rattle.std.proofs.lemmas.Int.{to_z-of_z}
use Rattle.spec_world.specs.World.{object_at}
use Rattle.spec_world.specs.Naming.{by_name, contents_of, location_of}
use Rattle.rules.proofs.Tellings.{told_on}
use Rattle.player_commands.specs.Fits.{answer_of, no_matches, with_objects}
use Rattle.player_commands.proofs.NamingRules.{found_by_name}
use Rattle.player_commands.proofs.object_match.naming.by_name.Goals as goal

pub returns-clause-left : goal.returns-clause-left
returns-clause-left g c =
    let player = to_z-of_z w32 c.args.player c.ranges.player in
    let room : to_z w32 (of_z w32 c.in_ok-room.room) ≡ c.in_ok-room.room = search rules in
    let answer : to_z w32 (of_z w32 c.answer.result) ≡ answer_of c.in_ok-matches.matches = search rules in
    rw answer (told_on g.V.View.holds g.V.View.now c.args.view.now c.location.new.view c.with_contents-2.new.view
    (λ w. (with_objects w c.args.text.now no_matches (contents_of (object_at w c.args.player)) ≡ c.in_ok-held.held) × (location_of (object_at w c.args.player) ≡ c.in_ok-room.room))
    (λ w. with_objects w c.args.text.now c.in_ok-held.held (contents_of (object_at w c.in_ok-room.room)) ≡ c.in_ok-matches.matches)
    (λ w. by_name w c.args.player c.args.text.now ≡ answer_of c.in_ok-matches.matches)
    c.requires.well_formed
    (told_on g.V.View.holds g.V.View.now c.args.view.now c.with_contents.new.view c.location.new.view
    (λ w. with_objects w c.args.text.now no_matches (contents_of (object_at w c.args.player)) ≡ c.in_ok-held.held)
    (λ w. location_of (object_at w c.args.player) ≡ c.in_ok-room.room)
    (λ w. (with_objects w c.args.text.now no_matches (contents_of (object_at w c.args.player)) ≡ c.in_ok-held.held) × (location_of (object_at w c.args.player) ≡ c.in_ok-room.room))
    c.requires.well_formed (rw player at c.in_ok-held.ensures.left) (rw player at c.in_ok-room.ensures.left) (λ w sound held there. (held, there)))
    (rw room at c.in_ok-matches.ensures.left)
    (λ w sound before after. found_by_name w c.args.player c.in_ok-room.room c.args.text.now c.in_ok-held.held c.in_ok-matches.matches before.0 before.1 after))
