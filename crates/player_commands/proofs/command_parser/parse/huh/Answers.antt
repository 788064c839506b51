use Rattle.std.proofs.Common.{◌≡◌, sym, ◌∙◌, codes, rules, w32, to_z, of_z}
use Rattle.std.proofs.lemmas.Int.{to_z-of_z}
use Rattle.spec_world.specs.World.{object_at}
use Rattle.spec_world.specs.Naming.{location_of}
use Rattle.spec_world.specs.VerbsSought.{find_verb}
use Rattle.spec_world.specs.CommandLines.{huh_or_not}
use Rattle.rules.proofs.Tellings.{told_on}
use Rattle.player_commands.specs.CommandLinesMeant.{parts_of}
use Rattle.player_commands.specs.Meanings.{named_of, command_of}
use Rattle.player_commands.proofs.VerbRules.{huh_is}
use Rattle.player_commands.proofs.command_parser.parse.huh.Goals as goal

pub returns-clause-left : goal.returns-clause-left
returns-clause-left g c =
    let player = to_z-of_z w32 c.args.player c.ranges.player in
    let room : to_z w32 (of_z w32 c.in_ok-room.room) ≡ c.in_ok-room.room = search rules in
    told_on g.V.View.holds g.V.View.now c.args.view.now c.location.new.view c.find_verb.new.view (λ w. location_of (object_at w c.args.player) ≡ c.in_ok-room.room)
    (λ w. find_verb w c.in_ok-room.room (codes "huh") ≡ c.in_ok-verb.verb)
    (λ w. huh_or_not (parts_of c.args.said.parts) (named_of c.args.said) (find_verb w (location_of (object_at w c.args.player)) (codes "huh")) ≡ command_of c.huh_or_not.result)
    c.requires.well_formed (rw player at c.in_ok-room.ensures.left) (rw room at c.in_ok-verb.ensures.left)
    (λ w sound there is. huh_is w c.args.player c.in_ok-room.room (parts_of c.args.said.parts) (named_of c.args.said) c.in_ok-verb.verb there is ∙ sym c.huh_or_not.ensures)
