use Rattle.std.proofs.Common.{◌≡◌, Some, None, rules, w32}
use Rattle.std.specs.Prelude.{option_map, Option}
use Rattle.std.proofs.lemmas.Int.{to_z-of_z}
use Rattle.spec_world.specs.CommandLines.{meant_on, verb_meant}
use Rattle.view.specs.Law.{Tells}
use Rattle.rules.proofs.Tellings.{if_ok_as, told_as, told_on}
use Rattle.player_commands.specs.Meanings.{named_of, meant_of, meant_in_room}
use Rattle.player_commands.specs.declared.command_parser.command.Meant.{Meant}
use Rattle.player_commands.proofs.VerbRules.{by_player, beyond_player}
use Rattle.player_commands.proofs.command_parser.sought.verb_meant.Goals as goal

pub returns-in-Some-clause-left : goal.returns-in-Some-clause-left
returns-in-Some-clause-left g c =
    let player = to_z-of_z w32 c.args.player c.ranges.player in
    told_as g.V.View.holds g.V.View.now c.args.view.now c.meant_on.new.view
    (λ w. meant_on w c.args.said.now.parts.verb (named_of c.args.said.now) c.args.player ≡ Some (meant_of c.in-Some.meant))
    (λ w. verb_meant w c.args.player c.args.said.now.parts.verb (named_of c.args.said.now) ≡ Some (meant_of c.in-Some.meant))
    c.requires.well_formed (rw (player, c.in-Some.is) at c.in_ok-meant.ensures.left)
    (λ w sound is. by_player w c.args.player c.args.said.now.parts.verb (named_of c.args.said.now) (meant_of c.in-Some.meant) is)

pub returns-clause-left : goal.returns-clause-left
returns-clause-left g c =
    let player = to_z-of_z w32 c.args.player c.ranges.player in
    let none : c.in_ok-meant.field-0 ≡ None = search rules in
    if_ok_as
    (λ (m : Option Meant). Tells g.V.View.holds g.V.View.now c.meant_on.new.view c.in_room.new.view
    (λ w. meant_in_room w c.args.player c.args.said.now.parts.verb (named_of c.args.said.now) ≡ option_map meant_of m))
    (λ (m : Option Meant). Tells g.V.View.holds g.V.View.now c.args.view.now c.in_room.new.view
    (λ w. verb_meant w c.args.player c.args.said.now.parts.verb (named_of c.args.said.now) ≡ option_map meant_of m))
    (λ m told. told_on g.V.View.holds g.V.View.now c.args.view.now c.meant_on.new.view c.in_room.new.view
    (λ w. meant_on w c.args.said.now.parts.verb (named_of c.args.said.now) c.args.player ≡ None)
    (λ w. meant_in_room w c.args.player c.args.said.now.parts.verb (named_of c.args.said.now) ≡ option_map meant_of m)
    (λ w. verb_meant w c.args.player c.args.said.now.parts.verb (named_of c.args.said.now) ≡ option_map meant_of m)
    c.requires.well_formed (rw (player, none) at c.in_ok-meant.ensures.left) told
    (λ w sound no_player is. beyond_player w c.args.player c.args.said.now.parts.verb (named_of c.args.said.now) (option_map meant_of m) no_player is))
    c.in_room.result (rw player at c.in_room.ensures.left)
