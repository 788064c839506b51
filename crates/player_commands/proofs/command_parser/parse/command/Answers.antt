use Rattle.std.proofs.Common.{◌≡◌, Some, None, rules, codes, w32}
use Rattle.std.proofs.lemmas.Int.{to_z-of_z}
use Rattle.spec_world.specs.World.{object_at}
use Rattle.spec_world.specs.Naming.{location_of}
use Rattle.spec_world.specs.VerbsSought.{find_verb}
use Rattle.spec_world.specs.CommandLines as line
use Rattle.spec_world.specs.CommandLines.{verb_meant, huh_or_not, calls_verb}
use Rattle.view.specs.Law.{Tells}
use Rattle.rules.proofs.Tellings.{if_ok_as, told_as, told_on}
use Rattle.player_commands.specs.CommandLinesMeant.{parts_of}
use Rattle.player_commands.specs.Meanings.{named_of, meant_of, command_of}
use Rattle.player_commands.specs.declared.command_parser.command.Command.{Command}
use Rattle.player_commands.proofs.VerbRules.{verb_is, no_verb}
use Rattle.player_commands.proofs.command_parser.parse.command.Goals as goal

pub returns-in-Some-clause-left : goal.returns-in-Some-clause-left
returns-in-Some-clause-left g c =
    let player = to_z-of_z w32 c.args.player c.ranges.player in
    told_as g.V.View.holds g.V.View.now c.args.view.now c.verb_meant.new.view
    (λ w. verb_meant w c.args.player c.args.said.parts.verb (named_of c.args.said) ≡ Some (meant_of c.in-Some.meant))
    (λ w. line.command_of w c.args.player (parts_of c.args.said.parts) (named_of c.args.said) ≡ calls_verb (parts_of c.args.said.parts) (named_of c.args.said) (meant_of c.in-Some.meant))
    c.requires.well_formed (rw (player, c.in-Some.is) at c.in_ok-meant.ensures.left)
    (λ w sound is. verb_is w c.args.player (parts_of c.args.said.parts) (named_of c.args.said) (meant_of c.in-Some.meant) is)

pub returns-clause-left : goal.returns-clause-left
returns-clause-left g c =
    let player = to_z-of_z w32 c.args.player c.ranges.player in
    let none : c.in_ok-meant.field-0 ≡ None = search rules in
    if_ok_as
    (λ (k : Command). Tells g.V.View.holds g.V.View.now c.verb_meant.new.view c.huh.new.view
    (λ w. huh_or_not (parts_of c.args.said.parts) (named_of c.args.said) (find_verb w (location_of (object_at w c.args.player)) (codes "huh")) ≡ command_of k))
    (λ (k : Command). Tells g.V.View.holds g.V.View.now c.args.view.now c.huh.new.view
    (λ w. line.command_of w c.args.player (parts_of c.args.said.parts) (named_of c.args.said) ≡ command_of k))
    (λ k told. told_on g.V.View.holds g.V.View.now c.args.view.now c.verb_meant.new.view c.huh.new.view
    (λ w. verb_meant w c.args.player c.args.said.parts.verb (named_of c.args.said) ≡ None)
    (λ w. huh_or_not (parts_of c.args.said.parts) (named_of c.args.said) (find_verb w (location_of (object_at w c.args.player)) (codes "huh")) ≡ command_of k)
    (λ w. line.command_of w c.args.player (parts_of c.args.said.parts) (named_of c.args.said) ≡ command_of k)
    c.requires.well_formed (rw (player, none) at c.in_ok-meant.ensures.left) told
    (λ w sound no_verb_is is. no_verb w c.args.player (parts_of c.args.said.parts) (named_of c.args.said) (command_of k) no_verb_is is))
    c.huh.result (rw player at c.huh.ensures.left)
