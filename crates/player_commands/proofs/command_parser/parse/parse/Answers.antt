use Rattle.std.proofs.Common.{◌≡◌, Some, refl, sym, ap, ◌∙◌, w32}
use Rattle.std.specs.Prelude.{option_map}
use Rattle.std.proofs.lemmas.Int.{to_z-of_z}
use Rattle.spec_world.specs.CommandLines.{command_said, command_or_program}
use Rattle.view.specs.Law.{Tells}
use Rattle.rules.proofs.Tellings.{if_ok_as, told_as}
use Rattle.player_commands.specs.CommandLinesMeant.{parts_of}
use Rattle.player_commands.specs.Meanings.{command_of}
use Rattle.player_commands.specs.declared.command_parser.command.Command.{Command}
use Rattle.player_commands.proofs.LineRules.{said_is, nothing_is}
use Rattle.player_commands.proofs.command_parser.parse.parse.Goals as goal

pub returns-in-Some-clause-left : goal.returns-in-Some-clause-left
returns-in-Some-clause-left g c =
    let player = to_z-of_z w32 c.args.player c.ranges.player in
    if_ok_as
    (λ (k : Command). Tells g.V.View.holds g.V.View.now c.args.view.now c.command_or_program.new.view (λ w. command_or_program w c.args.player (Some (parts_of c.in-Some.parts)) ≡ command_of k))
    (λ (k : Command). Tells g.V.View.holds g.V.View.now c.args.view.now c.command_or_program.new.view (λ w. command_said w c.args.player c.args.line.now ≡ command_of k))
    (λ k told. told_as g.V.View.holds g.V.View.now c.args.view.now c.command_or_program.new.view
    (λ w. command_or_program w c.args.player (Some (parts_of c.in-Some.parts)) ≡ command_of k) (λ w. command_said w c.args.player c.args.line.now ≡ command_of k)
    c.requires.well_formed told
    (λ w sound so. said_is w c.args.player c.args.line.now (Some (parts_of c.in-Some.parts)) (command_of k) (sym c.in_ok-parts.ensures ∙ ap (option_map parts_of) c.in-Some.is) so))
    c.command_or_program.result (rw player at c.command_or_program.ensures.left)

pub returns-in-None-clause-left : goal.returns-in-None-clause-left
returns-in-None-clause-left g c = λ w is.
    (is, (refl, nothing_is (g.V.View.now c.args.view.now w) c.args.player c.args.line.now (sym c.in_ok-parts.ensures ∙ ap (option_map parts_of) c.in-None.is)))
