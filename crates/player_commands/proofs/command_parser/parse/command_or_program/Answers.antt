use Rattle.std.proofs.Common.{◌≡◌, Some, false, sym, ap, ◌∙◌, w32}
use Rattle.std.proofs.lemmas.Int.{to_z-of_z}
use Rattle.spec_world.specs.CommandLines as line
use Rattle.spec_world.specs.CommandLines.{Parts, command_or_program, asks_to_program, named_by}
use Rattle.view.specs.Law.{Tells}
use Rattle.rules.proofs.Tellings.{if_ok_as, told_on}
use Rattle.player_commands.specs.CommandLinesMeant.{parts_of}
use Rattle.player_commands.specs.Meanings.{named_of, command_of}
use Rattle.player_commands.specs.declared.command_parser.command.Command.{Command}
use Rattle.player_commands.proofs.LineRules.{commands}
use Rattle.player_commands.proofs.command_parser.parse.command_or_program.Goals as goal

pub returns-clause-left : goal.returns-clause-left
returns-clause-left g c =
    let player = to_z-of_z w32 c.args.player c.ranges.player in
    if_ok_as
    (λ (k : Command). Tells g.V.View.holds g.V.View.now c.with_objects.new.view c.command.new.view
    (λ w. line.command_of w c.args.player (parts_of c.in_ok-said.said.parts) (named_of c.in_ok-said.said) ≡ command_of k))
    (λ (k : Command). Tells g.V.View.holds g.V.View.now c.args.view.now c.command.new.view (λ w. command_or_program w c.args.player (Some (parts_of c.args.parts)) ≡ command_of k))
    (λ k told. told_on g.V.View.holds g.V.View.now c.args.view.now c.with_objects.new.view c.command.new.view
    (λ w. (asks_to_program w c.args.player (parts_of c.args.parts) ≡ false) × (named_by w c.args.player (parts_of c.args.parts) ≡ named_of c.in_ok-said.said))
    (λ w. line.command_of w c.args.player (parts_of c.in_ok-said.said.parts) (named_of c.in_ok-said.said) ≡ command_of k)
    (λ w. command_or_program w c.args.player (Some (parts_of c.args.parts)) ≡ command_of k)
    c.requires.well_formed
    (told_on g.V.View.holds g.V.View.now c.args.view.now c.asks_to_program.new.view c.with_objects.new.view (λ w. asks_to_program w c.args.player (parts_of c.args.parts) ≡ false)
    (λ w. named_by w c.args.player (parts_of c.args.parts) ≡ named_of c.in_ok-said.said)
    (λ w. (asks_to_program w c.args.player (parts_of c.args.parts) ≡ false) × (named_by w c.args.player (parts_of c.args.parts) ≡ named_of c.in_ok-said.said))
    c.requires.well_formed (rw (player, c.if-programs.false) at c.in_ok-programs.ensures.left) (rw player at c.in_ok-said.ensures.left) (λ w sound asked named. (asked, named)))
    told
    (λ w sound before is. commands w c.args.player (parts_of c.args.parts) (named_of c.in_ok-said.said) (command_of k) before.0 before.1
    (ap (λ (r : Parts). line.command_of w c.args.player r (named_of c.in_ok-said.said)) (sym c.in_ok-said.ensures.parts) ∙ is)))
    c.command.result (rw player at c.command.ensures.left)
