use Rattle.std.proofs.Common.{◌≡◌, sym, ◌∙◌, rules, w32, to_z, of_z}
use Rattle.std.proofs.lemmas.Int.{to_z-of_z}
use Rattle.spec_world.specs.Naming.{name_object}
use Rattle.spec_world.specs.CommandLines.{named_by}
use Rattle.rules.proofs.Tellings.{told_on}
use Rattle.player_commands.specs.CommandLinesMeant.{parts_of}
use Rattle.player_commands.specs.Meanings.{named_of}
use Rattle.player_commands.proofs.LineRules.{both_named}
use Rattle.player_commands.proofs.command_parser.parse.with_objects.Goals as goal

pub returns-clause-left : goal.returns-clause-left
returns-clause-left g c =
    let player = to_z-of_z w32 c.args.player c.ranges.player in
    let direct : to_z w32 (of_z w32 c.in_ok-direct.direct) ≡ c.in_ok-direct.direct = search rules in
    let indirect : to_z w32 (of_z w32 c.in_ok-indirect.indirect) ≡ c.in_ok-indirect.indirect = search rules in
    told_on g.V.View.holds g.V.View.now c.args.view.now c.name_object.new.view c.name_object-2.new.view
    (λ w. name_object w c.args.player c.args.parts.dobjstr ≡ c.in_ok-direct.direct) (λ w. name_object w c.args.player c.args.parts.iobjstr ≡ c.in_ok-indirect.indirect)
    (λ w. named_by w c.args.player (parts_of c.args.parts) ≡ named_of c.new.result)
    c.requires.well_formed (rw (player, c.as_str.ensures) at c.in_ok-direct.ensures.left) (rw (player, c.as_str-2.ensures) at c.in_ok-indirect.ensures.left)
    (λ w sound is other. both_named w c.args.player c.in_ok-direct.direct c.in_ok-indirect.indirect (parts_of c.args.parts) is other ∙ sym (rw (direct, indirect) at c.new.ensures.named))
