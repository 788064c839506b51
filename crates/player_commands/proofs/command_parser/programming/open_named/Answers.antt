use Rattle.std.proofs.Common.{◌≡◌, ℤ, rules, w32, to_z, of_z}
use Rattle.std.proofs.lemmas.Int.{to_z-of_z}
use Rattle.spec_world.specs.World.{object_at}
use Rattle.spec_world.specs.Naming.{name_object}
use Rattle.spec_world.specs.CommandLines.{program_verb}
use Rattle.spec_moo.specs.Scene.{Scene}
use Rattle.spec_moo.specs.Steps.Programming.{requested, opens}
use Rattle.rules.proofs.Tellings.{told_on}
use Rattle.player_commands.specs.Openings.{opened}
use Rattle.player_commands.proofs.ProgramRules.{named_first}
use Rattle.player_commands.proofs.command_parser.programming.open_named.Goals as goal

pub returns-clause-left : goal.returns-clause-left
returns-clause-left g c =
    let player = to_z-of_z w32 c.args.player c.ranges.player in
    let object : to_z w32 (of_z w32 c.in_ok-object.object) ≡ c.in_ok-object.object = search rules in
    told_on g.V.View.holds g.V.View.now c.args.view.now c.name_object.new.view c.open_on.new.view (λ w. name_object w c.args.player c.args.text ≡ c.in_ok-object.object)
    (λ w. (s : Scene) (n : ℤ) → s.world ≡ w → opens s n c.args.player c.in_ok-object.object c.args.name (object_at w c.in_ok-object.object) ≡ opened s n c.args.player c.in_ok-opening.opening)
    (λ w. (s : Scene) (n : ℤ) → s.world ≡ w → requested s n c.args.player (program_verb c.args.text c.args.name) ≡ opened s n c.args.player c.in_ok-opening.opening)
    c.requires.well_formed (rw (player, c.as_str.ensures) at c.in_ok-object.ensures.left) (rw (player, object) at c.in_ok-opening.ensures.left)
    (λ w sound is so s n same. named_first w s n c.args.player c.in_ok-object.object c.args.text c.args.name c.in_ok-opening.opening same is (so s n same))
