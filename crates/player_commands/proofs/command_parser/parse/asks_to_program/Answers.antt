use Rattle.std.proofs.Common.{◌≡◌, false, ◌&&◌, refl, ap, codes, rules}
use Rattle.spec_value.specs.Datum.{same_text}
use Rattle.spec_world.specs.Permissions.{is_programmer}
use Rattle.player_commands.proofs.command_parser.parse.asks_to_program.Goals as goal

pub returns-then-not-asked-clause-left : goal.returns-then-not-asked-clause-left
returns-then-not-asked-clause-left g c =
    let other : same_text c.args.parts.now.verb (codes ".program") ≡ false = search rules in
    λ w is. (is, (refl, ap (λ b. b && is_programmer (g.V.View.now c.args.view.now w) c.args.player) other))
