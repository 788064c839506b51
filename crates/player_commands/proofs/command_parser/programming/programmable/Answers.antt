use Rattle.std.proofs.Common.{◌≡◌, w32}
use Rattle.std.proofs.lemmas.Int.{to_z-of_z}
use Rattle.spec_world.specs.Questions.{verbs_at}
use Rattle.spec_moo.specs.Steps.Programming.{programmable, programmable_at}
use Rattle.rules.proofs.Tellings.{told_on}
use Rattle.player_commands.specs.Openings.{place_among}
use Rattle.player_commands.proofs.ProgramRules.{programmable_is}
use Rattle.player_commands.proofs.command_parser.programming.programmable.Goals as goal

pub returns-clause-left : goal.returns-clause-left
returns-clause-left g c =
    let player = to_z-of_z w32 c.args.player c.ranges.player in
    let object = to_z-of_z w32 c.args.object c.ranges.object in
    told_on g.V.View.holds g.V.View.now c.args.view.now c.read_verbs.new.view c.allowed_at.new.view (λ w. verbs_at w c.args.object ≡ c.in_ok-verbs.verbs)
    (λ w. programmable_at w c.args.player c.args.object (place_among c.in_ok-verbs.verbs c.args.name.now) ≡ c.in_ok-allowed.allowed)
    (λ w. programmable w c.args.player c.args.object c.args.name.now ≡ c.in_ok-allowed.allowed)
    c.requires.well_formed (rw object at c.in_ok-verbs.ensures.left) (rw (player, object, c.own_place-place.ensures) at c.in_ok-allowed.ensures.left)
    (λ w sound is so. programmable_is w c.args.player c.args.object c.in_ok-verbs.verbs c.args.name.now c.in_ok-allowed.allowed is so)
