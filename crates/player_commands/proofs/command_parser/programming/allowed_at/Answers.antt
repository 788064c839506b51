use Rattle.std.proofs.Common.{◌≡◌, Some, refl, ap, ◌∙◌, w32}
use Rattle.std.proofs.lemmas.Int.{to_z-of_z}
use Rattle.spec_moo.specs.Steps.Programming.{programmable_at}
use Rattle.view.specs.Law.{Tells}
use Rattle.rules.proofs.Tellings.{if_ok_as}
use Rattle.player_commands.proofs.command_parser.programming.allowed_at.Goals as goal

pub returns-in-None-clause-left : goal.returns-in-None-clause-left
returns-in-None-clause-left g c = λ w is. (is, (refl, ap (programmable_at (g.V.View.now c.args.view.now w) c.args.player c.args.object) c.in-None.is))

pub returns-in-Some-clause-left : goal.returns-in-Some-clause-left
returns-in-Some-clause-left g c =
    let player = to_z-of_z w32 c.args.player c.ranges.player in
    let object = to_z-of_z w32 c.args.object c.ranges.object in
    if_ok_as
    (λ n. Tells g.V.View.holds g.V.View.now c.args.view.now c.allowed_there.new.view (λ w. programmable_at w c.args.player c.args.object (Some c.in-Some.place) ≡ n))
    (λ n. Tells g.V.View.holds g.V.View.now c.args.view.now c.allowed_there.new.view (λ w. programmable_at w c.args.player c.args.object c.args.place ≡ n))
    (λ n told w is.
    let t = told w is in
    (t.0, (t.1.0, ap (programmable_at (g.V.View.now c.args.view.now w) c.args.player c.args.object) c.in-Some.is ∙ t.1.1)))
    c.allowed_there.result (rw (player, object) at c.allowed_there.ensures.left)
