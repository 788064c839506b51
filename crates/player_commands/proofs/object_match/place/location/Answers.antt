use Rattle.std.proofs.Common.{◌≡◌, Some, ap, ◌∙◌, rules, w32, to_z, of_z}
use Rattle.std.proofs.lemmas.Int.{to_z-of_z}
use Rattle.spec_world.specs.World.{Header}
use Rattle.player_commands.proofs.NamingRules.{location_there}
use Rattle.player_commands.proofs.object_match.place.location.Goals as goal

pub returns-in-Some-clause-left : goal.returns-in-Some-clause-left
returns-in-Some-clause-left g c =
    let object = to_z-of_z w32 c.args.object c.ranges.object in
    let whole : to_z w32 (of_z w32 c.header.inside.location) ≡ c.header.inside.location = search rules in
    let place : to_z w32 (of_z w32 c.header.inside.location) ≡ c.in-Some.header.location = whole ∙ ap (λ (h : Header). h.location) c.header.view_is in
    rw place (λ w is.
    let told = (rw (object, c.in-Some.is) at c.in_ok-header.ensures.left) w is in
    (told.0, (told.1.0, location_there (g.V.View.now c.args.view.now w) c.args.object c.in-Some.header told.1.1)))
