use Rattle.std.proofs.Common.{◌≡◌, ◌∙◌, w32}
use Rattle.std.proofs.lemmas.Int.{to_z-of_z}
use Rattle.spec_world.specs.SpecViewLaws.{first}
use Rattle.spec_world.specs.Listings.{connections_of}
use Rattle.spec_world.proofs.Firsts.{connection_is_first}
use Rattle.step_deeds.proofs.links.connection.Goals as goal

pub returns-clause-left : goal.returns-clause-left
returns-clause-left g c = λ w is.
    let object = to_z-of_z w32 c.args.object c.ranges.object in
    let t = (rw object at c.in_ok-connections.ensures.left) w is in
    let same : first (connections_of (g.V.View.now c.args.view.now w) c.args.object) ≡ c.first-connection.result = cc (t.1.1, c.first-connection.ensures, c.as_slice.ensures) in
    (t.0, (t.1.0, connection_is_first (g.V.View.now c.args.view.now w) c.args.object ∙ same))
