use Rattle.std.proofs.Common.{◌≡◌, ◌∙◌, w32}
use Rattle.std.proofs.lemmas.Int.{to_z-of_z}
use Rattle.spec_world.specs.SpecViewLaws.{first}
use Rattle.spec_world.specs.Listings.{readers_on}
use Rattle.spec_world.proofs.Firsts.{reader_is_first}
use Rattle.step_deeds.proofs.links.reader.Goals as goal

pub returns-clause-left : goal.returns-clause-left
returns-clause-left g c = λ w is.
    let connection = to_z-of_z w32 c.args.connection c.ranges.connection in
    let t = (rw connection at c.in_ok-readers.ensures.left) w is in
    let same : first (readers_on (g.V.View.now c.args.view.now w) c.args.connection) ≡ c.first-reader.result = cc (t.1.1, c.first-reader.ensures, c.as_slice.ensures) in
    (t.0, (t.1.0, reader_is_first (g.V.View.now c.args.view.now w) c.args.connection ∙ same))
