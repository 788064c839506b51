use Rattle.std.proofs.Common.{◌≡◌, Some, rules, w32, to_z, of_z}
use Rattle.spec_world.specs.Questions.{the_header, header_at}
use Rattle.view.proofs.SlotsTold.{parent_told}
use Rattle.view.proofs.law.View.parent.Goals as goal

pub returns-in-Header-Some-clause-left : goal.returns-in-Header-Some-clause-left
returns-in-Header-Some-clause-left g c =
    let object : to_z w32 (of_z w32 c.args.object) ≡ c.args.object = search rules in
    let parent : to_z w32 (of_z w32 c.header.inside.parent) ≡ c.header.inside.parent = search rules in
    let same : c.in-Header-Some.header.parent ≡ c.header.inside.parent = search rules in
    rw parent (λ w left.
    let told = c.in_ok-header.ensures.left w left in
    let answer : the_header (header_at (g.Self.View.now c.args.self.now w) c.args.object) ≡ the_header (Some c.in-Header-Some.header) = rw (object, c.in-Header-Some.is, c.in-Header-Some.field-0-is) at told.1.1 in
    (told.0, (told.1.0, parent_told (g.Self.View.now c.args.self.now w) c.args.object c.in-Header-Some.header c.header.inside.parent answer same)))
