use Rattle.std.proofs.Common.{◌≡◌, sym, ap, ◌∙◌, subst, rules, w32, to_z, of_z}
use Rattle.std.proofs.lemmas.Int.{to_z-of_z}
use Rattle.spec_world.specs.World.{Header, object_at}
use Rattle.spec_world.specs.Families.{parent_of}
use Rattle.view.specs.Law.{Tells}
use Rattle.builtins.proofs.Parents.{parent_told}
use Rattle.builtins.proofs.builtins_objects.chparent.parent_of.Goals as goal

pub returns-in-Some-clause-left : goal.returns-in-Some-clause-left
returns-in-Some-clause-left g c =
    let object = to_z-of_z w32 c.args.object c.ranges.object in
    let whole : to_z w32 (of_z w32 c.header.inside.parent) ≡ c.header.inside.parent = search rules in
    let parent : to_z w32 (of_z w32 c.header.inside.parent) ≡ c.in-Some.header.parent = whole ∙ ap (λ (h : Header). h.parent) c.header.view_is in
    subst (λ p. Tells g.V.View.holds g.V.View.now c.args.view.now c.read_header.new.view (λ w. parent_of (object_at w c.args.object) ≡ p)) (sym parent)
    (parent_told g.V.View.holds g.V.View.now c.args.view.now c.read_header.new.view c.args.object c.in-Some.header (rw (object, c.in-Some.is) at c.in_ok-header.ensures.left))
