use Rattle.std.proofs.Common.{◌≡◌, ap, ◌∙◌, Some, None, rules, w32, to_z, of_z}
use Rattle.std.proofs.lemmas.Int.{to_z-of_z}
use Rattle.spec_world.specs.World.{Header}
use Rattle.spec_world.specs.Questions.{header_at, children_at, contents_at}
use Rattle.rules.proofs.Tellings.{known_on}
use Rattle.builtins.proofs.Gone.{absent_told, known_children, gone_told}
use Rattle.builtins.proofs.builtins_objects.recycling.let_go.Goals as goal

pub returns-in_default-clause-left : goal.returns-in_default-clause-left
returns-in_default-clause-left g c =
    let object = to_z-of_z w32 c.args.object c.ranges.object in
    let none : c.in_ok-header.header ≡ None = first_of (search rules, cc) in
    absent_told (λ x. x.header) g.V.View.holds g.V.View.now c.args.view.now c.read_header.new.view c.args.object (rw (object, none) at c.in_ok-header.ensures.left)

pub raise_children-requires-clause-well_formed : goal.raise_children-requires-clause-well_formed
raise_children-requires-clause-well_formed g c =
    let object = to_z-of_z w32 c.args.object c.ranges.object in
    known_on g.V.View.holds g.V.View.now c.read_children.new.view c.read_contents.new.view (λ w. contents_at w c.args.object ≡ Some c.in-Some-contents.contents)
    (known_on g.V.View.holds g.V.View.now c.read_header.new.view c.read_children.new.view (λ w. children_at w c.args.object ≡ Some c.in-Some-children.children)
    (known_on g.V.View.holds g.V.View.now c.args.view.now c.read_header.new.view (λ w. header_at w c.args.object ≡ Some c.in-Some.header) c.requires.well_formed
    (rw (object, c.in-Some.is) at c.in_ok-header.ensures.left))
    (rw (object, c.in-Some-children.is) at c.in_ok-children.ensures.left))
    (rw (object, c.in-Some-contents.is) at c.in_ok-contents.ensures.left)

pub raise_children-requires-clause-known : goal.raise_children-requires-clause-known
raise_children-requires-clause-known g c =
    let object = to_z-of_z w32 c.args.object c.ranges.object in
    let whole : to_z w32 (of_z w32 c.header.inside.parent) ≡ c.header.inside.parent = search rules in
    let parent : to_z w32 (of_z w32 c.header.inside.parent) ≡ c.in-Some.header.parent = whole ∙ ap (λ (h : Header). h.parent) c.header.view_is in
    rw (object, parent, c.as_slice.ensures)
    (known_children g.V.View.holds g.V.View.now c.args.object c.in-Some.header c.in-Some-children.children c.args.view.now c.read_header.new.view c.read_children.new.view
    (rw (object, c.in-Some.is) at c.in_ok-header.ensures.left) (rw (object, c.in-Some-children.is) at c.in_ok-children.ensures.left) c.read_contents.new.view
    (λ w. contents_at w c.args.object ≡ Some c.in-Some-contents.contents) (rw (object, c.in-Some-contents.is) at c.in_ok-contents.ensures.left))

pub returns-clause-left : goal.returns-clause-left
returns-clause-left g c =
    let object = to_z-of_z w32 c.args.object c.ranges.object in
    let upper : to_z w32 (of_z w32 c.header.inside.parent) ≡ c.header.inside.parent = search rules in
    let parent : to_z w32 (of_z w32 c.header.inside.parent) ≡ c.in-Some.header.parent = upper ∙ ap (λ (h : Header). h.parent) c.header.view_is in
    let place : to_z w32 (of_z w32 c.header.inside.location) ≡ c.header.inside.location = search rules in
    let location : to_z w32 (of_z w32 c.header.inside.location) ≡ c.in-Some.header.location = place ∙ ap (λ (h : Header). h.location) c.header.view_is in
    gone_told g.V.View.holds g.V.View.now c.args.object c.in-Some.header c.in-Some-children.children c.args.view.now c.read_header.new.view c.read_children.new.view
    c.read_contents.new.view c.raise_children.new.view c.put_out.new.view c.forget.new.view c.forget.result c.in-Some-contents.contents
    (rw (object, c.in-Some.is) at c.in_ok-header.ensures.left)
    (rw (object, c.in-Some-children.is) at c.in_ok-children.ensures.left)
    (rw (object, c.in-Some-contents.is) at c.in_ok-contents.ensures.left)
    (rw (parent, c.as_slice.ensures) at c.in_ok-raise_children.ensures.left)
    (rw c.as_slice-2.ensures at c.in_ok-put_out.ensures.left)
    (rw (object, parent, location) at c.forget.ensures.left)
