use Rattle.std.proofs.Common.{[], ◌∷◌, ◌++◌, w32}
use Rattle.std.proofs.lemmas.Int.{to_z-of_z}
use Rattle.rules.proofs.Changes.{part_told, nothing_told}
use Rattle.rules.proofs.relatives.children.add_child.Goals as goal

pub returns-in_default-clause-left : goal.returns-in_default-clause-left
returns-in_default-clause-left g c =
    let parent = to_z-of_z w32 c.args.parent c.ranges.parent in
    nothing_told (λ x. x.children) g.V.View.holds g.V.View.now c.args.view.now c.read_children.new.view c.args.parent _ (rw (parent, c.in_default.is) at c.in_ok-children.ensures.left)

pub returns-clause-left : goal.returns-clause-left
returns-clause-left g c =
    let parent = to_z-of_z w32 c.args.parent c.ranges.parent in
    let object = to_z-of_z w32 c.args.object c.ranges.object in
    part_told (λ x. x.children) (λ xs y. record y { children = xs }) g.V.View.holds g.V.View.now c.args.view.now c.read_children.new.view c.write_part.new.view c.write_part.result c.args.parent
    c.in-Some.children c.in_ok-all.all (λ xs. xs ++ c.args.object ∷ []) (rw (object, c.as_slice.ensures) at c.in_ok-all.ensures)
    (rw (parent, c.in-Some.is) at c.in_ok-children.ensures.left) (rw parent at c.write_part.ensures.left)
