use Rattle.std.proofs.Common.{[], ◌∷◌, ◌++◌, w32}
use Rattle.std.proofs.lemmas.Int.{to_z-of_z}
use Rattle.rules.proofs.Changes.{part_told, nothing_told}
use Rattle.rules.proofs.relatives.contents.put_into.Goals as goal

pub returns-in_default-clause-left : goal.returns-in_default-clause-left
returns-in_default-clause-left g c =
    let place = to_z-of_z w32 c.args.place c.ranges.place in
    nothing_told (λ x. x.contents) g.V.View.holds g.V.View.now c.args.view.now c.read_contents.new.view c.args.place _ (rw (place, c.in_default.is) at c.in_ok-contents.ensures.left)

pub returns-clause-left : goal.returns-clause-left
returns-clause-left g c =
    let place = to_z-of_z w32 c.args.place c.ranges.place in
    let object = to_z-of_z w32 c.args.object c.ranges.object in
    part_told (λ x. x.contents) (λ xs y. record y { contents = xs }) g.V.View.holds g.V.View.now c.args.view.now c.read_contents.new.view c.write_part.new.view c.write_part.result c.args.place
    c.in-Some.contents c.in_ok-all.all (λ xs. xs ++ c.args.object ∷ []) (rw (object, c.as_slice.ensures) at c.in_ok-all.ensures)
    (rw (place, c.in-Some.is) at c.in_ok-contents.ensures.left) (rw place at c.write_part.ensures.left)
