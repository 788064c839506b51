use Rattle.std.proofs.Common.{w32}
use Rattle.std.proofs.lemmas.Int.{to_z-of_z}
use Rattle.rules.proofs.Tellings.{known_on}
use Rattle.rules.specs.Below.{IsFamily}
use Rattle.builtins.proofs.Gone.{raise_told}
use Rattle.builtins.proofs.builtins_objects.recycling.raise_child.Goals as goal

pub returns-clause-left : goal.returns-clause-left
returns-clause-left g c =
    let object = to_z-of_z w32 c.args.object c.ranges.object in
    let child = to_z-of_z w32 c.args.child c.ranges.child in
    let parent = to_z-of_z w32 c.args.parent c.ranges.parent in
    raise_told g.V.View.holds g.V.View.now c.args.view.now c.below.new.view c.reparent.new.view c.reparent.result c.args.object c.args.child c.args.parent c.in_ok-family.family.items
    (rw child at c.in_ok-family.ensures.left) (rw (object, child, parent, c.as_slice.ensures.value) at c.reparent.ensures.left)

pub reparent-requires-clause-well_formed : goal.reparent-requires-clause-well_formed
reparent-requires-clause-well_formed g c =
    let child = to_z-of_z w32 c.args.child c.ranges.child in
    known_on g.V.View.holds g.V.View.now c.args.view.now c.below.new.view (λ w. IsFamily w c.args.child c.in_ok-family.family.items) c.requires.well_formed
    (rw child at c.in_ok-family.ensures.left)
