use Rattle.std.proofs.Common.{w32}
use Rattle.std.proofs.lemmas.Int.{to_z-of_z}
use Rattle.builtins.proofs.Gone.{forgot_told}
use Rattle.builtins.proofs.builtins_objects.recycling.forget.Goals as goal

pub returns-clause-left : goal.returns-clause-left
returns-clause-left g c =
    let object = to_z-of_z w32 c.args.object c.ranges.object in
    let parent = to_z-of_z w32 c.args.parent c.ranges.parent in
    let place = to_z-of_z w32 c.args.place c.ranges.place in
    forgot_told g.V.View.holds g.V.View.now c.args.view.now c.lose_child.new.view c.out_of_place.new.view c.write_object.new.view c.write_object.result c.args.object c.args.parent c.args.place
    (rw (object, parent) at c.in_ok-lose_child.ensures.left) (rw (object, place) at c.in_ok-out_of_place.ensures.left) (rw object at c.write_object.ensures.left)
