use Rattle.std.proofs.Common.{w32, to_z, of_z}
use Rattle.std.proofs.lemmas.Int.{to_z-of_z}
use Rattle.view.specs.Meanings.{part_of}
use Rattle.builtins_view.proofs.BuiltinsWorldChanges.{put_told}
use Rattle.builtins_view.proofs.builtins_world.properties.put_slot.Goals as goal

pub returns-clause-left : goal.returns-clause-left
returns-clause-left g c =
    let object = to_z-of_z w32 c.args.object c.ranges.object in
    put_told g.V.View.holds g.V.View.now c.args.view.now c.write_part.new.view c.write_part.result c.args.object c.args.name.now c.args.slot (part_of c.in_ok-part.part) c.in_ok-part.ensures
    (rw object at c.write_part.ensures.left)
