use Rattle.std.proofs.Common.{w32}
use Rattle.std.proofs.lemmas.Int.{to_z-of_z}
use Rattle.view.specs.Meanings.{part_of}
use Rattle.rules.proofs.OneByOne.{lost_told}
use Rattle.rules.proofs.family.losing.lose_slot.Goals as goal

pub returns-clause-left : goal.returns-clause-left
returns-clause-left g c =
    lost_told g.V.View.holds g.V.View.now c.args.view.now c.write_part.new.view c.write_part.result c.args.object c.args.name.now (part_of c.in_ok-part.part) c.in_ok-part.ensures
    (rw (to_z-of_z w32 c.args.object c.ranges.object) at c.write_part.ensures.left)
