use Rattle.std.proofs.Common.{w32}
use Rattle.std.proofs.lemmas.Int.{to_z-of_z}
use Rattle.view.proofs.readers.write_link.Goals as goal

pub returns-clause-left : goal.returns-clause-left
returns-clause-left g c = rw (to_z-of_z w32 c.args.number c.ranges.number) at c.put.ensures.left
