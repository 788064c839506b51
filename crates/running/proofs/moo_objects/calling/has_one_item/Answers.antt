use Rattle.std.proofs.Common.{length}
use Rattle.std.proofs.lemmas.Bool.{eqb-true}
use Rattle.running.proofs.Entering.{one_long}
use Rattle.running.proofs.moo_objects.calling.has_one_item.Goals as goal

pub returns-in-List : goal.returns-in-List
returns-in-List c t = one_long c.args.value.now c.in-List.items.now c.in-List.ensures (eqb-true (length c.in-List.items.now) 1 t)
