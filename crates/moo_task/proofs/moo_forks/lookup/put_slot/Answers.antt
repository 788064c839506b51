use Rattle.std.specs.Prelude.{Some}
use Rattle.std.proofs.lemmas.Map.Text.{btree_map_updates_str}
use Rattle.moo_task.proofs.moo_forks.lookup.put_slot.Goals as goal

pub returns-in-Ok : goal.returns-in-Ok
returns-in-Ok c x = btree_map_updates_str c.args.name.now c.args.slots.now c.insert.new.self (Some c.args.slot) c.in-Ok.ensures.updates x
