use Rattle.std.proofs.Common.{Err, ap}
use Rattle.checkpoint.proofs.Faults.{tells_none}
use Rattle.checkpoint.proofs.decode.decode.Goals as goal

pub returns-in-None-clause-fault : goal.returns-in-None-clause-fault
returns-in-None-clause-fault c =
    tells_none c.new-lines.result c.args.bytes.now c.next_world.new.lines.count c.in_ok-found.found c.in_ok-world.world (Err c.world_fault.result) c.new-lines.ensures.left
    c.new-lines.ensures.room c.in_ok-found.ensures.faultless c.in_ok-found.ensures.count c.in_ok-found.ensures.finds c.in_ok-world.ensures.finds c.in-None.is
    (ap Err c.world_fault.ensures)
