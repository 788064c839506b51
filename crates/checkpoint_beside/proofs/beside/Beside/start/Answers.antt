use denote.Param.Send.{sendable}
use Rattle.std.proofs.Crossing.{crosses}
use Rattle.world.proofs.Crossing.{snapshot_send}
use Rattle.checkpoint_beside.proofs.beside.Beside.start.Goals as goal

pub spawn_with-requires-send-F : goal.spawn_with-requires-send-F
spawn_with-requires-send-F g c κs within = search (sendable, crosses, snapshot_send) depth 60
