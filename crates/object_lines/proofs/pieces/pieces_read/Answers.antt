use denote.Param.Send.{sendable}
use Rattle.std.proofs.Crossing.{crosses}
use Rattle.object_lines.proofs.Crossing.{ahead_send}
use Rattle.object_lines.proofs.pieces.pieces_read.Goals as goal

pub map-requires-send-U : goal.map-requires-send-U
map-requires-send-U g c κs within = search (sendable, crosses, ahead_send) depth 60

pub collect-requires-send-Self-Item : goal.collect-requires-send-Self-Item
collect-requires-send-Self-Item g c κs within = search (sendable, crosses, ahead_send) depth 60

pub collect-requires-send-C : goal.collect-requires-send-C
collect-requires-send-C g c κs within = search (sendable, crosses, ahead_send) depth 60
