use denote.Exit.{no}
use denote.Param.Send.{param_send, arg_send}
use Rattle.speculate.proofs.Crossing.{lane_thread_send}
use Rattle.speculate.proofs.bench.fn.side_by_side.scope.Goals as goal

pub spawn_scoped-requires-send-F : goal.spawn_scoped-requires-send-F
spawn_scoped-requires-send-F g c κs f =
    param_send 1 _ (arg_send _ no _ (lane_thread_send g.row.J g.row.R g.J.Run _ _ _ _ _ _ c.requires.0 c.requires.1))
