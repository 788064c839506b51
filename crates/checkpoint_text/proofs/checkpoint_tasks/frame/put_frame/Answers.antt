use Rattle.moo_task.specs.Effects.{waiting_of}
use Rattle.moo_task.specs.Frames.{kept_of}
use Rattle.checkpoint_text.proofs.CheckpointTasksWholes.{frame_written}
use Rattle.checkpoint_text.proofs.checkpoint_tasks.frame.put_frame.Goals as goal

pub returns : goal.returns
returns c =
    frame_written (waiting_of c.args.waiting.now) (kept_of c.args.frame.now) c.in_ok-path.path.items c.frame_held.result.now
    c.args.page.now c.put_program.new.page c.put_start.new.page c.put_place.new.page c.put_variables.new.page c.put_held.new.page
    c.in_ok-path.ensures c.frame_held.ensures c.in_ok-put_program.ensures
    c.in_ok-put_start.ensures (rw c.deref.ensures.value at c.in_ok-put_place.ensures) c.in_ok-put_variables.ensures c.in_ok-put_held.ensures
