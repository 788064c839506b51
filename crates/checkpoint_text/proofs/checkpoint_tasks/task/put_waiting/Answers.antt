use Rattle.std.proofs.Common.{w32}
use Rattle.std.proofs.lemmas.Int.{to_z-of_z}
use Rattle.moo_task.specs.Effects.{waiting_of}
use Rattle.checkpoint_text.proofs.CheckpointTasksWholes.{waiting_written}
use Rattle.checkpoint_text.proofs.checkpoint_tasks.task.put_waiting.Goals as goal

pub returns : goal.returns
returns c =
    waiting_written c.args.id (waiting_of c.args.waiting.now) c.args.page.now c.put.new.self c.put_signed.new.self c.put_reason.new.page c.end_line.new.self
    c.in_ok-put.ensures (rw (to_z-of_z w32 c.args.id c.ranges.id) at c.in_ok-put_signed.ensures) c.in_ok-put_reason.ensures c.in_ok-end_line.ensures
