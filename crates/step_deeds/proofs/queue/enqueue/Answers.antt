use Rattle.std.proofs.Common.{◌∙◌, ap, w32}
use Rattle.std.proofs.lemmas.Int.{to_z-of_z}
use Rattle.spec_moo.specs.Scene as scene
use Rattle.step_deeds.proofs.Queueing.{put_into_queue}
use Rattle.step_deeds.proofs.queue.enqueue.Goals as goal

pub returns-clause-left : goal.returns-clause-left
returns-clause-left g c =
    let id = to_z-of_z w32 c.args.id c.ranges.id in
    put_into_queue g.V.View.holds g.V.View.now c.args.view.now c.write_task.new.view c.args.deeds.now c.push.new.self.items c.due-due.result c.args.id c.args.task
    (rw id at c.in_ok-push.ensures.items) (c.due-due.ensures ∙ ap scene.due_of c.waiting.ensures) (rw id at c.in_ok-write_task.ensures.left)
