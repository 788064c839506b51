use Rattle.moo_task.specs.Frames.{kept_of}
use Rattle.tree_parts.proofs.Found.{found_call, found_place}
use Rattle.tree_parts.proofs.FrameTasksPlaced.{stands_there}
use Rattle.tree_parts.proofs.frame_tasks.standing.stands_at_place.Goals as goal

pub returns-clause-tells : goal.returns-clause-tells
returns-clause-tells c =
    stands_there (kept_of c.args.frame.now) c.args.path.now c.tree.result.now c.len-count.result c.args.place c.in_ok-so.so c.requires c.if-place-frame.false c.tree.ensures
    c.len-count.ensures c.in_ok-so.ensures

pub returns-then-place-frame-clause-finds : goal.returns-then-place-frame-clause-finds
returns-then-place-frame-clause-finds c h along = absurd (c.if-place-frame.true (found_place (kept_of c.args.frame.now) h c.args.path.now c.args.place c.requires along))

pub returns-clause-finds : goal.returns-clause-finds
returns-clause-finds c h along =
    found_call (kept_of c.args.frame.now) h c.args.path.now c.tree.result.now c.len-count.result c.in_ok-so.so along c.tree.ensures c.len-count.ensures c.in_ok-so.ensures
