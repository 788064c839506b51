use Rattle.moo_task.specs.Frames.{kept_of}
use Rattle.tree_parts.proofs.Found.{some_place}
use Rattle.tree_parts.proofs.frame_tasks.standing.stands_at.Goals as goal

pub returns-in-None-clause-finds : goal.returns-in-None-clause-finds
returns-in-None-clause-finds c h along =
    let some = some_place (kept_of c.args.frame.now) h c.args.path.now c.in_ok-found.found c.in_ok-found.ensures along in absurd (cc (some, c.in-None.is))
