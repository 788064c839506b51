use Rattle.moo_task.specs.Frames.{kept_of}
use Rattle.tree_parts.proofs.Found.{none_along, some_along, ok_map}
use Rattle.tree_parts.proofs.frame_tasks.standing.stands_at_call.Goals as goal

pub returns-in-Some-clause-finds : goal.returns-in-Some-clause-finds
returns-in-Some-clause-finds c =
    ok_map c.stands_at.result _ _ c.stands_at.ensures.finds
    (λ so finds h.
    finds h (some_along _ (kept_of c.args.frame.now) h c.in_ok-found.found c.in-Some.path c.as_slice.result.now c.in_ok-found.ensures c.in-Some.is c.as_slice.ensures.value))

pub returns-in-None-clause-finds : goal.returns-in-None-clause-finds
returns-in-None-clause-finds c h = absurd (none_along _ (kept_of c.args.frame.now) h c.in_ok-found.found c.in_ok-found.ensures c.in-None.is)
