use Rattle.std.proofs.Common.{◌≡◌, take}
use Rattle.moo_task.specs.Frames.{outers_of}
use Rattle.world_checks.specs.Waiting.{begins_with_verb, goes_on_after_verb}
use Rattle.world_checks.proofs.task_checks.order.begins_with_verb.Given as goal

abbrev pub invariant-loop-outer : goal.invariant-loop-outer
invariant-loop-outer l =
    (l.begins ≡ begins_with_verb (outers_of (take l.outer-index l.outers))) × (l.goes_on ≡ goes_on_after_verb (outers_of (take l.outer-index l.outers)))
