use Rattle.std.proofs.Common.{◌≡◌, ◌++◌, map, Bor}
use Rattle.spec_world.specs.World.{Slot}
use Rattle.spec_world.specs.Inherit.{ancestors, line}
use Rattle.spec_world.specs.Checkpoint.{slots_along}
use Rattle.checkpoint_text.specs.CheckpointObjectsLines.{line_of_slot}
use Rattle.checkpoint_text.proofs.checkpoint_objects.slot.slots_along.Given as goal

abbrev pub invariant-loop-left : goal.invariant-loop-left
invariant-loop-left l =
    map (λ (s : Bor Slot). line_of_slot s.now) l.found.items ++ slots_along l.draft l.number (line l.left l.draft l.above)
    ≡ slots_along l.draft l.number (ancestors l.draft l.number)

abbrev pub decreases-loop-left : goal.decreases-loop-left
decreases-loop-left l = l.left
