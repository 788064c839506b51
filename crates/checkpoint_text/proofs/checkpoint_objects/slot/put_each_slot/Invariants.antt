use Rattle.std.proofs.Common.{◌≡◌, ◌++◌, drop, map, Bor}
use Rattle.spec_world.specs.World.{Slot}
use Rattle.spec_world.specs.Checkpoint.{with_line_ends}
use Rattle.checkpoint_text.specs.CheckpointObjectsLines.{line_of_slot}
use Rattle.checkpoint_text.proofs.checkpoint_objects.slot.put_each_slot.Given as goal

abbrev pub invariant-loop-slot : goal.invariant-loop-slot
invariant-loop-slot l =
    l.page ++ with_line_ends (map (λ (s : Bor Slot). line_of_slot s.now) (drop l.slot-index l.slots))
    ≡ l.fn.page ++ with_line_ends (map (λ (s : Bor Slot). line_of_slot s.now) l.slots)
