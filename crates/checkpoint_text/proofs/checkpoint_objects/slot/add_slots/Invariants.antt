use Rattle.std.proofs.Common.{◌≡◌, ◌++◌, drop, map, Bor}
use Rattle.spec_world.specs.World.{Slot}
use Rattle.checkpoint_text.specs.CheckpointObjectsLines.{line_of_slot, slots_of}
use Rattle.checkpoint_text.proofs.checkpoint_objects.slot.add_slots.Given as goal

abbrev pub invariant-loop-name : goal.invariant-loop-name
invariant-loop-name l =
    map (λ (s : Bor Slot). line_of_slot s.now) l.found.items ++ slots_of l.object (drop l.name-index l.names)
    ≡ map (λ (s : Bor Slot). line_of_slot s.now) l.fn.found.items ++ slots_of l.object l.names
