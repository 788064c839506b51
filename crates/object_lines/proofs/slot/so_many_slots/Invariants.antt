use Rattle.std.proofs.Common.{◌≡◌, ◌++◌, List, length, drop, IsTrue}
use Rattle.std.specs.List.{list_all}
use Rattle.spec_value.specs.Datum.{Text}
use Rattle.spec_world.specs.World.{Slot}
use Rattle.checkpoint_lines.specs.Rows.{Left}
use Rattle.object_lines.specs.Readable.{is_slot_read}
use Rattle.object_lines.specs.Parts.{each_slot}
use Rattle.object_lines.proofs.slot.so_many_slots.Given as goal
use Rattle.spec_faults.specs.Awaited as awaited
use Rattle.checkpoint_lines.proofs.Going.{Counts}

abbrev pub invariant-reading : goal.invariant-reading
invariant-reading l =
    ((xs : List Slot) (rest : List Text) → IsTrue (list_all is_slot_read xs) → l.fn.count ≡ length xs → Left l.fn.lines (each_slot xs ++ rest)
    → Left l.lines (each_slot (drop l._slot xs) ++ rest) × (l.slots.items ++ drop l._slot xs ≡ xs))
    × Counts l.fn.lines l.lines l.fn.count l._slot awaited.each_slot
