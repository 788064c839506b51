use Rattle.std.proofs.Common.{map, Bor, arith, w32}
use Rattle.std.proofs.lemmas.Int.{to_z-of_z}
use Rattle.std.proofs.lemmas.List.{length-map}
use Rattle.spec_world.specs.World.{Slot}
use Rattle.checkpoint_text.specs.CheckpointObjectsLines.{line_of_slot}
use Rattle.checkpoint_text.proofs.Along.{slots_written}
use Rattle.checkpoint_text.proofs.checkpoint_objects.slot.put_slots.Goals as goal

pub returns : goal.returns
returns c =
    let slots = c.in_ok-found.found.items in
    let found = map (λ (s : Bor Slot). line_of_slot s.now) slots in
    let n = length-map slots (λ (s : Bor Slot). line_of_slot s.now) in
    slots_written c.args.draft.now c.args.number c.args.page.now c.put_count.new.self c.put_each_slot.new.page c.len.result found
    (omega (arith, n)) (rw (to_z-of_z w32 c.args.number c.ranges.number) at c.in_ok-found.ensures) c.in_ok-put_count.ensures
    (rw c.deref.ensures.value at c.in_ok-put_each_slot.ensures)
