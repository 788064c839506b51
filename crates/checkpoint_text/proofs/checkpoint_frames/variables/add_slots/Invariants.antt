use Rattle.std.proofs.Common.{◌≡◌, ◌≤◌, drop, length}
use Rattle.moo_code.specs.Slots.{variables_over}
use Rattle.moo_program.specs.Names.{known}
use Rattle.checkpoint_text.specs.CheckpointFramesLines.{lent_variables}
use Rattle.checkpoint_text.proofs.checkpoint_frames.variables.add_slots.Given as goal

abbrev pub invariant-loop-left : goal.invariant-loop-left
invariant-loop-left l =
    (l.left ≤ length (known l.own)) × (l.left ≤ length l.slots)
    × (lent_variables l.found.items ≡ variables_over (lent_variables l.fn.found.items) (drop l.left (known l.own)) (drop l.left l.slots))

abbrev pub decreases-loop-left : goal.decreases-loop-left
decreases-loop-left l = l.left
