use Rattle.std.proofs.Common.{◌≡◌, ◌≤◌, drop, length, map}
use Rattle.moo_code.specs.Slots.{others}
use Rattle.moo_program.specs.Names.{known}
use Rattle.moo_task.specs.Variables.{variable_of}
use Rattle.checkpoint_text.specs.CheckpointFramesLines.{lent_variables}
use Rattle.checkpoint_text.proofs.checkpoint_frames.variables.others.Given as goal

abbrev pub invariant-loop-left : goal.invariant-loop-left
invariant-loop-left l = (l.left ≤ length l.further) × (lent_variables l.found.items ≡ others (known l.own) (drop l.left (map variable_of l.further)))

abbrev pub decreases-loop-left : goal.decreases-loop-left
decreases-loop-left l = l.left
