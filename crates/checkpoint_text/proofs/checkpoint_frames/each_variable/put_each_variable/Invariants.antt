use Rattle.std.proofs.Common.{◌≡◌, ◌++◌, drop}
use Rattle.spec_world.specs.Checkpoint.{variable_lines, with_line_ends}
use Rattle.checkpoint_text.specs.CheckpointFramesLines.{lent_variables}
use Rattle.checkpoint_text.proofs.checkpoint_frames.each_variable.put_each_variable.Given as goal

abbrev pub invariant-loop-variable : goal.invariant-loop-variable
invariant-loop-variable l =
    l.page ++ with_line_ends (variable_lines (lent_variables (drop l.variable-index l.variables)))
    ≡ l.fn.page ++ with_line_ends (variable_lines (lent_variables l.variables))
