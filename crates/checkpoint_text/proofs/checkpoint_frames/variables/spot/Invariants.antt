use Rattle.std.proofs.Common.{◌≡◌, ◌++◌, take, drop}
use Rattle.spec_value.specs.Datum.{Datum}
use Rattle.spec_value.specs.Table.{with_name}
use Rattle.checkpoint_text.specs.CheckpointFramesLines.{lent_variables}
use Rattle.checkpoint_text.proofs.checkpoint_frames.variables.spot.Given as goal

abbrev pub invariant-loop-index : goal.invariant-loop-index
invariant-loop-index l =
    (v : Datum) → with_name (lent_variables l.entries) l.name v
    ≡ take l.index (lent_variables l.entries) ++ with_name (drop l.index (lent_variables l.entries)) l.name v
