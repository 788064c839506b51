-- A text of a world is no other world's.
use Rattle.std.specs.Prelude.{◌≡◌, IsTrue}
use Rattle.spec_world.specs.World.{World}
use Rattle.spec_world.specs.WellFormed.{IsWellFormed}
use Rattle.spec_world.specs.Checkpoint.{world_lines, checkpoint_text}
use Rattle.spec_checkpoint.specs.Lines.{are_lines}
use Rattle.spec_checkpoint.specs.Holding.{world_holds}

-- no line of a world of values has a line end in it
abbrev pub ValuesHaveLines : Type 0
ValuesHaveLines = (w : World) → IsTrue (world_holds w) → IsTrue (are_lines (world_lines w))

-- of well-formed worlds of values
abbrev pub TextOfOneWorld : Type 0
TextOfOneWorld = (v w : World) → IsWellFormed v → IsWellFormed w → IsTrue (world_holds v) → IsTrue (world_holds w) → checkpoint_text v ≡ checkpoint_text w → v ≡ w
