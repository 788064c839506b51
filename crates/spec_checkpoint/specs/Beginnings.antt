-- No text of a world is a proper beginning of another's.
use Rattle.std.specs.Prelude.{◌≡◌, [], ◌++◌, IsTrue}
use Rattle.spec_value.specs.Datum.{Text}
use Rattle.spec_world.specs.World.{World}
use Rattle.spec_world.specs.Checkpoint.{world_lines, checkpoint_text}
use Rattle.spec_checkpoint.specs.Lines.{are_lines}
use Rattle.spec_checkpoint.specs.Holding.{world_holds}

-- of worlds whose names and programs have no line end in them
abbrev pub NoneBegins : Type 0
NoneBegins =
    (v w : World) (rest : Text) → IsTrue (are_lines (world_lines v)) → IsTrue (are_lines (world_lines w)) → checkpoint_text v ++ rest ≡ checkpoint_text w → rest ≡ []

-- of worlds of values, well formed or not
abbrev pub NoneBeginsOfValues : Type 0
NoneBeginsOfValues = (v w : World) (rest : Text) → IsTrue (world_holds v) → IsTrue (world_holds w) → checkpoint_text v ++ rest ≡ checkpoint_text w → rest ≡ []
