-- The lines of parts of a task.
use Rattle.std.specs.Prelude.{ℤ, [], ◌∷◌, codes}
use Rattle.std.specs.Fmt.{signed_decimal}
use Rattle.spec_value.specs.Datum.{Text}
use Rattle.spec_world.specs.World.{Waiting}
use Rattle.spec_world.specs.Checkpoint.{fields, object_text, waiting_fields}

abbrev pub waiting_line : ℤ → Waiting → Text
waiting_line i why = fields (codes "task" ∷ signed_decimal i ∷ waiting_fields why)

-- why it waits, behind a space
abbrev pub reason_text : Waiting → Text
reason_text why = 32 ∷ fields (waiting_fields why)

abbrev pub player_line : ℤ → Text
player_line o = fields (codes "player" ∷ object_text o ∷ [])
