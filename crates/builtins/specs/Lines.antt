-- A line for a connection, or for none.
use Rattle.std.specs.Prelude.{ℤ, pos, [], ◌∷◌, Option}
use Rattle.spec_value.specs.Datum.{Text, integer, limit_exceeded}
use Rattle.spec_moo.specs.Scene.{Scene}
use Rattle.spec_moo.specs.Linking.{has_lines, line_told}
use Rattle.spec_moo.specs.NativeEffect.{NativeEffect}
use Rattle.spec_moo.specs.Natives.Rows.{unless, wants, answers_with}

abbrev pub line_sent : Scene → Text → Option ℤ → NativeEffect
line_sent s t m = unless s (wants (has_lines s m) limit_exceeded ∷ []) (answers_with (line_told s t m) (integer (pos 1)))
