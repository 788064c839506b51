-- Arguments of built-in functions that wait.
use Rattle.std.specs.Prelude.{Bool, true, false, ◌&&◌, List, [], ◌∷◌}
use Rattle.spec_value.specs.Datum.{Datum}
use Rattle.held_values.specs.Told.{is_object, is_text}

abbrev pub is_end : List Datum → Bool
is_end [] = true
is_end (v ∷ vs) = false

abbrev pub one_text : List Datum → Bool
one_text [] = false
one_text (v ∷ vs) = is_text v && is_end vs

abbrev pub one_object : List Datum → Bool
one_object [] = false
one_object (v ∷ vs) = is_object v && is_end vs

abbrev pub two_objects : List Datum → Bool
two_objects [] = false
two_objects (v ∷ vs) = is_object v && one_object vs

abbrev pub three_objects : List Datum → Bool
three_objects [] = false
three_objects (v ∷ vs) = is_object v && two_objects vs
