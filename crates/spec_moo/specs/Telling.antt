-- What a task's end tells its player (Programmer's Manual, "Tasks").
use Rattle.std.specs.Prelude.{List, [], ◌∷◌, ◌++◌, codes}
use Rattle.std.specs.Fmt.{signed_decimal}
use Rattle.spec_value.specs.Datum.{Text}
use Rattle.spec_moo.specs.Leaving.{Traced}
use Rattle.spec_moo.specs.Pending.{Stop, raised, out_of_ticks}

abbrev pub verb_spelled : Traced → Text
verb_spelled t = codes "#" ++ signed_decimal t.definer ++ codes ":" ++ t.verb

abbrev pub called_from : List Traced → List Text
called_from [] = codes "(End of traceback)" ∷ []
called_from (t ∷ ts) = (codes "called from " ++ verb_spelled t) ∷ called_from ts

-- the innermost verb and why it stopped, and each verb that called it
abbrev pub told : Text → List Traced → List Text
told why [] = called_from []
told why (t ∷ ts) = (verb_spelled t ++ codes ": " ++ why) ∷ called_from ts

abbrev pub stop_lines : Stop → List Text
stop_lines (raised f) = told f.message f.traceback
stop_lines (out_of_ticks ts) = told (codes "Task ran out of ticks") ts
stop_lines _ = []
