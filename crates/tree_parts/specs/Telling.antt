-- What the text of a world has of what waits, from the places and the operands of its verbs.
use Rattle.std.specs.Prelude.{◌≡◌, ℕ, List, [], ◌∷◌, ◌++◌, length, map, Option, Some, None, codes}
use Rattle.std.specs.Fmt.{decimal}
use Rattle.spec_value.specs.Datum.{Datum, Text}
use Rattle.spec_program.specs.Spelling.{canonical_lines}
use Rattle.spec_world.specs.World.{Entry, native_entry, Waiting, forked, timed, idle, reading_on}
use Rattle.spec_world.specs.WellFormed.{FramesStand}
use Rattle.spec_world.specs.Checkpoint.{fields, counted, list_literal, path, literal_lines, variable_lines, start_values, call_line, entry_lines, each_entry}
use Rattle.moo_code.specs.Machine.{Kept, Outer, verb, native, entries}
use Rattle.moo_code.specs.Rebuilding.{call_path, from_deepest}
use Rattle.moo_code.specs.Stands.{AllWait}

-- the path of a verb: that of its call, and none at the beginning, where what was forked stands
abbrev pub or_none : Option (List ℕ) → List ℕ
or_none None = []
or_none (Some path) = path

abbrev pub told_path : Waiting → Kept → List ℕ
told_path (forked due) k = []
told_path (timed due v) k = or_none (call_path k)
told_path idle k = or_none (call_path k)
told_path (reading_on c) k = or_none (call_path k)

-- the values that it holds, the outermost first
abbrev pub told_held : Waiting → Kept → List Datum
told_held (forked due) k = []
told_held (timed due v) k = from_deepest k.operands
told_held idle k = from_deepest k.operands
told_held (reading_on c) k = from_deepest k.operands

abbrev pub verb_lines : Waiting → Kept → List Text
verb_lines why k =
    call_line k.call (length (canonical_lines k.program))
    ∷ (canonical_lines k.program
    ++ (fields (codes "start" ∷ list_literal (start_values k.start) ∷ [])
    ∷ fields (codes "place" ∷ path (map decimal (told_path why k)) ∷ [])
    ∷ counted (codes "vars") (length k.variables)
    ∷ (variable_lines k.variables ++ (counted (codes "held") (length (told_held why k)) ∷ literal_lines (told_held why k)))))

abbrev pub outer_lines : Waiting → Outer → List Text
outer_lines why (verb k) = verb_lines why k
outer_lines why (native n) = entry_lines (native_entry n)

-- the outermost first
abbrev pub each_outer : Waiting → List Outer → List Text
each_outer why [] = []
each_outer why (k ∷ ks) = each_outer why ks ++ outer_lines why k

-- ---- they are those of the entries

pub record AreTold (why : Waiting) (es : List Entry) (ks : List Outer) : Type 0 where
  pub count : length es ≡ length ks
  pub lines : each_entry es ≡ each_outer why ks

-- of what was not forked
abbrev pub WaitsAtCalls : Waiting → Type 0
WaitsAtCalls (forked due) = ⊥
WaitsAtCalls (timed due v) = Unit {0}
WaitsAtCalls idle = Unit {0}
WaitsAtCalls (reading_on c) = Unit {0}

abbrev pub CallsTold : Type 0
CallsTold = (why : Waiting) (es : List Entry) (ks : List Outer) → WaitsAtCalls why → AllWait es ks → FramesStand es → AreTold why es ks

abbrev pub ForksTold : Type 0
ForksTold = (due : ℕ) (ks : List Outer) → AreTold (forked due) (entries ks) ks
