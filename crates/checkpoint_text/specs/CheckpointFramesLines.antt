-- The lines of parts of a verb that waits.
use Rattle.std.specs.Prelude.{ℕ, List, [], ◌∷◌, ◌++◌, map, length, Option, Some, None, codes}
use Rattle.std.specs.Fmt.{decimal}
use Rattle.spec_value.specs.Datum.{Datum, Text}
use Rattle.spec_value.specs.Table.{Named, with_name}
use Rattle.spec_world.specs.World.{Call, Start}
use Rattle.spec_world.specs.Checkpoint.{fields, counted, list_literal, start_values, call_line, path, literal_lines, variable_lines}
use Rattle.spec_program.specs.Tree.{Program}
use Rattle.spec_program.specs.Spelling.{canonical_lines}
use Rattle.checkpoint_text.specs.declared.checkpoint_frames.lent.Lent.{Lent}

-- its call and its program
abbrev pub program_lines : Call → Program → List Text
program_lines c p = call_line c (length (canonical_lines p)) ∷ canonical_lines p

abbrev pub start_line : Start → Text
start_line s = fields (codes "start" ∷ list_literal (start_values s) ∷ [])

-- numbers with a dot before each
abbrev pub dotted : List ℕ → Text
dotted [] = []
dotted (n ∷ ns) = 46 ∷ (decimal n ++ dotted ns)

abbrev pub place_line : List ℕ → Text
place_line ns = fields (codes "place" ∷ path (map decimal ns) ∷ [])

abbrev pub vars_lines : Named Datum → List Text
vars_lines es = counted (codes "vars") (length es) ∷ variable_lines es

abbrev pub held_lines : List Datum → List Text
held_lines vs = counted (codes "held") (length vs) ∷ literal_lines vs

-- a variable that is lent
abbrev pub lent_variable : Lent → Text × Datum
lent_variable e = (e.name.now, e.value.now)

abbrev pub lent_variables : List Lent → List (Text × Datum)
lent_variables es = map lent_variable es

-- a table with another value of a variable, if there is one
abbrev pub with_value : Named Datum → Text → Option Datum → Named Datum
with_value es x None = es
with_value es x (Some v) = with_name es x v
