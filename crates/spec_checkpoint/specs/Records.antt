-- Lists of records are read in one way from their lines: links, variables of verbs, and values held.
use Rattle.std.specs.Prelude.{◌≡◌, ℤ, Bool, ◌&&◌, List, IsTrue}
use Rattle.std.specs.List.{list_all}
use Rattle.spec_value.specs.Datum.{Datum, in_number_range, is_value}
use Rattle.spec_value.specs.Table.{Numbered, Named}
use Rattle.spec_world.specs.World.{Link}
use Rattle.spec_world.specs.Checkpoint.{programming_held, link_lines, variable_lines, literal_lines}

-- its numbers and texts are those of values
abbrev pub link_holds : ℤ × Link → Bool
link_holds e = in_number_range e.0 && (in_number_range (e.1).person && is_value (programming_held (e.1).programming))

abbrev pub LinksReadOnce : Type 0
LinksReadOnce = (es fs : Numbered Link) → IsTrue (list_all link_holds es) → IsTrue (list_all link_holds fs) → link_lines es ≡ link_lines fs → es ≡ fs

abbrev pub VariablesReadOnce : Type 0
VariablesReadOnce =
    (es fs : Named Datum) → IsTrue (list_all (λ e. is_value e.1) es) → IsTrue (list_all (λ e. is_value e.1) fs) → variable_lines es ≡ variable_lines fs → es ≡ fs

abbrev pub HeldReadOnce : Type 0
HeldReadOnce = (vs us : List Datum) → IsTrue (list_all is_value vs) → IsTrue (list_all is_value us) → literal_lines vs ≡ literal_lines us → vs ≡ us
