-- A verb's specifier, by the names of the definitions, and the members of the sets of prepositions as texts.
use Rattle.std.specs.Prelude.{ℕ, zero, suc, Bool, true, false, List, [], ◌∷◌, if◌then◌else◌, Option, Some, None, option_map}
use Rattle.spec_value.specs.Datum.{Text, fold_case, same_text}
use Rattle.spec_moo.specs.Natives.Verbs as meant
use Rattle.view.specs.Parts.{object_part_of, preposition_part_of}
use Rattle.builtins_view.specs.declared.builtins_change.specifier.Specifier.{Specifier}

abbrev pub specifier_of : Specifier → meant.Specifier
specifier_of a = record { direct = object_part_of a.direct; preposition = preposition_part_of a.preposition; indirect = object_part_of a.indirect }

abbrev pub has_member : Text → List Text → Bool
has_member t [] = false
has_member t (m ∷ ms) = if same_text (fold_case m) (fold_case t) then true else has_member t ms

-- the number of the first set with a member
abbrev pub first_with : Text → List (List Text) → Option ℕ
first_with t [] = None
first_with t (ms ∷ more) = if has_member t ms then Some zero else option_map suc (first_with t more)
