-- Scattering assignment (Programmer's Manual, "Spreading List Elements Among Variables"): which target gets what.
use Rattle.std.specs.Prelude.{ℕ, zero, suc, ◌+◌, ◌-◌, min, Bool, true, false, ◌&&◌, ◌||◌, nat_le, if◌then◌else◌, List, [], ◌∷◌, Option, Some, None}
use Rattle.spec_value.specs.Datum.{Datum, list, Data, no_data, item, ErrorCode, type_mismatch, wrong_argument_count}
use Rattle.spec_value.specs.Places.{item_count, first_items, later_items}

pub data TargetKind : Type 0 where
  required_target optional_target rest_target : TargetKind

abbrev pub required_count : List TargetKind → ℕ
required_count [] = 0
required_count (required_target ∷ ks) = suc (required_count ks)
required_count (optional_target ∷ ks) = required_count ks
required_count (rest_target ∷ ks) = required_count ks

abbrev pub optional_count : List TargetKind → ℕ
optional_count [] = 0
optional_count (required_target ∷ ks) = optional_count ks
optional_count (optional_target ∷ ks) = suc (optional_count ks)
optional_count (rest_target ∷ ks) = optional_count ks

abbrev pub has_rest : List TargetKind → Bool
has_rest [] = false
has_rest (required_target ∷ ks) = has_rest ks
has_rest (optional_target ∷ ks) = has_rest ks
has_rest (rest_target ∷ ks) = true

abbrev pub first_of : Data → Option Datum
first_of no_data = None
first_of (item x xs) = Some x

-- with so many optional targets to fill, and so many items for the rest: what each target gets, and none for one that is left out
abbrev pub shares : List TargetKind → ℕ → ℕ → Data → List (Option Datum)
shares [] filled left xs = []
shares (required_target ∷ ks) filled left xs = first_of xs ∷ shares ks filled left (later_items 1 xs)
shares (optional_target ∷ ks) zero left xs = None ∷ shares ks zero left xs
shares (optional_target ∷ ks) (suc filled) left xs = first_of xs ∷ shares ks filled left (later_items 1 xs)
shares (rest_target ∷ ks) filled left xs = Some (list (first_items left xs)) ∷ shares ks filled left (later_items left xs)

pub data Scattering : Type 0 where
  gets : List (Option Datum) → Scattering
  refuses : ErrorCode → Scattering

-- whether so many items go to the targets
abbrev pub goes_to : List TargetKind → ℕ → Bool
goes_to ks n = nat_le (required_count ks) n && (has_rest ks || nat_le n (required_count ks + optional_count ks))

abbrev pub filled_count : List TargetKind → ℕ → ℕ
filled_count ks n = min (optional_count ks) (n - required_count ks)

abbrev pub scattered_items : List TargetKind → ℕ → Data → Scattering
scattered_items ks n xs =
    if goes_to ks n then gets (shares ks (filled_count ks n) (n - required_count ks - filled_count ks n) xs) else refuses wrong_argument_count

abbrev pub scattered : List TargetKind → Datum → Scattering
scattered ks (list xs) = scattered_items ks (item_count xs) xs
scattered ks _ = refuses type_mismatch
