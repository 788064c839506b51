-- Fields that are no literals: a text is one if it is spelled as what it says.
use Rattle.std.specs.Prelude.{ℕ, zero, suc, ◌==◌, ◌&&◌, ◌||◌, nat_le, ℤ, pos, neg_ℤ, int_le, Bool, true, false, List, [], ◌∷◌, ◌++◌, map, if◌then◌else◌, Option, Some, None, codes}
use Rattle.std.specs.Fmt.{decimal, signed_decimal}
use Rattle.std.specs.List.{list_all, list_any}
use Rattle.std.specs.Str.Parse.{digits_value}
use Rattle.spec_value.specs.Datum.{Text, same_text, in_number_range}
use Rattle.spec_world.specs.Checkpoint.{or_dash}
use Rattle.spec_faults.specs.Cutting.{onto_first}

-- ---- what a field says

abbrev pub only_if : {A : Type 0} → Bool → A → Option A
only_if true x = Some x
only_if false x = None

abbrev pub passes : {A : Type 0} → (A → Bool) → Option A → Bool
passes test None = false
passes test (Some x) = test x

-- ---- numbers

-- the number that the text spells
abbrev pub number_of : Text → Option ℕ
number_of t = only_if (same_text (decimal (digits_value 10 t)) t) (digits_value 10 t)

-- a minus sign may stand before the digits
abbrev pub signed_value : Text → ℤ
signed_value [] = pos 0
signed_value (c ∷ t) = if c == 45 then neg_ℤ (pos (digits_value 10 t)) else pos (digits_value 10 (c ∷ t))

-- the integer of 32 bits that the text spells
abbrev pub integer_of : Text → Option ℤ
integer_of t = only_if (same_text (signed_decimal (signed_value t)) t && in_number_range (signed_value t)) (signed_value t)

abbrev pub is_number : ℕ → ℕ → Text → Bool
is_number least most t = passes (λ n. nat_le least n && nat_le n most) (number_of t)

abbrev pub is_integer : ℤ → ℤ → Text → Bool
is_integer least most t = passes (λ z. int_le least z && int_le z most) (integer_of t)

abbrev pub is_object : Text → Bool
is_object [] = false
is_object (c ∷ t) = c == 35 && passes (λ z. true) (integer_of t)

abbrev pub or_zero : Option ℕ → ℕ
or_zero None = 0
or_zero (Some n) = n

-- the number that a field says, 0 where it says none
abbrev pub number_in : Text → ℕ
number_in t = or_zero (number_of t)

-- ---- letters

abbrev pub is_one_of : List Text → Text → Bool
is_one_of ts t = list_any (same_text t) ts

-- what is left of letters where some are left out
abbrev pub some_of : Text → List Text
some_of [] = [] ∷ []
some_of (c ∷ t) = map (λ u. c ∷ u) (some_of t) ++ some_of t

-- of bits those that are set, in their order, or a dash
abbrev pub are_bits : Text → Text → Bool
are_bits letters t = is_one_of (map or_dash (some_of letters)) t

abbrev pub is_flag : Text → Bool
is_flag t = is_one_of (codes "0" ∷ codes "1" ∷ []) t

-- so many flags
abbrev pub are_flags : ℕ → Text → Bool
are_flags zero [] = true
are_flags (suc n) (c ∷ t) = is_flag (c ∷ []) && are_flags n t
are_flags _ _ = false

-- ---- paths

abbrev pub with_dot : Bool → ℕ → List Text → List Text
with_dot true c ts = [] ∷ ts
with_dot false c ts = onto_first c ts

-- what stands between dots
abbrev pub between_dots : Text → List Text
between_dots [] = [] ∷ []
between_dots (c ∷ t) = with_dot (c == 46) c (between_dots t)

-- the numbers of parts, counted from 1, and 0 for none
abbrev pub is_path : Text → Bool
is_path t = same_text t (codes "0") || list_all (is_number 1 9223372036854775807) (between_dots t)

abbrev pub beginning : List ℕ → List ℕ
beginning (zero ∷ []) = []
beginning ns = ns

abbrev pub path_in : Text → List ℕ
path_in t = beginning (map number_in (between_dots t))
