-- Items of given kinds, one after the other.
use Rattle.std.proofs.Common.{◌≡◌, List, [], ◌∷◌, refl}
use Rattle.spec_value.specs.Datum.{Datum, integer, object, text, error, list, of_list}
use Rattle.spec_moo.specs.Natives.Rows.{fits, owner_and_bits, owner_bits_names, verb_specifier}
use Rattle.builtin_table.specs.Sorts.{object_and_text, object_and_texts, three_texts}

pub owner_and_bits_fit : (vs : List Datum) → fits owner_and_bits (list (of_list vs)) ≡ object_and_text vs
owner_and_bits_fit [] = refl
owner_and_bits_fit (integer a ∷ vs) = refl
owner_and_bits_fit (text a ∷ vs) = refl
owner_and_bits_fit (error a ∷ vs) = refl
owner_and_bits_fit (list a ∷ vs) = refl
owner_and_bits_fit (object a ∷ []) = refl
owner_and_bits_fit (object a ∷ integer b ∷ vs) = refl
owner_and_bits_fit (object a ∷ object b ∷ vs) = refl
owner_and_bits_fit (object a ∷ error b ∷ vs) = refl
owner_and_bits_fit (object a ∷ list b ∷ vs) = refl
owner_and_bits_fit (object a ∷ text b ∷ []) = refl
owner_and_bits_fit (object a ∷ text b ∷ z ∷ vs) = refl

pub owner_bits_names_fit : (vs : List Datum) → fits owner_bits_names (list (of_list vs)) ≡ object_and_texts vs
owner_bits_names_fit [] = refl
owner_bits_names_fit (integer a ∷ vs) = refl
owner_bits_names_fit (text a ∷ vs) = refl
owner_bits_names_fit (error a ∷ vs) = refl
owner_bits_names_fit (list a ∷ vs) = refl
owner_bits_names_fit (object a ∷ []) = refl
owner_bits_names_fit (object a ∷ integer b ∷ vs) = refl
owner_bits_names_fit (object a ∷ object b ∷ vs) = refl
owner_bits_names_fit (object a ∷ error b ∷ vs) = refl
owner_bits_names_fit (object a ∷ list b ∷ vs) = refl
owner_bits_names_fit (object a ∷ text b ∷ []) = refl
owner_bits_names_fit (object a ∷ text b ∷ integer c ∷ vs) = refl
owner_bits_names_fit (object a ∷ text b ∷ object c ∷ vs) = refl
owner_bits_names_fit (object a ∷ text b ∷ error c ∷ vs) = refl
owner_bits_names_fit (object a ∷ text b ∷ list c ∷ vs) = refl
owner_bits_names_fit (object a ∷ text b ∷ text c ∷ []) = refl
owner_bits_names_fit (object a ∷ text b ∷ text c ∷ z ∷ vs) = refl

pub specifier_fits : (vs : List Datum) → fits verb_specifier (list (of_list vs)) ≡ three_texts vs
specifier_fits [] = refl
specifier_fits (integer a ∷ vs) = refl
specifier_fits (object a ∷ vs) = refl
specifier_fits (error a ∷ vs) = refl
specifier_fits (list a ∷ vs) = refl
specifier_fits (text a ∷ []) = refl
specifier_fits (text a ∷ integer b ∷ vs) = refl
specifier_fits (text a ∷ object b ∷ vs) = refl
specifier_fits (text a ∷ error b ∷ vs) = refl
specifier_fits (text a ∷ list b ∷ vs) = refl
specifier_fits (text a ∷ text b ∷ []) = refl
specifier_fits (text a ∷ text b ∷ integer c ∷ vs) = refl
specifier_fits (text a ∷ text b ∷ object c ∷ vs) = refl
specifier_fits (text a ∷ text b ∷ error c ∷ vs) = refl
specifier_fits (text a ∷ text b ∷ list c ∷ vs) = refl
specifier_fits (text a ∷ text b ∷ text c ∷ []) = refl
specifier_fits (text a ∷ text b ∷ text c ∷ z ∷ vs) = refl
