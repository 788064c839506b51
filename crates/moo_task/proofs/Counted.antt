-- Operands by their height, and the lengths of lists.
use Rattle.std.proofs.Common.{◌≡◌, ◌∙◌, ap, refl, sym, ℕ, zero, suc, ◌-◌, min, take, arith, length-drop, List, [], ◌∷◌, ◌++◌, length, drop, reverse, append_assoc}
use Rattle.std.proofs.lemmas.List.{reverse-append, reverse-reverse, append-nil, take_all}
use Rattle.spec_value.specs.Datum.{Datum, of_list}
use Rattle.spec_value.specs.Places.{item_count}
use Rattle.moo_code.specs.Performing.{onto, from_height}

pub items_counted : (xs : List Datum) → item_count (of_list xs) ≡ length xs
items_counted [] = refl
items_counted (x ∷ xs) = ap suc (items_counted xs)

onto_is : (vs st : List Datum) → onto vs st ≡ reverse vs ++ st
onto_is [] st = refl
onto_is (v ∷ vs) st = onto_is vs (v ∷ st) ∙ sym (ap (λ us. us ++ st) (reverse-append (v ∷ []) vs) ∙ append_assoc (reverse vs) (v ∷ []) st)

none_dropped : (h : ℕ) → drop {A = Datum} h [] ≡ []
none_dropped zero = refl
none_dropped (suc h) = refl

dropped_least : (xs : List Datum) (h k : ℕ) → k ≡ min h (length xs) → drop k xs ≡ drop h xs
dropped_least [] h k e = none_dropped k ∙ sym (none_dropped h)
dropped_least (x ∷ xs) zero zero e = refl
dropped_least (x ∷ xs) zero (suc k) e = absurd (omega arith)
dropped_least (x ∷ xs) (suc h) zero e = absurd (omega arith)
dropped_least (x ∷ xs) (suc h) (suc k) e = dropped_least xs h k (omega arith)

pub stored_above : (xs : List Datum) (h k : ℕ) → k ≡ min h (length xs) → take (length xs - k) (drop k xs) ≡ from_height h (reverse xs)
stored_above xs h k e =
    take_all (length xs - k) (drop k xs) (omega (arith, length-drop k xs)) ∙ dropped_least xs h k e
    ∙ sym (ap (drop h) (onto_is (reverse xs) [] ∙ append-nil (reverse (reverse xs)) ∙ reverse-reverse xs))
