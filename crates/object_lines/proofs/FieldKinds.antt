-- Which values tell what a link is programming, and texts that are not the same.
use Rattle.std.proofs.Common.{◌≡◌, Bool, true, false, List, [], ◌∷◌, length, Some, refl, ap, sym, ◌∙◌}
use Rattle.spec_value.specs.Datum.{Text, same_text, Datum, integer, object, text, error, list, of_list}
use Rattle.spec_value.proofs.Same.{same_texts}
use Rattle.spec_faults.specs.Plain.{passes}
use Rattle.spec_faults.specs.Literals.{value_of, is_literal, any, is_programming}
use Rattle.checkpoint_lines.proofs.Checking.{none_passes}

-- ---- literals

-- what is no literal at all is none that passes a test
pub no_literal : (test : Datum → Bool) (t : Text) → is_literal any t ≡ false → is_literal test t ≡ false
no_literal test t h = none_passes test (value_of t) h

pub literal_passes : (test : Datum → Bool) (t : Text) (v : Datum) (b : Bool) → value_of t ≡ Some v → b ≡ test v → is_literal test t ≡ b
literal_passes test t v b e h = ap (passes test) e ∙ sym h

-- ---- what a link is programming

more_items : (v w x y : Datum) (vs : List Datum) → false ≡ is_programming (list (of_list (v ∷ w ∷ x ∷ y ∷ vs)))
more_items (integer n) w x y vs = refl
more_items (object z) (integer n) x y vs = refl
more_items (object z) (object n) x y vs = refl
more_items (object z) (text t) x y vs = refl
more_items (object z) (error e) x y vs = refl
more_items (object z) (list xs) x y vs = refl
more_items (text t) w x y vs = refl
more_items (error e) w x y vs = refl
more_items (list xs) w x y vs = refl

two_items : (v w : Datum) → false ≡ is_programming (list (of_list (v ∷ w ∷ [])))
two_items (integer n) w = refl
two_items (object z) (integer n) = refl
two_items (object z) (object n) = refl
two_items (object z) (text t) = refl
two_items (object z) (error e) = refl
two_items (object z) (list xs) = refl
two_items (text t) w = refl
two_items (error e) w = refl
two_items (list xs) w = refl

one_item : (v : Datum) → false ≡ is_programming (list (of_list (v ∷ [])))
one_item (integer n) = refl
one_item (object z) = refl
one_item (text t) = refl
one_item (error e) = refl
one_item (list xs) = refl

pub other_items : (vs : List Datum) → (length vs ≡ 3 → ⊥) → false ≡ is_programming (list (of_list vs))
other_items [] h = refl
other_items (v ∷ []) h = one_item v
other_items (v ∷ w ∷ []) h = two_items v w
other_items (v ∷ w ∷ x ∷ []) h = absurd (h refl)
other_items (v ∷ w ∷ x ∷ y ∷ vs) h = more_items v w x y vs

-- ---- texts

pub not_same : (t u : Text) → (t ≡ u → ⊥) → same_text t u ≡ false
not_same t u h = go (same_text t u) refl
  where
    go : (b : Bool) → same_text t u ≡ b → same_text t u ≡ false
    go true e = absurd (h (same_texts t u e))
    go false e = e
