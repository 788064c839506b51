-- The fields of a line that is cut at its first spaces.
use Rattle.std.proofs.Common.{◌≡◌, ◌⊎◌, inl, inr, ℕ, zero, suc, ◌<◌, ◌==◌, ◌&&◌, ◌||◌, Bool, true, false, not, List, [], ◌∷◌, length, drop, IsTrue, refl, ap, sym, subst, ◌∙◌, arith}
use Rattle.std.proofs.lemmas.Bool.{eqb-true}
use Rattle.std.specs.List.{list_all}
use Rattle.spec_value.specs.Datum.{Text, same_text}
use Rattle.spec_value.proofs.Entries.{first_holds, second_holds, both_hold}
use Rattle.spec_value.proofs.Same.{same_texts, text_itself}
use Rattle.spec_world.specs.Checkpoint.{fields, spaced_by}
use Rattle.spec_faults.specs.Cutting.{Spot, among, ends_field, onto_first, with_next, spot_behind, fields_from, fields_in, field_at, is_filled}
use Rattle.spec_faults.specs.Forms.{Wanted, word, is_other_word, one_is, has_form}
use Rattle.spec_faults.proofs.FieldsBack.{fields_spelled}
use Rattle.line_fields.specs.Cutting.{first_fields}
use Rattle.checkpoint_lines.specs.Told.{all_fields, is_cut}

-- ---- behind the first field of a line are the fields of a line

abbrev AreBehind : List Text → Type 0
AreBehind ts = (ts ≡ []) ⊎ ((u : Text) × (ts ≡ fields_in u))

behind_onto : (c : ℕ) (ts : List Text) → AreBehind (drop 1 ts) → AreBehind (drop 1 (onto_first c ts))
behind_onto c [] b = inl refl
behind_onto c (t ∷ ts) b = b

behind_next : (b : Bool) (s : Spot) (c : ℕ) (t : Text) → AreBehind (drop 1 (fields_from (spot_behind b s c) t)) → AreBehind (drop 1 (with_next b c (fields_from (spot_behind b s c) t)))
behind_next true s c t on = inr (t, refl)
behind_next false s c t on = behind_onto c (fields_from (spot_behind false s c) t) on

behind_first : (s : Spot) (t : Text) → AreBehind (drop 1 (fields_from s t))
behind_first s [] = inl refl
behind_first s (c ∷ t) = behind_next (ends_field s c) s c t (behind_first (spot_behind (ends_field s c) s c) t)

behind_some : (u v : Text) (ts : List Text) (t : Text) → u ∷ v ∷ ts ≡ fields_in t → (w : Text) × (v ∷ ts ≡ fields_in w)
behind_some u v ts t e = go (subst AreBehind (sym (ap (drop 1) e)) (behind_first (among 0) t))
  where
    go : AreBehind (v ∷ ts) → (w : Text) × (v ∷ ts ≡ fields_in w)
    go (inl n) = cc
    go (inr p) = p

fields_again : (ts : List Text) (t : Text) → ts ≡ fields_in t → fields_in (fields ts) ≡ ts
fields_again ts t e = ap (λ us. fields_in (fields us)) e ∙ ap fields_in (fields_spelled t) ∙ sym e

-- ---- cut at its first spaces

all_more : (u : Text) (ts : List Text) → 0 < length ts → all_fields (u ∷ ts) ≡ u ∷ all_fields ts
all_more u [] h = absurd (omega arith)
all_more u (t ∷ ts) h = refl

some_first : (n : ℕ) (t : Text) (ts : List Text) → 0 < length (first_fields n (t ∷ ts))
some_first zero t ts = omega arith
some_first (suc n) t [] = omega arith
some_first (suc n) t (u ∷ ts) = omega arith

pub first_all : (n : ℕ) (ts : List Text) (t : Text) → ts ≡ fields_in t → all_fields (first_fields n ts) ≡ ts
first_all zero ts t e = fields_again ts t e
first_all (suc n) [] t e = refl
first_all (suc n) (u ∷ []) t e = fields_again (u ∷ []) t e
first_all (suc n) (u ∷ v ∷ ts) t e =
    let b = behind_some u v ts t e in
    all_more u (first_fields n (v ∷ ts)) (some_first n v ts) ∙ ap (λ us. u ∷ us) (first_all n (v ∷ ts) b.0 b.1)

-- a line's last field is one
pub last_cut : (ts : List Text) (t : Text) → ts ≡ fields_in t → is_cut ts ≡ true
last_cut [] t e = refl
last_cut (u ∷ []) t e = ap (λ us. length us == 1) (fields_again (u ∷ []) t e)
last_cut (u ∷ v ∷ ts) t e = let b = behind_some u v ts t e in last_cut (v ∷ ts) b.0 b.1

-- ---- empty fields

filled_joined : (t : Text) (ts : List Text) → IsTrue (is_filled t) → IsTrue (is_filled (spaced_by t ts))
filled_joined [] ts h = cc
filled_joined (c ∷ t) [] h = refl
filled_joined (c ∷ t) (u ∷ ts) h = refl

pub filled_first : (n : ℕ) (ts : List Text) → 0 < length ts → IsTrue (list_all is_filled ts) → IsTrue (list_all is_filled (first_fields n ts))
filled_first n [] l h = absurd (omega arith)
filled_first zero (t ∷ ts) l h = both_hold (is_filled (spaced_by t ts)) true (filled_joined t ts (first_holds (is_filled t) (list_all is_filled ts) h)) refl
filled_first (suc n) (t ∷ []) l h = h
filled_first (suc n) (t ∷ u ∷ ts) l h =
    both_hold (is_filled t) (list_all is_filled (first_fields n (u ∷ ts))) (first_holds (is_filled t) (list_all is_filled (u ∷ ts)) h)
    (filled_first n (u ∷ ts) (omega arith) (second_holds (is_filled t) (list_all is_filled (u ∷ ts)) h))

-- ---- as many as there are

first_same : (n : ℕ) (ts : List Text) → length ts ≡ suc n → first_fields n ts ≡ ts
first_same zero [] l = absurd (omega arith)
first_same zero (t ∷ []) l = refl
first_same zero (t ∷ u ∷ ts) l = absurd (omega arith)
first_same (suc n) [] l = absurd (omega arith)
first_same (suc n) (t ∷ []) l = absurd (omega arith)
first_same (suc n) (t ∷ u ∷ ts) l = ap (λ us. t ∷ us) (first_same n (u ∷ ts) (omega arith))

pub never : (a : Bool) → (a && false) ≡ false
never true = refl
never false = refl

other_word : (w t : Text) → same_text t w ≡ false → same_text w t ≡ false
other_word w t h = go (same_text w t) refl
  where
    go : (b : Bool) → same_text w t ≡ b → same_text w t ≡ false
    go false e = e
    go true e =
        let same : w ≡ t = same_texts w t e in
        let there : same_text t w ≡ true = ap (λ u. same_text t u) same ∙ text_itself t in
        absurd (cc (there, h))

behind_true : (a b : Bool) → (a && b) ≡ false → a ≡ true → b ≡ false
behind_true true b h e = h
behind_true false b h e = cc

one_other : (w : Text) (ws : List Wanted) (us : List Text) → 0 < length us → same_text (field_at us 0) w ≡ false → one_is is_other_word (word w ∷ ws) us ≡ true
one_other w ws [] l h = absurd (omega arith)
one_other w ws (u ∷ us) l h = ap (λ b. not b || one_is is_other_word ws us) (other_word w u h)

-- it is not so many fields behind that word
pub no_head : (w : Text) (n : ℕ) (ws : List Wanted) (us : List Text) → length ws ≡ n
    → (length (first_fields n us) == suc n && same_text (field_at (first_fields n us) 0) w) ≡ false → has_form (word w ∷ ws) us ≡ false
no_head w n ws us l h =
    ap (λ k. length us == suc k && (list_all is_filled us && not (one_is is_other_word (word w ∷ ws) us))) l ∙ go (length us == suc n) refl
  where
    go : (b : Bool) → (length us == suc n) ≡ b → (b && (list_all is_filled us && not (one_is is_other_word (word w ∷ ws) us))) ≡ false
    go false e = refl
    go true e =
        let many : length us ≡ suc n = eqb-true (length us) (suc n) e in
        let other : same_text (field_at us 0) w ≡ false = behind_true (length us == suc n) (same_text (field_at us 0) w) (subst (λ vs. (length vs == suc n && same_text (field_at vs 0) w) ≡ false) (first_same n us many) h) e in
        ap (λ b. list_all is_filled us && not b) (one_other w ws us (omega arith) other) ∙ never (list_all is_filled us)
