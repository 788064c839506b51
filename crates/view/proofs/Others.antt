-- Names that are no built-in property's, by their first letters.
use Rattle.std.proofs.Common.{◌≡◌, ◌==◌, ◌+◌, ◌||◌, ◌&&◌, ◌⊎◌, inl, inr, cond, nat_lt, ℕ, Bool, true, false, List, [], ◌∷◌, IsTrue, not, length, Some, None, refl, sym, ap, ◌∙◌, arith}
use Rattle.std.specs.Prelude.{if◌then◌else◌, codes, slice_get}
use Rattle.std.specs.Char.{to_ascii_lowercase}
use Rattle.std.proofs.lemmas.Bool.{ne_eqb, eqb-false, or_parts}
use Rattle.spec_value.specs.Datum.{Text, same_text, fold_case}
use Rattle.spec_moo.specs.Properties.{property_rows, built_in, row_of}
use Rattle.view.specs.BuiltIn.{is_either, is_bit_letter, begins_one}

-- the name stands in no row
abbrev Apart : {X : Type 0} → List (Text × X) → Text → Type 0
Apart [] p = Unit {0}
Apart (r ∷ rs) p = (same_text r.0 p ≡ false) × Apart rs p

none_of : {X : Type 0} (rs : List (Text × X)) (p : Text) → Apart rs p → row_of rs p ≡ None
unfolding row_of
none_of [] p apart = refl
none_of (r ∷ rs) p apart = ap (λ b. if b then Some r.1 else row_of rs p) apart.0 ∙ none_of rs p apart.1

mirrored : (x a : ℕ) → (x == a) ≡ false → (a == x) ≡ false
mirrored x a e = ne_eqb a x (λ same. eqb-false x a e (sym same))

never : (b : Bool) → (b && false) ≡ false
never true = refl
never false = refl

begins : (a x : ℕ) (s t : Text) → (x == a) ≡ false → same_text (a ∷ s) (x ∷ t) ≡ false
begins a x s t e = ap (λ b. b && same_text s t) (mirrored x a e)

-- a letter in lower case is none that it is not in either case
lowered : (is_low is_upper : Bool) (x k : ℕ) → cond is_low x (cond is_upper (x + 32) x) ≡ k + 32 → (x ≡ k + 32) ⊎ (x ≡ k)
lowered true u x k e = inl e
lowered false true x k e = inr (omega (arith, e))
lowered false false x k e = inl e

cased : (x k : ℕ) → is_either x k ≡ false → (to_ascii_lowercase x == k + 32) ≡ false
cased x k e = ne_eqb (to_ascii_lowercase x) (k + 32) (λ same. neither (lowered (nat_lt x 65) (nat_lt x 91) x k same))
  where
    parts : ((x == k) ≡ false) × ((x == k + 32) ≡ false)
    parts = or_parts (x == k) (x == k + 32) e

    neither : (x ≡ k + 32) ⊎ (x ≡ k) → ⊥
    neither (inl is) = eqb-false x (k + 32) parts.1 is
    neither (inr is) = eqb-false x k parts.0 is

bits : (x : ℕ) → (x == 114) ≡ false → (x == 119) ≡ false → (x == 102) ≡ false → row_of property_rows (x ∷ []) ≡ None
bits x r w f =
    none_of property_rows (x ∷ []) (
      never (110 == x),
      (
        never (111 == x),
        (
          never (108 == x),
          (
            never (99 == x),
            (
              never (112 == x),
              (
                never (119 == x),
                (begins 114 x [] [] r, (begins 119 x [] [] w, (begins 102 x [] [] f, tt))),
              ),
            ),
          ),
        ),
      ),
    )

one_letter : (x : ℕ) → is_bit_letter x ≡ false → row_of property_rows (to_ascii_lowercase x ∷ []) ≡ None
one_letter x e =
    let r = or_parts (is_either x 82) (is_either x 87 || is_either x 70) e in
    let w = or_parts (is_either x 87) (is_either x 70) r.1 in
    bits (to_ascii_lowercase x) (cased x 82 r.0) (cased x 87 w.0) (cased x 70 w.1)

others : (x y : ℕ) (t : Text) → (x == 110) ≡ false → (x == 111) ≡ false → (x == 108) ≡ false → (x == 99) ≡ false → (x == 112) ≡ false → (x == 119) ≡ false
    → row_of property_rows (x ∷ y ∷ t) ≡ None
others x y t n o l c p w =
    none_of property_rows (x ∷ y ∷ t) (
      begins 110 x (codes "ame") (y ∷ t) n,
      (
        begins 111 x (codes "wner") (y ∷ t) o,
        (
          begins 108 x (codes "ocation") (y ∷ t) l,
          (
            begins 99 x (codes "ontents") (y ∷ t) c,
            (begins 112 x (codes "rogrammer") (y ∷ t) p, (begins 119 x (codes "izard") (y ∷ t) w, (never (114 == x), (never (119 == x), (never (102 == x), tt))))),
          ),
        ),
      ),
    )

more_letters : (x y : ℕ) (t : Text) → begins_one x ≡ false → row_of property_rows (to_ascii_lowercase x ∷ y ∷ t) ≡ None
more_letters x y t e =
    let n = or_parts (is_either x 78) (is_either x 79 || (is_either x 76 || (is_either x 67 || (is_either x 80 || is_either x 87)))) e in
    let o = or_parts (is_either x 79) (is_either x 76 || (is_either x 67 || (is_either x 80 || is_either x 87))) n.1 in
    let l = or_parts (is_either x 76) (is_either x 67 || (is_either x 80 || is_either x 87)) o.1 in
    let c = or_parts (is_either x 67) (is_either x 80 || is_either x 87) l.1 in
    let p = or_parts (is_either x 80) (is_either x 87) c.1 in
    others (to_ascii_lowercase x) y t (cased x 78 n.0) (cased x 79 o.0) (cased x 76 l.0) (cased x 67 c.0) (cased x 80 p.0) (cased x 87 p.1)

pub unmet : (b : Bool) → IsTrue (not b) → b ≡ false
unmet true h = cc
unmet false h = refl

same : (x y : ℕ) → Some y ≡ Some x → y ≡ x
same x y e = cc

pub single : (p : Text) (x : ℕ) → length p ≡ 1 → slice_get p 0 ≡ Some x → is_bit_letter x ≡ false → built_in p ≡ None
single [] x n is e = absurd (omega (arith, n))
single (y ∷ []) x n is e = one_letter y (ap is_bit_letter (same x y is) ∙ e)
single (y ∷ z ∷ t) x n is e = absurd (omega (arith, n))

pub longer : (p : Text) (x : ℕ) → (length p ≡ 1 → ⊥) → slice_get p 0 ≡ Some x → begins_one x ≡ false → built_in p ≡ None
longer [] x n is e = cc
longer (y ∷ []) x n is e = absurd (n refl)
longer (y ∷ z ∷ t) x n is e =
    more_letters y (to_ascii_lowercase z) (fold_case t) (ap begins_one (same x y is) ∙ e)
