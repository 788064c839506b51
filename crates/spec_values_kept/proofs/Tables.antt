-- Lists and tables each of whose entries holds something.
use Rattle.std.proofs.Common.{◌≡◌, ℤ, Bool, true, false, cond, List, [], ◌∷◌, ◌++◌, filter, Option, Some, None, refl, sym, subst, if◌then◌else◌, Ordering, Less, Equal, Greater, is_eq}
use Rattle.std.specs.Ordering.{int_cmp}
use Rattle.std.specs.FinMap.{find, put, int_cmp-IsAntisymmetric}
use Rattle.std.specs.FinMap.Entries.{by_order}
use Rattle.spec_value.specs.Table.{Numbered, at, with, without}
use Rattle.spec_values_kept.specs.Values.{InRange, Each, IfThere}
use Rattle.spec_values_kept.specs.WorldValues.{NumberedHolds}

module _ {X : Type 0} (P : X → Type 0) where
  pub each_together : (xs ys : List X) → Each P xs → Each P ys → Each P (xs ++ ys)
  each_together [] ys h k = k
  each_together (x ∷ xs) ys h k = (h.0, each_together xs ys h.1 k)

  pub each_more : (xs : List X) (x : X) → Each P xs → P x → Each P (xs ++ x ∷ [])
  each_more xs x h k = each_together xs (x ∷ []) h (k, tt)

  pub each_filtered : (q : X → Bool) (xs : List X) → Each P xs → Each P (filter q xs)
  each_filtered q [] h = tt
  each_filtered q (x ∷ xs) h = go (q x) (each_filtered q xs h.1)
    where
      go : (b : Bool) → Each P (filter q xs) → Each P (if b then x ∷ filter q xs else filter q xs)
      go true later = (h.0, later)
      go false later = later

-- ---- tables by any order

module _ {K X : Type 0} (R : K → K → Ordering) where
  pub each_put : (P : K × X → Type 0) (k : K) (x : X) (es : List (K × X)) → P (k, x) → ((e : K × X) → P e → P (e.0, x)) → Each P es → Each P (put R k x es)
  each_put P k x [] one same h = (one, tt)
  each_put P k x (e ∷ es) one same h = go (R k e.0) (each_put P k x es one same h.1)
    where
      go : (r : Ordering) → Each P (put R k x es) → Each P (by_order r ((k, x) ∷ e ∷ es) ((e.0, x) ∷ es) (e ∷ put R k x es))
      go Less later = (one, h)
      go Equal later = (same e h.0, h.1)
      go Greater later = (h.0, later)

  pub each_found : (P : X → Type 0) (es : List (K × X)) (k : K) → Each (λ e. P e.1) es → IfThere P (find R k es)
  each_found P [] k h = tt
  each_found P (e ∷ es) k h = go (is_eq (R k e.0)) (each_found P es k h.1)
    where
      go : (b : Bool) → IfThere P (find R k es) → IfThere P (cond b (Some e.1) (find R k es))
      go true later = h.0
      go false later = later

-- ---- tables by number

pub unless_none : {X : Type 0} (P : X → Type 0) (o : Option X) (x : X) → IfThere P o → o ≡ Some x → P x
unless_none P o x h e = subst (IfThere P) e h

module _ {X : Type 0} (P : X → Type 0) where
  pub numbered_put : (es : Numbered X) (k : ℤ) (x : X) → InRange k → P x → Each (NumberedHolds P) es → Each (NumberedHolds P) (with es k x)
  numbered_put es k x i one h = each_put int_cmp (NumberedHolds P) k x es (i, one) (λ e j. (j.0, one)) h

  pub number_there : (es : Numbered X) (k : ℤ) (x : X) → Each (NumberedHolds P) es → at es k ≡ Some x → InRange k × P x
  number_there [] k x h e = cc
  number_there (y ∷ ys) k x h e = go (number_there ys k x h.1) (int_cmp k y.0) refl e
    where
      go : (at ys k ≡ Some x → InRange k × P x) → (r : Ordering) → int_cmp k y.0 ≡ r → cond (is_eq r) (Some y.1) (at ys k) ≡ Some x → InRange k × P x
      go later Less t found = later found
      go later Greater t found = later found
      go later Equal t found = (subst InRange (sym (int_cmp-IsAntisymmetric k y.0 t)) (h.0).0, unless_none P (Some y.1) x (h.0).1 found)

  pub numbered_there : (es : Numbered X) (k : ℤ) → Each (NumberedHolds P) es → IfThere P (at es k)
  numbered_there es k h = go (at es k) refl
    where
      go : (o : Option X) → at es k ≡ o → IfThere P o
      go None e = tt
      go (Some x) e = (number_there es k x h e).1

  pub numbered_without : (es : Numbered X) (k : ℤ) → Each (NumberedHolds P) es → Each (NumberedHolds P) (without es k)
  numbered_without es k h = each_filtered (NumberedHolds P) _ es h
