-- Entries of a table by their places.
use Rattle.std.proofs.Common.{◌≡◌, ℕ, zero, suc, ℤ, [], ◌∷◌, map, Some, refl, sym, ap, subst, ◌∙◌, cond, slice_get, int_cmp, is_eq, Ordering, Less, Equal, Greater, IsTrue}
use Rattle.std.specs.Ordering.{is_lt}
use Rattle.std.specs.Cmp.{int_cmp_total, tied_itself}
use Rattle.std.specs.FinMap.{int_cmp-IsAntisymmetric}
use Rattle.std.specs.FinMap.Entries.{below_all}
use Rattle.spec_value.specs.Table.{Numbered, at, is_numbered}
use Rattle.spec_value.proofs.Entries.{first_holds, second_holds}

less_is : (r : Ordering) → IsTrue (is_lt r) → r ≡ Less
less_is Less h = refl
less_is Equal h = cc
less_is Greater h = cc

module _ {X : Type 0} where
  pub place_of : (es : Numbered X) (k : ℤ) (x : X) → at es k ≡ Some x → (i : ℕ) × (slice_get es i ≡ Some (k, x))
  place_of [] k x h = cc
  place_of (e ∷ es) k x h = go (place_of es k x) (int_cmp k e.0) refl h
    where
      go : (at es k ≡ Some x → (i : ℕ) × (slice_get es i ≡ Some (k, x))) → (r : Ordering) → int_cmp k e.0 ≡ r → cond (is_eq r) (Some e.1) (at es k) ≡ Some x
          → (i : ℕ) × (slice_get (e ∷ es) i ≡ Some (k, x))
      go later Less t f = let m = later f in (suc m.0, m.1)
      go later Greater t f = let m = later f in (suc m.0, m.1)
      go later Equal t f =
          let a : e.0 ≡ k = sym (int_cmp-IsAntisymmetric k e.0 t) in
          let b : e.1 ≡ x = cc in
          (zero, λ n. Some (a n, b n))

  pub below_at : (a : ℤ) (es : Numbered X) (i : ℕ) (k : ℤ) (x : X) → IsTrue (below_all int_cmp a es) → slice_get es i ≡ Some (k, x) → int_cmp a k ≡ Less
  below_at a [] i k x h e = cc
  below_at a (f ∷ es) zero k x h e = let same : f ≡ (k, x) = cc in less_is (int_cmp a k) (subst (λ (g : ℤ × X). IsTrue (is_lt (int_cmp a g.0))) same (first_holds (is_lt (int_cmp a f.0)) (below_all int_cmp a es) h))
  below_at a (f ∷ es) (suc i) k x h e = below_at a es i k x (second_holds (is_lt (int_cmp a f.0)) (below_all int_cmp a es) h) e

  pub found_at : (es : Numbered X) (i : ℕ) (k : ℤ) (x : X) → IsTrue (is_numbered es) → slice_get es i ≡ Some (k, x) → at es k ≡ Some x
  found_at [] i k x h e = cc
  found_at (f ∷ es) zero k x h e =
      let same : f ≡ (k, x) = cc in
      subst (λ (g : ℤ × X). cond (is_eq (int_cmp k g.0)) (Some g.1) (at es k) ≡ Some x) (sym same) (ap (λ r. cond (is_eq r) (Some x) (at es k)) (tied_itself int_cmp_total k))
  found_at (f ∷ es) (suc i) k x h e =
      let below = below_at f.0 es i k x (first_holds (below_all int_cmp f.0 es) (is_numbered es) h) e in
      go (int_cmp k f.0) refl below (found_at es i k x (second_holds (below_all int_cmp f.0 es) (is_numbered es) h) e)
    where
      go : (r : Ordering) → int_cmp k f.0 ≡ r → int_cmp f.0 k ≡ Less → at es k ≡ Some x → cond (is_eq r) (Some f.1) (at es k) ≡ Some x
      go Less t b later = later
      go Greater t b later = later
      go Equal t b later =
          let clash : Equal ≡ Less = sym (tied_itself int_cmp_total k) ∙ ap (λ j. int_cmp j k) (int_cmp-IsAntisymmetric k f.0 t) ∙ b in
          absurd (cc (clash))

pub number_at : {X : Type 0} (es : Numbered X) (i : ℕ) (n : ℤ) → slice_get (map (λ (e : ℤ × X). e.0) es) i ≡ Some n → (x : X) × (slice_get es i ≡ Some (n, x))
number_at [] i n h = cc
number_at (e ∷ es) zero n h = let same : e.0 ≡ n = cc in (e.1, λ j. Some (same j, e.1))
number_at (e ∷ es) (suc i) n h = number_at es i n h

pub at_number : {X : Type 0} (es : Numbered X) (i : ℕ) (n : ℤ) (x : X) → slice_get es i ≡ Some (n, x) → slice_get (map (λ (e : ℤ × X). e.0) es) i ≡ Some n
at_number [] i n x h = cc
at_number {X = X} (e ∷ es) zero n x h = let same : e ≡ (n, x) = cc in ap (λ (f : ℤ × X). Some f.0) same
at_number (e ∷ es) (suc i) n x h = at_number es i n x h
