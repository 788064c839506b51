-- Numbers that are marked with their places in a list.
use Rattle.std.proofs.Common.{◌≡◌, ◌⊎◌, inl, inr, ℕ, zero, suc, ◌+◌, ◌<◌, ◌≤◌, ℤ, pos, Bool, true, false, not, List, [], ◌∷◌, length, Some, refl, sym, ap, ◌∙◌, subst, IsTrue, get_or, cond, ◌&&◌, arith}
use Rattle.std.specs.Prelude.{slice_get}
use Rattle.std.specs.List.{list_all}
use Rattle.std.proofs.lemmas.Option.{slice_get_within}
use Rattle.std.specs.Ordering.{int_eq}
use Rattle.spec_world.specs.WellFormed.{lists, once}
use Rattle.spec_value.proofs.Entries.{first_holds, second_holds, both_hold}
use Rattle.spec_value.proofs.Same.{same_integer, integer_itself}
use Rattle.spec_world.proofs.Trees.{some_same, either, first_of, second_of, same_or_not, other}
use Rattle.world_checks.specs.Marks.{mark_of, may_mark, mark_after, Placed}

module _ (f : ℤ → ℕ) where
  abbrev FromHere : ℕ → List ℤ → Type 0
  FromHere n xs = (k : ℕ) → k < length xs → f (get_or xs k (pos 0)) ≡ n + k

  from_next : (n : ℕ) (x : ℤ) (xs : List ℤ) → FromHere n (x ∷ xs) → FromHere (suc n) xs
  from_next n x xs h k lt = h (suc k) (omega arith) ∙ omega arith

  marked_behind : (n : ℕ) (xs : List ℤ) (x : ℤ) → FromHere n xs → IsTrue (lists xs x) → n ≤ f x
  marked_behind n [] x h is = cc
  marked_behind n (y ∷ xs) x h is = go (marked_behind (suc n) xs x (from_next n y xs h)) (either (int_eq x y) _ is)
    where
      go : (IsTrue (lists xs x) → suc n ≤ f x) → IsTrue (int_eq x y) ⊎ IsTrue (lists xs x) → n ≤ f x
      go later (inl e) = let here : f x ≡ n + 0 = ap f (same_integer x y e) ∙ h 0 (omega arith) in omega (arith, here)
      go later (inr e) = omega (arith, later e)

  once_from : (n : ℕ) (xs : List ℤ) → FromHere n xs → IsTrue (once xs)
  unfolding once
  once_from n [] h = refl
  once_from n (x ∷ xs) h = both_hold (not (lists xs x)) (once xs) (go (lists xs x) refl) (once_from (suc n) xs (from_next n x xs h))
    where
      go : (b : Bool) → lists xs x ≡ b → IsTrue (not b)
      go false e = refl
      go true e =
          let behind : suc n ≤ f x = marked_behind (suc n) xs x (from_next n x xs h) e in
          let here : f x ≡ n + 0 = h 0 (omega arith) in
          absurd (omega (arith, here, behind))

pub once_by_places : (m : List ℕ × List ℕ) (xs : List ℤ) → ((k : ℕ) → k < length xs → mark_of m (get_or xs k (pos 0)) ≡ k) → IsTrue (once xs)
once_by_places m xs h = once_from (mark_of m) 0 xs (λ k lt. h k lt ∙ omega arith)

pub listed_at : (xs : List ℤ) (k : ℕ) (x : ℤ) → slice_get xs k ≡ Some x → IsTrue (lists xs x)
listed_at [] k x is = cc
listed_at (y ∷ xs) zero x is = first_of (int_eq x y) _ (subst (λ z. IsTrue (int_eq x z)) (sym (some_same is)) (integer_itself x))
listed_at (y ∷ xs) (suc k) x is = second_of (int_eq x y) _ (listed_at xs k x is)

-- ---- what is listed has a place

pub place_of : (xs : List ℤ) (x : ℤ) → IsTrue (lists xs x) → (k : ℕ) × (slice_get xs k ≡ Some x)
place_of [] x h = cc
place_of (y ∷ xs) x h = go (place_of xs x) (either (int_eq x y) _ h)
  where
    go : (IsTrue (lists xs x) → (k : ℕ) × (slice_get xs k ≡ Some x)) → IsTrue (int_eq x y) ⊎ IsTrue (lists xs x) → (k : ℕ) × (slice_get (y ∷ xs) k ≡ Some x)
    go later (inl e) = (0, ap Some (sym (same_integer x y e)))
    go later (inr e) = let r = later e in (suc r.0, r.1)

-- and one that stands once has one
one_place : (xs : List ℤ) (x : ℤ) (i j : ℕ) → IsTrue (once xs) → slice_get xs i ≡ Some x → slice_get xs j ≡ Some x → i ≡ j
unfolding once
one_place [] x i j h a b = cc
one_place (y ∷ xs) x zero zero h a b = refl
one_place (y ∷ xs) x zero (suc j) h a b = absurd (clash (lists xs y) refl (first_holds (not (lists xs y)) _ h))
  where
    clash : (r : Bool) → lists xs y ≡ r → IsTrue (not r) → ⊥
    clash true e k = cc
    clash false e k = let there : IsTrue (lists xs y) = subst (λ z. IsTrue (lists xs z)) (sym (some_same a)) (listed_at xs j x b) in cc (e, there)
one_place (y ∷ xs) x (suc i) zero h a b = absurd (clash (lists xs y) refl (first_holds (not (lists xs y)) _ h))
  where
    clash : (r : Bool) → lists xs y ≡ r → IsTrue (not r) → ⊥
    clash true e k = cc
    clash false e k = let there : IsTrue (lists xs y) = subst (λ z. IsTrue (lists xs z)) (sym (some_same b)) (listed_at xs i x a) in cc (e, there)
one_place (y ∷ xs) x (suc i) (suc j) h a b = ap suc (one_place xs x i j (second_holds (not (lists xs y)) _ h) a b)

may_there : (xs : List ℤ) (k : ℕ) (x : ℤ) → IsTrue (list_all may_mark xs) → slice_get xs k ≡ Some x → IsTrue (may_mark x)
may_there [] k x h is = cc
may_there (y ∷ xs) zero x h is = subst (λ z. IsTrue (may_mark z)) (some_same is) (first_holds (may_mark y) _ h)
may_there (y ∷ xs) (suc k) x h is = may_there xs k x (second_holds (may_mark y) _ h) is

-- ---- marks of the places of the first numbers of a list

abbrev pub PlacedTo : List ℕ × List ℕ → List ℤ → ℕ → Type 0
PlacedTo m xs i = (k : ℕ) (x : ℤ) → k < i → slice_get xs k ≡ Some x → mark_of m x ≡ k

abbrev pub Given : List ℕ × List ℕ → List ℕ × List ℕ → ℤ → ℕ → Type 0
Given m after number mark = (n : ℤ) → mark_of after n ≡ mark_after m number mark n

pub given_other : (m after : List ℕ × List ℕ) (number : ℤ) (mark : ℕ) (n : ℤ) → Given m after number mark → int_eq n number ≡ false → mark_of after n ≡ mark_of m n
given_other m after number mark n h e = h n ∙ ap (λ b. cond (b && may_mark number) mark (mark_of m n)) e

pub given_itself : (m after : List ℕ × List ℕ) (number : ℤ) (mark : ℕ) → Given m after number mark → IsTrue (may_mark number) → mark_of after number ≡ mark
given_itself m after number mark h may = h number ∙ ap (λ b. cond (b && may_mark number) mark (mark_of m number)) (integer_itself number) ∙ ap (λ b. cond b mark (mark_of m number)) may

pub placed_more : (m after : List ℕ × List ℕ) (xs : List ℤ) (i : ℕ) (x : ℤ) → slice_get xs i ≡ Some x → Given m after x i
    → (IsTrue (once xs) → IsTrue (list_all may_mark xs) → PlacedTo m xs i) → IsTrue (once xs) → IsTrue (list_all may_mark xs) → PlacedTo after xs (i + 1)
placed_more m after xs i x here given before single may k y less at = go (same_or_not y x)
  where
    go : (y ≡ x) ⊎ (int_eq y x ≡ false) → mark_of after y ≡ k
    go (inl e) =
        let same : k ≡ i = one_place xs x k i single (at ∙ ap Some e) here in
        ap (mark_of after) e ∙ given_itself m after x i given (may_there xs i x may here) ∙ sym same
    go (inr e) = given_other m after x i y given e ∙ before single may k y (omega (arith, less, apart)) at
      where
        apart : k ≡ i → ⊥
        apart s = other y x e (some_same (sym at ∙ ap (slice_get xs) s ∙ here))

pub others_kept : (first m after : List ℕ × List ℕ) (xs : List ℤ) (i : ℕ) (x : ℤ) → slice_get xs i ≡ Some x → Given m after x i
    → ((n : ℤ) → lists xs n ≡ false → mark_of m n ≡ mark_of first n) → (n : ℤ) → lists xs n ≡ false → mark_of after n ≡ mark_of first n
others_kept first m after xs i x at given before n none = go (same_or_not n x)
  where
    here : IsTrue (lists xs x)
    here = listed_at xs i x at

    go : (n ≡ x) ⊎ (int_eq n x ≡ false) → mark_of after n ≡ mark_of first n
    go (inl e) = let there : IsTrue (lists xs n) = subst (λ z. IsTrue (lists xs z)) (sym e) here in absurd (cc (there, none))
    go (inr e) = given_other m after x i n given e ∙ before n none

pub all_placed : (m : List ℕ × List ℕ) (xs : List ℤ) (i : ℕ) → length xs ≤ i → PlacedTo m xs i → Placed m xs
all_placed m xs i all h k x at = h k x (let lt = slice_get_within xs k x at in omega (arith, lt)) at
