-- Tables in order, by the numbers of their entries.
use Rattle.std.proofs.Common.{◌≡◌, ℕ, zero, suc, ◌+◌, ◌<◌, ℤ, pos, ◌<ℤ◌, List, [], ◌∷◌, map, length, Some, refl, sym, ap, ◌∙◌, subst, cond, Bool, true, false, ◌||◌, IsTrue, Ordering, Less, Equal, Greater, All, get_or, arith}
use Rattle.std.specs.Prelude.{slice_get}
use Rattle.spec_world.specs.WellFormed.{lists}
use Rattle.std.specs.Ordering.{MatchOrdering, int_cmp, int_eq, is_lt, is_eq, ordering_reverse}
use Rattle.std.specs.Cmp.{int_cmp_total, int_ranks, tied_itself, int_cmp_is}
use Rattle.std.proofs.lemmas.Map.Keys.{sorted_from_all_adjacent}
use Rattle.std.specs.List.{AllByRecursion, Contains}
use Rattle.std.specs.List.Sorted.{IsStrictlySortedBy}
use Rattle.std.specs.FinMap.{int_cmp-IsAntisymmetric}
use Rattle.std.specs.FinMap.Entries.{below_all}
use Rattle.std.proofs.lemmas.List.Elements.{All-contains}
use Rattle.spec_value.specs.Table.{Numbered, at, is_numbered}
use Rattle.spec_value.proofs.Entries.{first_holds, second_holds, both_hold}
use Rattle.spec_world.proofs.Trees.{some_same}

module _ {X : Type 0} where
  below_each : (k : ℤ) (es : Numbered X) → AllByRecursion (λ y. int_cmp k y ≡ Less) (map (λ e. e.0) es) → IsTrue (below_all int_cmp k es)
  below_each k [] h = refl
  below_each k (e ∷ es) h = both_hold _ _ (ap is_lt h.0) (below_each k es h.1)

  -- a table whose numbers rise is in order
  pub numbered_from : (es : Numbered X) → IsStrictlySortedBy int_cmp (map (λ e. e.0) es) → IsTrue (is_numbered es)
  unfolding IsStrictlySortedBy
  numbered_from [] h = refl
  numbered_from (e ∷ es) h = both_hold _ _ (below_each e.0 es h.0) (numbered_from es h.1)

  each_below : (k : ℤ) (es : Numbered X) → IsTrue (below_all int_cmp k es) → AllByRecursion (λ y. int_cmp k y ≡ Less) (map (λ e. e.0) es)
  each_below k [] h = tt
  each_below k (e ∷ es) h = (less (int_cmp k e.0) (first_holds (is_lt (int_cmp k e.0)) _ h), each_below k es (second_holds (is_lt (int_cmp k e.0)) _ h))
    where
      less : (r : Ordering) → IsTrue (is_lt r) → r ≡ Less
      less Less h = refl
      less Equal h = cc
      less Greater h = cc

  -- and the other way round
  pub numbers_rise : (es : Numbered X) → IsTrue (is_numbered es) → IsStrictlySortedBy int_cmp (map (λ e. e.0) es)
  unfolding IsStrictlySortedBy
  numbers_rise [] h = tt
  numbers_rise (e ∷ es) h = (each_below e.0 es (first_holds (below_all int_cmp e.0 es) _ h), numbers_rise es (second_holds (below_all int_cmp e.0 es) _ h))

  pub is_listed : (es : Numbered X) (k : ℤ) (x : X) → at es k ≡ Some x → IsTrue (lists (map (λ e. e.0) es) k)
  is_listed [] k x is = cc
  is_listed (e ∷ es) k x is = go (is_listed es k x) (int_eq k e.0) is
    where
      go : (at es k ≡ Some x → IsTrue (lists (map (λ e. e.0) es) k)) → (b : Bool) → cond b (Some e.1) (at es k) ≡ Some x → IsTrue (b || lists (map (λ e. e.0) es) k)
      go later true found = refl
      go later false found = later found

  -- ---- what is found stands among the numbers

  pub number_listed : (es : Numbered X) (k : ℤ) (x : X) → at es k ≡ Some x → Contains (map (λ e. e.0) es) k
  number_listed [] k x is = cc
  number_listed (e ∷ es) k x is = go (number_listed es k x) (int_cmp k e.0) refl is
    where
      later : Contains (map (λ e. e.0) es) k → Contains (map (λ e. e.0) (e ∷ es)) k
      later c = let lt = c.1 in (suc c.0, omega (arith, lt), c.2)

      go : (at es k ≡ Some x → Contains (map (λ e. e.0) es) k) → (r : Ordering) → int_cmp k e.0 ≡ r → cond (is_eq r) (Some e.1) (at es k) ≡ Some x
          → Contains (map (λ e. e.0) (e ∷ es)) k
      go rest Less t found = later (rest found)
      go rest Greater t found = later (rest found)
      go rest Equal t found = (0, omega arith, sym (int_cmp-IsAntisymmetric k e.0 t))

  -- what holds of each of the numbers holds of each entry
  pub of_each : (P : ℤ → Type 0) (es : Numbered X) → All P (map (λ e. e.0) es) → (k : ℤ) (x : X) → at es k ≡ Some x → P k
  of_each P es all k x is = All-contains P (map (λ e. e.0) es) k all (number_listed es k x is)

  -- ---- what stands in a table in order is found

  is_below : (k : ℤ) (es : Numbered X) (n : ℕ) (e : ℤ × X) → IsTrue (below_all int_cmp k es) → slice_get es n ≡ Some e → int_cmp k e.0 ≡ Less
  is_below k [] n e h is = cc
  is_below k (f ∷ es) zero e h is = less (int_cmp k e.0) (subst (λ (d : ℤ × X). IsTrue (is_lt (int_cmp k d.0))) (some_same is) (first_holds (is_lt (int_cmp k f.0)) _ h))
    where
      less : (r : Ordering) → IsTrue (is_lt r) → r ≡ Less
      less Less h = refl
      less Equal h = cc
      less Greater h = cc
  is_below k (f ∷ es) (suc n) e h is = is_below k es n e (second_holds (is_lt (int_cmp k f.0)) _ h) is

  pub found_there : (es : Numbered X) (n : ℕ) (e : ℤ × X) → IsTrue (is_numbered es) → slice_get es n ≡ Some e → at es e.0 ≡ Some e.1
  found_there [] n e h is = cc
  found_there (f ∷ es) zero e h is =
      subst (λ (d : ℤ × X). at (f ∷ es) d.0 ≡ Some d.1) (some_same is) (ap (λ r. cond (is_eq r) (Some f.1) (at es f.0)) (tied_itself int_cmp_total f.0))
  found_there (f ∷ es) (suc n) e h is =
      let before : int_cmp f.0 e.0 ≡ Less = is_below f.0 es n e (first_holds (below_all int_cmp f.0 es) _ h) is in
      let behind : int_cmp e.0 f.0 ≡ Greater = int_cmp_total.antisymm e.0 f.0 ∙ ap ordering_reverse before in
      ap (λ r. cond (is_eq r) (Some f.1) (at es e.0)) behind ∙ found_there es n e (second_holds (below_all int_cmp f.0 es) _ h) is

-- numbers of which each is less than the next
pub rising : (xs : List ℤ) → ((k : ℕ) → k + 1 < length xs → get_or xs k (pos 0) <ℤ get_or xs (k + 1) (pos 0)) → IsStrictlySortedBy int_cmp xs
rising xs h = sorted_from_all_adjacent int_cmp_total xs (pos 0) (λ k lt. sym (int_cmp_is (get_or xs k (pos 0)) (get_or xs (k + 1) (pos 0)) Less (h k lt)))

less_is : (x y : ℤ) → int_cmp x y ≡ Less → x <ℤ y
less_is x y h = subst (λ r. MatchOrdering r (x <ℤ y) (x ≡ y) (y <ℤ x)) h (int_ranks x y)

each_less : (x : ℤ) (ys : List ℤ) (k : ℕ) → AllByRecursion (λ y. int_cmp x y ≡ Less) ys → k < length ys → int_cmp x (get_or ys k (pos 0)) ≡ Less
each_less x [] k h lt = absurd (omega arith)
each_less x (y ∷ ys) zero h lt = h.0
each_less x (y ∷ ys) (suc k) h lt = each_less x ys k h.1 (omega arith)

-- each of numbers that rise is less than the next
pub rises_next : (xs : List ℤ) → IsStrictlySortedBy int_cmp xs → (k j : ℕ) → j ≡ suc k → j < length xs → get_or xs k (pos 0) <ℤ get_or xs j (pos 0)
unfolding IsStrictlySortedBy
rises_next xs h k zero is lt = absurd (omega (arith, is))
rises_next [] h k (suc j) is lt = absurd (omega arith)
rises_next (x ∷ xs) h zero (suc j) is lt = less_is x (get_or xs j (pos 0)) (each_less x xs j h.0 (omega arith))
rises_next (x ∷ xs) h (suc k) (suc j) is lt = rises_next xs h.1 k j (omega (arith, is)) (omega arith)
