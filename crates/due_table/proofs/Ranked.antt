-- Items in a rising order.
use Rattle.std.proofs.Common.{◌≡◌, ℕ, ◌<◌, ◌≤◌, Bool, true, false, cond, not, List, [], ◌∷◌, length, refl, sym, ap, arith, Ordering, Less, Equal, Greater}
use Rattle.std.specs.List.{AllByRecursion, filter}
use Rattle.std.specs.List.Sorted.{IsStrictlySortedBy}
use Rattle.std.specs.Ordering.{nat_cmp, eq_by_cmp, is_le}
use Rattle.std.specs.Cmp.{ranked}
use Rattle.std.specs.FinMap.Entries.{by_order}
use Rattle.std.proofs.lemmas.List.Kept.{IsStrictlySortedBy-filter}
use Rattle.world_table.proofs.Rising.{cmp_less, cmp_greater}
use Rattle.due_table.specs.Order.{with_item, without_item}
use Rattle.due_table.specs.Held.{AreKeys}

pub all_kept : {K : Type 0} (P : K → Type 0) (test : K → Bool) (ks : List K) → AllByRecursion P ks → AllByRecursion P (filter test ks)
all_kept P test [] h = tt
all_kept P test (k ∷ ks) h = go (test k) (all_kept P test ks h.1)
  where
    go : (b : Bool) → AllByRecursion P (filter test ks) → AllByRecursion P (cond b (k ∷ filter test ks) (filter test ks))
    go true rest = (h.0, rest)
    go false rest = rest

pub all_with : {K : Type 0} (P : K → Type 0) (R : K → K → Ordering) (k : K) (ks : List K) → P k → AllByRecursion P ks → AllByRecursion P (with_item R k ks)
all_with P R k [] own h = (own, tt)
all_with P R k (j ∷ js) own h = go (R k j) (all_with P R k js own h.1)
  where
    go : (r : Ordering) → AllByRecursion P (with_item R k js) → AllByRecursion P (by_order r (k ∷ j ∷ js) (j ∷ js) (j ∷ with_item R k js))
    go Less rest = (own, h)
    go Equal rest = h
    go Greater rest = (h.0, rest)

all_above : (k j : ℕ) (js : List ℕ) → k < j → AllByRecursion (λ i. nat_cmp j i ≡ Less) js → AllByRecursion (λ i. nat_cmp k i ≡ Less) js
all_above k j [] p h = tt
all_above k j (i ∷ is) p h = let q : j < i = ranked j i Less (sym h.0) in (cmp_less k i (omega arith), all_above k j is p h.1)

sorted_with : (k : ℕ) (ks : List ℕ) → IsStrictlySortedBy nat_cmp ks → IsStrictlySortedBy nat_cmp (with_item nat_cmp k ks)
unfolding IsStrictlySortedBy
sorted_with k [] h = (tt, tt)
sorted_with k (j ∷ js) h =
    elim (nat_cmp k j) as (λ r. nat_cmp k j ≡ r → IsStrictlySortedBy nat_cmp (by_order r (k ∷ j ∷ js) (j ∷ js) (j ∷ with_item nat_cmp k js))) [
      | Less ↦ λ e. ((e, all_above k j js (ranked k j Less (sym e)) h.0), h)
      | Equal ↦ λ e. h
      | Greater ↦ λ e. (all_with (λ i. nat_cmp j i ≡ Less) nat_cmp k js (cmp_less j k (ranked k j Greater (sym e))) h.0, sorted_with k js h.1)
    ] refl

some_with : (k : ℕ) (ks : List ℕ) → 0 < length (with_item nat_cmp k ks)
some_with k [] = omega arith
some_with k (j ∷ js) = go (nat_cmp k j)
  where
    go : (r : Ordering) → 0 < length (by_order r (k ∷ j ∷ js) (j ∷ js) (j ∷ with_item nat_cmp k js))
    go Less = omega arith
    go Equal = omega arith
    go Greater = omega arith

pub first_key : (k : ℕ) → k < 4294967296 → AreKeys (k ∷ [])
unfolding IsStrictlySortedBy
first_key k p = record { some = omega arith; sorted = (tt, tt); within = (p, tt) }

pub keys_with : (k : ℕ) (ks : List ℕ) → k < 4294967296 → AreKeys ks → AreKeys (with_item nat_cmp k ks)
keys_with k ks p h =
    record {
      some = some_with k ks;
      sorted = sorted_with k ks h.sorted;
      within = all_with (λ j. j < 4294967296) nat_cmp k ks p h.within;
    }

pub keys_without : (k : ℕ) (ks : List ℕ) → 0 < length (without_item nat_cmp k ks) → AreKeys ks → AreKeys (without_item nat_cmp k ks)
keys_without k ks p h =
    record {
      some = p;
      sorted = IsStrictlySortedBy-filter nat_cmp (λ j. not (eq_by_cmp nat_cmp k j)) ks h.sorted;
      within = all_kept (λ j. j < 4294967296) (λ j. not (eq_by_cmp nat_cmp k j)) ks h.within;
    }

pub le_from_cmp : (k x : ℕ) → k ≤ x → is_le (nat_cmp k x) ≡ true
le_from_cmp k x p =
    elim (nat_cmp k x) as (λ r. nat_cmp k x ≡ r → is_le r ≡ true) [
      | Less ↦ λ e. refl
      | Equal ↦ λ e. refl
      | Greater ↦ λ e. absurd (let q : x < k = ranked k x Greater (sym e) in omega arith)
    ] refl

pub gt_from_cmp : (k x : ℕ) → x < k → is_le (nat_cmp k x) ≡ false
gt_from_cmp k x p = ap is_le (cmp_greater k x p)
