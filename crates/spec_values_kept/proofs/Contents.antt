-- Where objects agree, none contains as many as there are numbers.
use Rattle.std.proofs.Common.{◌≡◌, ◌⊎◌, inl, inr, ℕ, suc, ◌≤◌, ◌<◌, ℤ, pos, negsuc, Bool, true, false, not, ◌||◌, List, [], ◌∷◌, map, length, Option, Some, None, refl, sym, ap, subst, arith, IsTrue}
use Rattle.std.specs.Prelude.{int_le, nat_abs, eqb}
use Rattle.std.specs.Ordering.{int_eq}
use Rattle.std.specs.List.{list_any, IsDistinct, AllByRecursion}
use Rattle.std.proofs.lemmas.Map.Steps.{length-le_from_distinct_below}
use Rattle.std.proofs.lemmas.Bool.{eqb-true}
use Rattle.std.proofs.lemmas.Int.{ints}
use Rattle.spec_value.proofs.Entries.{first_holds, second_holds}
use Rattle.spec_value.proofs.Same.{integer_itself}
use Rattle.spec_world.specs.World.{Object, object_at}
use Rattle.spec_world.specs.WellFormed.{lists, once, passes, on_object}
use Rattle.spec_world.proofs.Trees.{other, either, first_of, second_of}
use Rattle.spec_world.proofs.WorldTrees.{of_all}
use Rattle.spec_values_kept.specs.UnderWay.{FewContained}

-- ---- different numbers that are not negative, below a bound

abbrev Below : ℕ → ℤ → Type 0
Below n p = IsTrue (int_le (pos 0) p) × (nat_abs p < n)

apart : (n : ℕ) (p q : ℤ) → Below n p → Below n q → int_eq p q ≡ false → eqb (nat_abs p) (nat_abs q) ≡ false
apart n (pos a) (pos b) h k e = go (eqb a b) refl
  where
    go : (t : Bool) → eqb a b ≡ t → eqb a b ≡ false
    go false s = s
    go true s = absurd (other (pos a) (pos b) e (ap pos (eqb-true a b s)))
apart n (negsuc a) q h k e = absurd (cc (h.0))
apart n (pos a) (negsuc b) h k e = absurd (cc (k.0))

first_not : (a b : Bool) → not (a || b) ≡ true → a ≡ false
first_not true b e = cc
first_not false b e = refl

second_not : (a b : Bool) → not (a || b) ≡ true → not b ≡ true
second_not true b e = cc
second_not false b e = e

apart_from : (n : ℕ) (p : ℤ) (ps : List ℤ) → Below n p → IsTrue (not (lists ps p)) → ((q : ℤ) → IsTrue (lists ps q) → Below n q)
    → AllByRecursion (λ y. eqb (nat_abs p) y ≡ false) (map nat_abs ps)
apart_from n p [] h k each = tt
apart_from n p (q ∷ ps) h k each = (
  apart n p q h (each q (first_of (int_eq q q) _ (integer_itself q))) (first_not (int_eq p q) _ k),
  apart_from n p ps h (second_not (int_eq p q) _ k) (λ r l. each r (second_of (int_eq r q) _ l)),
)

distinct : (n : ℕ) (ps : List ℤ) → IsTrue (once ps) → ((q : ℤ) → IsTrue (lists ps q) → Below n q) → IsDistinct eqb (map nat_abs ps)
unfolding IsDistinct once
distinct n [] h each = tt
distinct n (p ∷ ps) h each = (
  apart_from n p ps (each p (first_of (int_eq p p) _ (integer_itself p))) (first_holds (not (lists ps p)) (once ps) h) (λ q l. each q (second_of (int_eq q p) _ l)),
  distinct n ps (second_holds (not (lists ps p)) (once ps) h) (λ q l. each q (second_of (int_eq q p) _ l)),
)

below_there : (n q : ℕ) (ps : List ℤ) → ((p : ℤ) → IsTrue (lists ps p) → Below n p) → list_any (eqb q) (map nat_abs ps) ≡ true → q < n
below_there n q [] each h = cc
below_there n q (p ∷ ps) each h = go (below_there n q ps (λ r l. each r (second_of (int_eq r p) _ l))) (either (eqb q (nat_abs p)) _ h)
  where
    go : (list_any (eqb q) (map nat_abs ps) ≡ true → q < n) → IsTrue (eqb q (nat_abs p)) ⊎ IsTrue (list_any (eqb q) (map nat_abs ps)) → q < n
    go later (inl e) = subst (λ m. m < n) (sym (eqb-true q (nat_abs p) e)) (each p (first_of (int_eq p p) _ (integer_itself p))).1
    go later (inr e) = later e

same_length : (xs : List ℤ) → length (map nat_abs xs) ≡ length xs
same_length [] = refl
same_length (x ∷ xs) = ap suc (same_length xs)

few_below : (n : ℕ) (ps : List ℤ) → IsTrue (once ps) → ((p : ℤ) → IsTrue (lists ps p) → Below n p) → length ps ≤ n
few_below n ps h each =
    let l : length (map nat_abs ps) ≤ n = length-le_from_distinct_below (map nat_abs ps) n (distinct n ps h each) (λ q k. below_there n q ps each k) in
    subst (λ m. m ≤ n) (same_length ps) l

-- ---- objects

number_below : (c g : ℤ) → IsTrue (int_le (pos 0) c) → IsTrue (int_le c g) → IsTrue (int_le g (pos 999999)) → Below 1000000 c
number_below (pos n) g h k l = (h, omega (arith, ints, k, l))
number_below (negsuc n) g h k l = absurd (cc (h))

pub few_contained : FewContained
few_contained w h o x e =
    let agree = h.contents o x e in
    let l : length x.contents ≤ 1000000 =
    few_below 1000000 x.contents (first_holds (once x.contents) _ agree) (λ c k. there c (of_all (λ d. on_object w d (λ y. int_eq y.header.location o)) x.contents (second_holds (once x.contents) _ agree) c k)) in
    omega (arith, l)
  where
    there : (c : ℤ) → IsTrue (on_object w c (λ y. int_eq y.header.location o)) → Below 1000000 c
    there c k = go (object_at w c) refl k
      where
        go : (m : Option Object) → object_at w c ≡ m → IsTrue (passes m (λ y. int_eq y.header.location o)) → Below 1000000 c
        go None i j = cc
        go (Some y) i j =
            let number = h.numbers c y i in
            number_below c w.greatest (first_holds (int_le (pos 0) c) _ number) (second_holds (int_le (pos 0) c) _ number) (second_holds _ (int_le w.greatest (pos 999999)) h.greatest_in_range)
