-- A way upwards comes to no place twice, so it has no more places than there are.
use Rattle.std.proofs.Common.{◌≡◌, ◌<◌, ◌≤◌, ◌⊎◌, inl, inr, ℕ, Bool, true, false, List, [], ◌∷◌, length, get_or, Option, Some, None, refl, sym, ap, subst, ◌∙◌, cond, arith, eqb, eqb-true}
use Rattle.std.specs.List.{IsDistinct, AllByRecursion, list_any}
use Rattle.std.proofs.lemmas.Bool.{cases_Bool, or_cases}
use Rattle.std.proofs.lemmas.Map.Steps.{length-le_from_distinct_below}
use Rattle.upwards.specs.Ways.{IsWay, IsRight, own_nearest, first_filled, nearest_of, Says}
use Rattle.upwards.specs.declared.nearest.Upwards.{Upwards}
use Rattle.upwards.specs.declared.nearest.Nearest.TheVariants.{Unknown}
use Rattle.upwards.proofs.Ways.{one_way, way_place}

module _ (parents : List (Option ℕ)) where
  apart : (i : ℕ) (whole : List ℕ) → IsWay parents (Some i) whole → (o : Option ℕ) (is : List ℕ) → IsWay parents o is → length is < length whole → AllByRecursion (λ y. eqb i y ≡ false) is
  apart i whole h o [] l lt = tt
  apart i whole h o (j ∷ is) l lt = (go (cases_Bool (eqb i j)), apart i whole h (get_or parents j None) is l.2 (omega arith))
    where
      go : (eqb i j ≡ true) ⊎ (eqb i j ≡ false) → eqb i j ≡ false
      go (inr e) = e
      go (inl e) =
          let same : i ≡ j = eqb-true i j e in
          let again : IsWay parents (Some i) (j ∷ is) = (ap Some same, l.1, l.2) in
          let long : length whole ≡ length (j ∷ is) = ap length (one_way parents (Some i) whole (j ∷ is) h again) in
          absurd (omega (arith, long, lt))

  distinct : (o : Option ℕ) (is : List ℕ) → IsWay parents o is → IsDistinct eqb is
  unfolding IsDistinct
  distinct o [] l = tt
  distinct o (i ∷ is) l = (apart i (i ∷ is) (refl, l.1, l.2) (get_or parents i None) is l.2 (omega arith), distinct (get_or parents i None) is l.2)

  within : (o : Option ℕ) (is : List ℕ) → IsWay parents o is → (q : ℕ) → list_any (eqb q) is ≡ true → q < length parents
  within o [] l q h = cc
  within o (i ∷ is) l q h = go (or_cases (eqb q i) (list_any (eqb q) is) h) (within (get_or parents i None) is l.2 q)
    where
      go : (eqb q i ≡ true) ⊎ (list_any (eqb q) is ≡ true) → (list_any (eqb q) is ≡ true → q < length parents) → q < length parents
      go (inl e) later = subst (λ k. k < length parents) (sym (eqb-true q i e)) l.1
      go (inr e) later = later e

  pub short : (o : Option ℕ) (is : List ℕ) → IsWay parents o is → length is ≤ length parents
  short o is l = length-le_from_distinct_below is (length parents) (distinct o is l) (within o is l)

-- ---- what is known at first

pub right_at_first : (filled : List Bool) (u : Upwards) → length u.nearest.items ≡ length u.parents.items
    → ((k : ℕ) → k < length u.parents.items → get_or u.nearest.items k Unknown ≡ own_nearest k (get_or filled k false)) → IsRight filled u
right_at_first filled u count each =
    record { same = count; says = λ i lt. subst (Says filled u.parents.items i) (sym (each i lt)) (own i (get_or filled i false) refl) }
  where
    own : (i : ℕ) (b : Bool) → get_or filled i false ≡ b → Says filled u.parents.items i (own_nearest i b)
    own i false e = e
    own i true e = λ is l.
        let w = way_place u.parents.items i is l in
        sym (ap (λ ks. nearest_of (first_filled filled ks)) w.1.1 ∙ ap (λ c. nearest_of (cond c (Some i) (first_filled filled w.1.0))) e)
