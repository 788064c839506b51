-- How many objects there are from one upwards, along a way that ends.
use Rattle.std.proofs.Common.{◌≡◌, ◌⊎◌, inl, inr, ◌∙◌, refl, sym, ap, ℕ, zero, suc, ◌+◌, ◌-◌, ◌≤◌, ℤ, Bool, true, false, ◌&&◌, List, [], ◌∷◌, length, Option, Some, None, cond, IsTrue, is_none, nat_le, arith}
use Rattle.std.specs.Ordering.{int_eq}
use Rattle.std.proofs.lemmas.Bool.Decides.{nat_tests}
use Rattle.spec_value.proofs.Same.{same_integer}
use Rattle.spec_world.specs.World.{World, Object, object_at}
use Rattle.spec_world.specs.Inherit.{line_bound}
use Rattle.spec_world.specs.WellFormed.{OfEachObject, ends_above, comes_out, lists}
use Rattle.spec_world.specs.Locally.{ends_along}
use Rattle.spec_world.proofs.Trees.{either}
use Rattle.world_checks.specs.Guessed.{IsDepth, AllListed}
use Rattle.world_checks.specs.Ways.{up_of}
use Rattle.world_checks.specs.declared.object_checks.way.Way.{Way}

-- ---- there is one

one_above : Option Object → (Object → ℕ) → ℕ
one_above None more = 0
one_above (Some x) more = suc (more x)

module _ (up : Object → ℤ) (w : World) where
  counted : ℕ → ℤ → ℕ
  counted zero o = 0
  counted (suc n) o = one_above (object_at w o) (λ x. counted n (up x))

  none_counted : (n : ℕ) (o : ℤ) → object_at w o ≡ None → counted n o ≡ 0
  unfolding counted one_above
  none_counted zero o e = refl
  none_counted (suc n) o e = ap (λ y. one_above y (λ x. counted n (up x))) e

  -- as many as there are, and a further one is not looked for
  all_counted : (n : ℕ) (o : ℤ) → IsTrue (comes_out up n w o) → counted n o ≡ counted (suc n) o
  unfolding counted one_above comes_out
  all_counted zero o h = go (object_at w o) h
    where
      go : (y : Option Object) → IsTrue (is_none y) → 0 ≡ one_above y (λ x. counted 0 (up x))
      go None h = refl
      go (Some x) h = cc
  all_counted (suc n) o h = go (object_at w o) h (λ x. all_counted n (up x))
    where
      go : (y : Option Object) → IsTrue (ends_above (comes_out up n w) up y) → ((x : Object) → IsTrue (comes_out up n w (up x)) → counted n (up x) ≡ counted (suc n) (up x))
          → one_above y (λ x. counted n (up x)) ≡ one_above y (λ x. counted (suc n) (up x))
      go None h later = refl
      go (Some x) h later = ap suc (later x h)

no_object : (y : Option Object) → IsTrue (is_none y) → y ≡ None
no_object None h = refl
no_object (Some x) h = cc

pub depth_along : (way : Way) (w : World) → OfEachObject w (ends_along (up_of way)) → (depth : ℤ → ℕ) × IsDepth way w depth
unfolding counted one_above
depth_along way w ends = (
  counted (up_of way) w (line_bound w),
  record {
    none = λ o h. none_counted (up_of way) w (line_bound w) o (no_object (object_at w o) h);
    one_more = λ o x e. all_counted (up_of way) w (line_bound w) o (ends o x e) ∙ here o x e;
  },
)
  where
    here : (o : ℤ) (x : Object) → object_at w o ≡ Some x → counted (up_of way) w (suc (line_bound w)) o ≡ suc (counted (up_of way) w (line_bound w) (up_of way x))
    here o x e = ap (λ y. one_above y (λ z. counted (up_of way) w (line_bound w) (up_of way z))) e

-- ---- there are no more than numbers of objects

module _ (way : Way) (w : World) (depth : ℤ → ℕ) (is : IsDepth way w depth) where
  object_or_not : (o : ℤ) → ((x : Object) × (object_at w o ≡ Some x)) ⊎ (object_at w o ≡ None)
  object_or_not o = go (object_at w o) refl
    where
      go : (y : Option Object) → object_at w o ≡ y → ((x : Object) × (object_at w o ≡ Some x)) ⊎ (object_at w o ≡ None)
      go None e = inr e
      go (Some x) e = inl (x, e)

  pub no_depth : (o : ℤ) → object_at w o ≡ None → depth o ≡ 0
  no_depth o e = is.none o (ap is_none e)

  -- above one of some depth there is one of each lower depth
  level : (d n : ℕ) (o : ℤ) → depth o ≡ suc n + d → (p : ℤ) × (x : Object) × (object_at w p ≡ Some x) × (depth p ≡ suc n)
  level zero n o e = go (object_or_not o)
    where
      go : ((x : Object) × (object_at w o ≡ Some x)) ⊎ (object_at w o ≡ None) → (p : ℤ) × (x : Object) × (object_at w p ≡ Some x) × (depth p ≡ suc n)
      go (inr none) = absurd (let zero_there = no_depth o none in omega (arith, zero_there, e))
      go (inl x) = (o, x.0, x.1, e ∙ omega arith)
  level (suc d) n o e = go (level d n) (object_or_not o)
    where
      go : ((q : ℤ) → depth q ≡ suc n + d → (p : ℤ) × (x : Object) × (object_at w p ≡ Some x) × (depth p ≡ suc n)) → ((x : Object) × (object_at w o ≡ Some x)) ⊎ (object_at w o ≡ None)
          → (p : ℤ) × (x : Object) × (object_at w p ≡ Some x) × (depth p ≡ suc n)
      go above (inr none) = absurd (let zero_there = no_depth o none in omega (arith, zero_there, e))
      go above (inl x) = above (up_of way x.0) (let more = is.one_more o x.0 x.1 in omega (arith, more, e))

  within : ℕ → ℤ → Bool
  within n o = nat_le 1 (depth o) && nat_le (depth o) n

  how_many : ℕ → List ℤ → ℕ
  how_many n [] = 0
  how_many n (o ∷ os) = cond (within n o) 1 0 + how_many n os

  no_more : (n : ℕ) (os : List ℤ) → how_many n os ≤ length os
  unfolding how_many
  no_more n [] = omega arith
  no_more n (o ∷ os) = go (within n o) (no_more n os)
    where
      go : (b : Bool) → how_many n os ≤ length os → cond b 1 0 + how_many n os ≤ suc (length os)
      go true h = omega arith
      go false h = omega arith

  was_within : (n : ℕ) (o : ℤ) → IsTrue (within n o) → IsTrue (within (suc n) o)
  unfolding within
  was_within n o h = grind (arith, nat_tests)

  still : (n : ℕ) (os : List ℤ) → how_many n os ≤ how_many (suc n) os
  unfolding how_many
  still n [] = omega arith
  still n (o ∷ os) = go (within n o) (within (suc n) o) (was_within n o) (still n os)
    where
      go : (b c : Bool) → (IsTrue b → IsTrue c) → how_many n os ≤ how_many (suc n) os → cond b 1 0 + how_many n os ≤ cond c 1 0 + how_many (suc n) os
      go true true f h = omega arith
      go true false f h = absurd (cc (f refl))
      go false true f h = omega arith
      go false false f h = omega arith

  here_not : (n : ℕ) (o : ℤ) → depth o ≡ suc n → (within n o ≡ false) × (within (suc n) o ≡ true)
  unfolding within
  here_not n o e = (grind (arith, nat_tests), grind (arith, nat_tests))

  one_more_there : (n : ℕ) (os : List ℤ) (p : ℤ) → IsTrue (lists os p) → depth p ≡ suc n → suc (how_many n os) ≤ how_many (suc n) os
  unfolding how_many
  one_more_there n [] p h e = cc
  one_more_there n (o ∷ os) p h e = go (either (int_eq p o) _ h) (one_more_there n os p)
    where
      here : (b c : Bool) → b ≡ false → c ≡ true → how_many n os ≤ how_many (suc n) os → suc (cond b 1 0 + how_many n os) ≤ cond c 1 0 + how_many (suc n) os
      here true c f g h = cc
      here false true f g h = omega arith
      here false false f g h = cc

      later : (b c : Bool) → (IsTrue b → IsTrue c) → suc (how_many n os) ≤ how_many (suc n) os → suc (cond b 1 0 + how_many n os) ≤ cond c 1 0 + how_many (suc n) os
      later true true f h = omega arith
      later true false f h = absurd (cc (f refl))
      later false true f h = omega arith
      later false false f h = omega arith

      go : IsTrue (int_eq p o) ⊎ IsTrue (lists os p) → (IsTrue (lists os p) → depth p ≡ suc n → suc (how_many n os) ≤ how_many (suc n) os)
          → suc (cond (within n o) 1 0 + how_many n os) ≤ cond (within (suc n) o) 1 0 + how_many (suc n) os
      go (inl s) rest =
          let at : depth o ≡ suc n = ap depth (sym (same_integer p o s)) ∙ e in
          here (within n o) (within (suc n) o) (here_not n o at).0 (here_not n o at).1 (still n os)
      go (inr s) rest = later (within n o) (within (suc n) o) (was_within n o) (rest s e)

  each_level : (os : List ℤ) → AllListed w os → (n : ℕ) (o : ℤ) → n ≤ depth o → n ≤ how_many n os
  each_level os all zero o le = omega arith
  each_level os all (suc n) o le =
      let r = level (depth o - suc n) n o (omega arith) in
      let more = one_more_there n os r.0 (all r.0 r.1 r.2) r.3 in
      let before = each_level os all n o (omega arith) in
      omega (arith, more, before)

  pub depth_bound : (os : List ℤ) → AllListed w os → (o : ℤ) → depth o ≤ length os
  depth_bound os all o = let most = no_more (depth o) os in let least = each_level os all (depth o) o (omega arith) in omega (arith, most, least)
