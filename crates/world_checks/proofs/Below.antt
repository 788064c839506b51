-- Places of objects among those below the one above.
use Rattle.std.proofs.Common.{◌≡◌, ◌⊎◌, inl, inr, ◌∙◌, refl, sym, ap, subst, ℕ, ◌+◌, ◌<◌, ◌≤◌, ℤ, Bool, true, false, List, [], ◌∷◌, length, Option, Some, None, IsTrue, arith}
use Rattle.std.specs.Prelude.{slice_get}
use Rattle.std.specs.Ordering.{int_eq}
use Rattle.std.specs.List.{list_all}
use Rattle.std.proofs.lemmas.Option.{slice_get_within}
use Rattle.spec_value.proofs.Entries.{first_holds, second_holds, both_hold}
use Rattle.spec_value.proofs.Same.{same_integer}
use Rattle.spec_world.specs.World.{World, Object, object_at}
use Rattle.spec_world.specs.WellFormed.{lists, once, passes, on_object}
use Rattle.spec_world.proofs.Trees.{some_same, either}
use Rattle.world_checks.specs.Marks.{mark_of, may_mark, Placed}
use Rattle.world_checks.specs.Guessed.{AllMarked, AllListed, KeptBeside, BelowAgree, AllPlaced, PlacedBelow}
use Rattle.world_checks.specs.Ways.{up_of, down_of}
use Rattle.world_checks.specs.declared.object_checks.way.Way.{Way}
use Rattle.world_checks.proofs.Placed.{place_of, listed_at}
use Rattle.world_checks.proofs.Climbing.{below_or}

module _ (way : Way) (w : World) where
  passing : (y : Option Object) (o : ℤ) → IsTrue (passes y (λ x. int_eq (up_of way x) o)) → (x : Object) × (y ≡ Some x) × (up_of way x ≡ o)
  passing None o h = cc
  passing (Some x) o h = (x, refl, same_integer (up_of way x) o h)

  one_below : (o c : ℤ) (cs : List ℤ) → IsTrue (list_all (λ d. on_object w d (λ y. int_eq (up_of way y) o)) cs) → IsTrue (lists cs c)
      → (z : Object) × (object_at w c ≡ Some z) × (up_of way z ≡ o)
  one_below o c [] h is = cc
  one_below o c (d ∷ cs) h is = go (one_below o c cs (second_holds (on_object w d (λ y. int_eq (up_of way y) o)) _ h)) (either (int_eq c d) _ is)
    where
      go : (IsTrue (lists cs c) → (z : Object) × (object_at w c ≡ Some z) × (up_of way z ≡ o)) → IsTrue (int_eq c d) ⊎ IsTrue (lists cs c) → (z : Object) × (object_at w c ≡ Some z) × (up_of way z ≡ o)
      go later (inl e) =
          let r = passing (object_at w d) o (first_holds (on_object w d (λ y. int_eq (up_of way y) o)) _ h) in
          (r.0, ap (object_at w) (same_integer c d e) ∙ r.1, r.2)
      go later (inr e) = later e

  below_of : BelowAgree way w → (o : ℤ) (x : Object) → object_at w o ≡ Some x → (c : ℤ) → IsTrue (lists (down_of way x) c)
      → (z : Object) × (object_at w c ≡ Some z) × (up_of way z ≡ o)
  below_of agree o x e c h = one_below o c (down_of way x) (second_holds (once (down_of way x)) _ (agree o x e)) h

  all_marked : AllMarked w → (o : ℤ) (cs : List ℤ) → IsTrue (list_all (λ d. on_object w d (λ y. int_eq (up_of way y) o)) cs) → IsTrue (list_all may_mark cs)
  all_marked may o [] h = refl
  all_marked may o (d ∷ cs) h =
      let r = passing (object_at w d) o (first_holds (on_object w d (λ y. int_eq (up_of way y) o)) _ h) in
      both_hold (may_mark d) _ (may d r.0 r.1) (all_marked may o cs (second_holds (on_object w d (λ y. int_eq (up_of way y) o)) _ h))

  pub placed_one : (was is : List ℕ × List ℕ) (o : ℤ) (x : Object) → object_at w o ≡ Some x → AllMarked w → BelowAgree way w
      → (IsTrue (once (down_of way x)) → IsTrue (list_all may_mark (down_of way x)) → Placed is (down_of way x)) → KeptBeside (down_of way x) was is
      → PlacedBelow way w was is o
  placed_one was is o x at may agree put others =
      record { placed = λ y e. subst (λ z. Placed is (down_of way z)) (some_same (sym at ∙ e)) here; kept = kept }
    where
      here : Placed is (down_of way x)
      here =
          put (first_holds (once (down_of way x)) _ (agree o x at))
          (all_marked may o (down_of way x) (second_holds (once (down_of way x)) _ (agree o x at)))

      kept : (p : ℤ) (y : Object) → object_at w p ≡ Some y → Placed was (down_of way y) → Placed is (down_of way y)
      kept p y e before k c on = go (lists (down_of way x) c) refl
        where
          mine : IsTrue (lists (down_of way y) c)
          mine = listed_at (down_of way y) k c on

          go : (b : Bool) → lists (down_of way x) c ≡ b → mark_of is c ≡ k
          go false h = others c h ∙ before k c on
          go true h =
              let r = below_of agree o x at c h in
              let s = below_of agree p y e c mine in
              let same : o ≡ p = sym r.2 ∙ ap (up_of way) (some_same (sym r.1 ∙ s.1)) ∙ s.2 in
              let those : x ≡ y = some_same (sym at ∙ ap (object_at w) same ∙ e) in
              here k c (subst (λ z. slice_get (down_of way z) k ≡ Some c) (sym those) on)

  pub placed_none : (m : List ℕ × List ℕ) (o : ℤ) → object_at w o ≡ None → PlacedBelow way w m m o
  placed_none m o none = record { placed = λ x e. let clash : None ≡ Some x = sym none ∙ e in absurd (cc (clash)); kept = λ p x e h. h }

  -- ---- all of a list

  abbrev pub PlacedTo : List ℤ → List ℕ × List ℕ → ℕ → Type 0
  PlacedTo numbers m count = (k : ℕ) (o : ℤ) (x : Object) → k < count → slice_get numbers k ≡ Some o → object_at w o ≡ Some x → Placed m (down_of way x)

  pub more_placed : (numbers : List ℤ) (was is : List ℕ × List ℕ) (count : ℕ) (from : ℤ) → slice_get numbers count ≡ Some from → PlacedBelow way w was is from
      → PlacedTo numbers was count → PlacedTo numbers is (count + 1)
  more_placed numbers was is count from at p before k o x lt on e = go (below_or k count lt)
    where
      go : (k < count) ⊎ (k ≡ count) → Placed is (down_of way x)
      go (inl small) = p.kept o x e (before k o x small on e)
      go (inr same) =
          let is_from : from ≡ o = some_same (sym at ∙ ap (slice_get numbers) (sym same) ∙ on) in
          p.placed x (ap (object_at w) is_from ∙ e)

  pub all_placed : (numbers : List ℤ) (m : List ℕ × List ℕ) (count : ℕ) → AllListed w numbers → length numbers ≤ count → PlacedTo numbers m count → AllPlaced way w m
  all_placed numbers m count all le h o x e =
      let p = place_of numbers o (all o x e) in
      h p.0 o x (let lt = slice_get_within numbers p.0 o p.1 in omega (arith, lt, le)) p.1 e
