-- An object that inherits a slot, over a view.
use Rattle.std.proofs.Common.{◌≡◌, ℤ, true, Option, Some, None, Result, Ok, Err, OnOk, refl, sym, ap, ◌∙◌, is_some, is_none}
use Rattle.std.specs.Prelude.{option_map}
use Rattle.spec_value.specs.Datum.{Text}
use Rattle.spec_world.specs.World.{World, Header, Object, Slot, object_at, with_object}
use Rattle.spec_world.specs.Inherit.{slot_at, put_slot, with_slot}
use Rattle.spec_world.specs.Families.{change_at, change_object, heir_slot}
use Rattle.spec_world.specs.Members.{with_own_slot}
use Rattle.spec_world.proofs.Trees.{some_same}
use Rattle.spec_world.specs.Questions.{header_at}
use Rattle.view.specs.Law.{Goes, Tells}
use Rattle.builtins_view.specs.Heirs.{inherited}

heir_put : (w : World) (d : ℤ) (p : Text) (s : Slot) (h : Header) → header_at w d ≡ Some h
    → with_slot w d p (heir_slot h.owner s) ≡ change_object w d (λ x. with_own_slot x p (heir_slot x.header.owner s))
unfolding with_slot
heir_put w d p s h = go (object_at w d)
  where
    go : (m : Option Object) → option_map (λ x. x.header) m ≡ Some h → put_slot w d p (heir_slot h.owner s) m ≡ change_at w d (λ x. with_own_slot x p (heir_slot x.header.owner s)) m
    go None e = cc
    go (Some x) e = ap (λ (k : Header). with_object w d (with_own_slot x p (heir_slot k.owner s))) (sym (some_same e))

nothing_put : (w : World) (d : ℤ) (f : Object → Object) → header_at w d ≡ None → w ≡ change_object w d f
nothing_put w d f = go (object_at w d)
  where
    go : (m : Option Object) → option_map (λ x. x.header) m ≡ None → w ≡ change_at w d f m
    go None e = refl
    go (Some x) e = cc

module _ {V : Type 0} (holds : V → World → Type 0) (now : V → World → World) (a b c d : V) (o : ℤ) (p : Text) (s : Slot) where
  -- it has one
  pub had_told : (m : Option Slot) → is_some m ≡ true → Tells holds now a b (λ w. slot_at w o p ≡ m)
      → Goes holds now a b (λ was is. is ≡ inherited was o p s (slot_at was o p))
  had_told None e asked = cc
  had_told (Some t) e asked = λ w left. let u = asked w left in (u.0, u.1.0 ∙ ap (inherited (now a w) o p s) (sym u.1.1))

  -- it is not there
  pub gone_told : (m : Option Slot) → is_none m ≡ true → Tells holds now a b (λ w. slot_at w o p ≡ m) → Tells holds now b c (λ w. header_at w o ≡ None)
      → Goes holds now a c (λ was is. is ≡ inherited was o p s (slot_at was o p))
  gone_told (Some t) e asked there = cc
  gone_told None e asked there = λ w left.
      let v = there w left in
      let u = asked w v.0 in
      (u.0, v.1.0 ∙ nothing_put (now b w) o (λ x. with_own_slot x p (heir_slot x.header.owner s)) v.1.1 ∙ ap (λ y. inherited y o p s None) u.1.0 ∙ ap (inherited (now a w) o p s) (sym u.1.1))

  pub heir_told : {A E : Type 0} (r : Result A E) (m : Option Slot) (h : Header) → is_none m ≡ true → Tells holds now a b (λ w. slot_at w o p ≡ m)
      → Tells holds now b c (λ w. header_at w o ≡ Some h) → OnOk r (Goes holds now c d (λ was is. is ≡ with_slot was o p (heir_slot h.owner s)))
      → OnOk r (Goes holds now a d (λ was is. is ≡ inherited was o p s (slot_at was o p)))
  heir_told (Err x) m h e asked there told = tt
  heir_told (Ok x) (Some t) h e asked there told = cc
  heir_told (Ok x) None h e asked there told = λ w left.
      let t = told w left in
      let v = there w t.0 in
      let u = asked w v.0 in (
        u.0,
        t.1 ∙ ap (λ y. with_slot y o p (heir_slot h.owner s)) v.1.0 ∙ heir_put (now b w) o p s h v.1.1
            ∙ ap (λ y. inherited y o p s None) u.1.0 ∙ ap (inherited (now a w) o p s) (sym u.1.1),
      )
