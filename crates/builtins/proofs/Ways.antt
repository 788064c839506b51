-- From an object to the place that it is in, and so on; and an object that goes from one place to another.
use Rattle.std.proofs.Common.{◌≡◌, ℕ, zero, suc, ◌<◌, ◌≤◌, ℤ, Bool, true, false, ◌||◌, List, [], ◌∷◌, length, Option, Some, None, Result, Ok, Err, OnOk, refl, sym, ap, ◌∙◌, subst, arith}
use Rattle.std.specs.Prelude.{option_map}
use Rattle.std.specs.Ordering.{int_eq}
use Rattle.spec_world.specs.World.{World, Header, Object, object_at}
use Rattle.spec_world.specs.Inherit.{line_bound}
use Rattle.spec_world.specs.Agreeing.{ObjectsAgree}
use Rattle.spec_world.specs.Naming.{location_of}
use Rattle.spec_world.specs.Families.{change_object, out_of_place}
use Rattle.spec_world.specs.Whereabouts.{in_within, is_inside, put_into, moved}
use Rattle.spec_world.proofs.Trees.{Node, Path, path_from, some_same, first_of}
use Rattle.spec_world.proofs.WorldTrees.{places, object_there, object_none, short}
use Rattle.spec_world.proofs.Households.{household}
use Rattle.spec_world.specs.Questions.{header_at}
use Rattle.rules.specs.Lines.{AreAgreeing}
use Rattle.rules.specs.Standing.{IsStanding}
use Rattle.rules.proofs.ObjectsStand.{moved_stands}
use Rattle.view.specs.Law.{Goes, Tells}
use Rattle.builtins.proofs.BuiltinsObjectsRowsKeep.{present}
use Rattle.builtins.specs.Moves.{MayMove}

-- ---- from place to place

abbrev where_is : Object → ℤ
where_is x = x.header.location

abbrev inside_of : Object → List ℤ
inside_of x = x.contents

abbrev one_more : (ℤ → ℕ) → Option Object → ℕ
one_more beyond None = 0
one_more beyond (Some x) = suc (beyond x.header.location)

unfoldable pub places_within : ℕ → World → ℤ → ℕ
places_within zero w o = 0
places_within (suc n) w o = one_more (places_within n w) (object_at w o)

-- how many objects are on the way out of all places: an object, the place that it is in, and so on
unfoldable pub places_ahead : World → ℤ → ℕ
places_ahead w o = places_within (line_bound w) w o

counted : (w : World) (n : ℕ) (q : ℤ) (ps : List ℤ) → Path (places w) q ps → length ps ≤ n → places_within n w q ≡ length ps
unfolding places_within
counted w zero q [] h le = refl
counted w zero q (p ∷ ps) h le = absurd (omega (arith, le))
counted w (suc n) q [] h le = ap (one_more (places_within n w)) (object_none where_is inside_of w q h)
counted w (suc n) q (p ∷ ps) h le =
    let x = object_there where_is inside_of w q h.1.0 h.1.1 in
    ap (one_more (places_within n w)) x.1 ∙ ap suc (counted w n x.0.header.location ps (subst (λ (y : Node). Path (places w) y.0 ps) x.2 h.1.2) (omega (arith, le)))

ahead_is : (w : World) → ObjectsAgree w → (q : ℤ) (ps : List ℤ) → Path (places w) q ps → places_ahead w q ≡ length ps
unfolding places_ahead
ahead_is w sound q ps h = counted w (line_bound w) q ps h (short where_is inside_of w sound.numbers q ps h)

either_false : (b : Bool) → (b || false) ≡ b
either_false true = refl
either_false false = refl

at_end : (w : World) (what q : ℤ) (n : ℕ) → object_at w q ≡ None → in_within n w what q ≡ int_eq what q
unfolding in_within
at_end w what q zero e = refl
at_end w what q (suc n) e = rw e (either_false (int_eq what q))

-- no more places are looked at than there are
steady : (w : World) (what q : ℤ) (n m : ℕ) (ps : List ℤ) → Path (places w) q ps → length ps ≤ n → length ps ≤ m → in_within n w what q ≡ in_within m w what q
unfolding in_within
steady w what q n m [] h a b = let e = object_none where_is inside_of w q h in at_end w what q n e ∙ sym (at_end w what q m e)
steady w what q zero m (p ∷ ps) h a b = absurd (omega (arith, a))
steady w what q (suc n) zero (p ∷ ps) h a b = absurd (omega (arith, b))
steady w what q (suc n) (suc m) (p ∷ ps) h a b =
    let x = object_there where_is inside_of w q h.1.0 h.1.1 in
    let onward : Path (places w) x.0.header.location ps = subst (λ (y : Node). Path (places w) y.0 ps) x.2 h.1.2 in
    rw x.1 (ap (λ z. int_eq what q || z) (steady w what x.0.header.location n m ps onward (omega (arith, a)) (omega (arith, b))))

-- the place is the object
pub met : (w : World) (what at : ℤ) → int_eq what at ≡ true → is_inside w what at ≡ true
unfolding in_within
met w what at here = go (line_bound w)
  where
    go : (k : ℕ) → in_within k w what at ≡ true
    go zero = here
    go (suc k) = first_of (int_eq what at) _ here

gone : (m : Option Object) → option_map (λ x. x.header) m ≡ None → m ≡ None
gone None e = refl
gone (Some x) e = cc

-- it is no place
pub left_out : (w : World) (what at : ℤ) → int_eq what at ≡ false → header_at w at ≡ None → is_inside w what at ≡ false
left_out w what at far none = at_end w what at (line_bound w) (gone (object_at w at) none) ∙ far

-- it is another one, and is in a place itself
pub further : (w : World) → ObjectsAgree w → (what at : ℤ) (h : Header) → int_eq what at ≡ false → header_at w at ≡ Some h
    → (is_inside w what at ≡ is_inside w what h.location) × (places_ahead w h.location < places_ahead w at)
unfolding in_within
further w sound what at h far there = go (object_at w at) refl there
  where
    way : (ps : List ℤ) × Path (places w) at ps
    way = path_from (places w) (household w sound).whereabouts at

    within : (x : Object) (ps : List ℤ) → object_at w at ≡ Some x → Path (places w) x.header.location ps → (n : ℕ) → suc (length ps) ≤ n
        → in_within n w what at ≡ in_within n w what x.header.location
    within x ps is onward zero le = absurd (omega (arith, le))
    within x ps is onward (suc n) le =
        let once : in_within (suc n) w what at ≡ in_within n w what x.header.location = rw (far, is) refl in
        once ∙ steady w what x.header.location n (suc n) ps onward (omega (arith, le)) (omega (arith, le))

    on : (x : Object) → object_at w at ≡ Some x → (ps : List ℤ) → Path (places w) at ps
        → (is_inside w what at ≡ is_inside w what x.header.location) × (places_ahead w x.header.location < places_ahead w at)
    on x is [] p = let none : object_at w at ≡ None = object_none where_is inside_of w at p in absurd (cc (sym none ∙ is))
    on x is (r ∷ ps) p =
        let y = object_there where_is inside_of w at p.1.0 p.1.1 in
        let same : y.0 ≡ x = some_same (sym y.1 ∙ is) in
        let onward : Path (places w) x.header.location ps = subst (λ (z : Object). Path (places w) z.header.location ps) same (subst (λ (n : Node). Path (places w) n.0 ps) y.2 p.1.2) in
        let le : length (r ∷ ps) ≤ line_bound w = short where_is inside_of w sound.numbers at (r ∷ ps) p in
        let near : places_ahead w x.header.location ≡ length ps = ahead_is w sound x.header.location ps onward in
        let here : places_ahead w at ≡ length (r ∷ ps) = ahead_is w sound at (r ∷ ps) p in
        (within x ps is onward (line_bound w) le, omega (arith, near, here))

    go : (m : Option Object) → object_at w at ≡ m → option_map (λ x. x.header) m ≡ Some h
        → (is_inside w what at ≡ is_inside w what h.location) × (places_ahead w h.location < places_ahead w at)
    go None is e = cc
    go (Some x) is e =
        subst (λ (i : Header). (is_inside w what at ≡ is_inside w what i.location) × (places_ahead w i.location < places_ahead w at)) (some_same e) (on x is way.0 way.1)

-- the way out grows shorter by a call that changes nothing
pub nearer_told : {V : Type 0} (holds : V → World → Type 0) (now : V → World → World) (home : V → World) (a b : V) (P : World → Type 0) (p q : ℤ) → AreAgreeing holds now a → Tells holds now a b P
    → holds b (home b) → home b ≡ home a → ((w : World) → ObjectsAgree w → P w → places_ahead w p < places_ahead w q) → places_ahead (now b (home b)) p < places_ahead (now a (home a)) q
nearer_told holds now home a b P p q known told left same so =
    let t = told (home b) left in
    subst (λ (h : World). places_ahead (now b (home b)) p < places_ahead (now a h) q) same
    (subst (λ (u : World). places_ahead u p < places_ahead (now a (home b)) q) (sym t.1.0) (so (now a (home b)) (known (home b) t.0).objects t.1.1))

-- ---- where an object is

pub location_told : {V : Type 0} (holds : V → World → Type 0) (now : V → World → World) (a b : V) (o : ℤ) (h : Header) → Tells holds now a b (λ w. header_at w o ≡ Some h)
    → Tells holds now a b (λ w. location_of (object_at w o) ≡ h.location)
location_told holds now a b o h told w left = let t = told w left in (t.0, (t.1.0, go (object_at (now a w) o) t.1.1))
  where
    go : (m : Option Object) → option_map (λ x. x.header) m ≡ Some h → location_of m ≡ h.location
    go None e = cc
    go (Some x) e = ap (λ (k : Header). k.location) (some_same e)

-- ---- the move

module _ {V A E : Type 0} (holds : V → World → Type 0) (now : V → World → World) (a : V) (what before place : ℤ) where
  pub went_told : (b c d : V) (r : Result A E) → ((w : World) → holds a w → location_of (object_at (now a w) what) ≡ before)
      → Goes holds now a b (λ was is. is ≡ out_of_place was before what) → Goes holds now b c (λ was is. is ≡ change_object was what (λ x. record x { header = record (x.header) { location = place } }))
      → OnOk r (Goes holds now c d (λ was is. is ≡ put_into was what place)) → OnOk r (Goes holds now a d (λ was is. is ≡ moved was what place))
  unfolding moved
  went_told b c d (Err x) at first second third = tt
  went_told b c d (Ok x) at first second third = λ w left.
      let t = third w left in
      let u = second w t.0 in
      let v = first w u.0 in (
        v.0,
        t.1 ∙ ap (λ y. put_into y what place) (u.1 ∙ ap (λ y. change_object y what (λ x. record x { header = record (x.header) { location = place } }))
            (v.1 ∙ ap (λ p. out_of_place (now a w) p what) (sym (at w v.0)))),
      )

  pub went_well : (d : V) (r : Result A E) → AreAgreeing holds now a → ((w : World) → holds a w → MayMove (now a w) what place)
      → OnOk r (Goes holds now a d (λ was is. is ≡ moved was what place)) → OnOk r (AreAgreeing holds now d)
  went_well d (Err x) known may told = tt
  went_well d (Ok x) known may told = λ w left.
      let t = told w left in
      let h = known w t.0 in
      let m = may w t.0 in
      let o = present (object_at (now a w) what) m.there in
      subst IsStanding (sym t.1) (moved_stands (now a w) what place o.0 h o.1 m.at_place m.outside)
