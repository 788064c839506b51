-- A part of an object that was read and is written.
use Rattle.std.proofs.Common.{◌≡◌, ℤ, Option, Some, None, Result, Ok, Err, OnOk, refl, sym, ap, ◌∙◌}
use Rattle.std.specs.Prelude.{option_map}
use Rattle.spec_world.specs.World.{World, Object, object_at, with_object}
use Rattle.spec_world.specs.Families.{change_at, change_object, lose_child, add_child, put_below}
use Rattle.spec_world.proofs.Trees.{some_same}
use Rattle.view.specs.Law.{Goes, Tells}

module _ {X : Type 0} (get : Object → X) (put : X → Object → Object) where
  part_so : (w : World) (o : ℤ) (old new : X) (f : X → X) → new ≡ f old → option_map get (object_at w o) ≡ Some old
      → change_object w o (put new) ≡ change_object w o (λ x. put (f (get x)) x)
  part_so w o old new f is = go (object_at w o)
    where
      go : (m : Option Object) → option_map get m ≡ Some old → change_at w o (put new) m ≡ change_at w o (λ x. put (f (get x)) x) m
      go None e = refl
      go (Some x) e = ap (λ y. with_object w o (put y x)) (is ∙ ap f (sym (some_same e)))

  pub part_told : {V A E : Type 0} (holds : V → World → Type 0) (now : V → World → World) (a b c : V) (r : Result A E) (o : ℤ) (old new : X) (f : X → X) → new ≡ f old
      → Tells holds now a b (λ w. option_map get (object_at w o) ≡ Some old) → OnOk r (Goes holds now b c (λ was is. is ≡ change_object was o (put new)))
      → OnOk r (Goes holds now a c (λ was is. is ≡ change_object was o (λ x. put (f (get x)) x)))
  part_told holds now a b c (Err e) o old new f so asked told = tt
  part_told holds now a b c (Ok x) o old new f so asked told = λ w left.
      let t = told w left in
      let u = asked w t.0 in
      (u.0, t.1 ∙ ap (λ v. change_object v o (put new)) u.1.0 ∙ part_so (now a w) o old new f so u.1.1)

nothing_so : {X : Type 0} (get : Object → X) (w : World) (o : ℤ) (f : Object → Object) → option_map get (object_at w o) ≡ None → w ≡ change_object w o f
nothing_so get w o f = go (object_at w o)
  where
    go : (m : Option Object) → option_map get m ≡ None → w ≡ change_at w o f m
    go None e = refl
    go (Some x) e = cc

-- where the object is not there
pub nothing_told : {X V : Type 0} (get : Object → X) (holds : V → World → Type 0) (now : V → World → World) (a b : V) (o : ℤ) (f : Object → Object)
    → Tells holds now a b (λ w. option_map get (object_at w o) ≡ None) → Goes holds now a b (λ was is. is ≡ change_object was o f)
nothing_told get holds now a b o f asked w left = let t = asked w left in (t.0, t.1.0 ∙ nothing_so get (now a w) o f t.1.1)

-- from one parent to another
pub put_told : {V A E : Type 0} (holds : V → World → Type 0) (now : V → World → World) (a b c d : V) (r : Result A E) (o before parent : ℤ)
    → Goes holds now a b (λ was is. is ≡ lose_child was before o) → Goes holds now b c (λ was is. is ≡ change_object was o (λ x. record x { header = record (x.header) { parent = parent } }))
    → OnOk r (Goes holds now c d (λ was is. is ≡ add_child was parent o)) → OnOk r (Goes holds now a d (λ was is. is ≡ put_below was o before parent))
put_told holds now a b c d (Err x) o before parent first second third = tt
put_told holds now a b c d (Ok x) o before parent first second third = λ w left.
    let t = third w left in
    let u = second w t.0 in
    let v = first w u.0 in
    (v.0, t.1 ∙ ap (λ y. add_child y parent o) (u.1 ∙ ap (λ y. change_object y o (λ x. record x { header = record (x.header) { parent = parent } })) v.1))
