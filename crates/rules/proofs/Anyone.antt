-- Whether one below an object passes a test: those listed are asked, and no others.
use Rattle.std.proofs.Common.{◌≡◌, ◌⊎◌, inl, inr, ℤ, Bool, true, false, ◌&&◌, ◌||◌, List, [], ◌∷◌, Option, Some, None, sym, ◌∙◌, subst, refl, IsTrue}
use Rattle.std.specs.Ordering.{int_eq}
use Rattle.std.specs.List.{list_any}
use Rattle.spec_value.proofs.Entries.{both_hold}
use Rattle.spec_value.proofs.Same.{same_integer, integer_itself}
use Rattle.spec_world.specs.World.{World, Object, object_at}
use Rattle.spec_world.specs.WellFormed.{lists, passes, on_object}
use Rattle.spec_world.specs.Agreeing.{ObjectsAgree}
use Rattle.spec_world.specs.Families.{is_below}
use Rattle.spec_world.proofs.PropertyChanges.{none_passes}
use Rattle.spec_world.proofs.Recycling.{none_found}
use Rattle.spec_world.proofs.Trees.{either, first_of, second_of}
use Rattle.rules.specs.Below.{IsFamily}

abbrev pub any_of : World → (Object → Bool) → List ℤ → Bool
any_of w test [] = false
any_of w test (d ∷ ds) = on_object w d test || any_of w test ds

module _ (w : World) (sound : ObjectsAgree w) (o : ℤ) (ds : List ℤ) (all : IsFamily w o ds) (test : Object → Bool) where
  -- one that is listed and passes is below
  found : (es : List ℤ) → ((d : ℤ) → IsTrue (lists es d) → IsTrue (lists ds d)) → IsTrue (any_of w test es) → IsTrue (list_any (λ e. is_below w o e.0 && test e.1) w.objects)
  found [] more h = cc
  found (d ∷ es) more h = go (found es (λ e l. more e (second_of (int_eq e d) (lists es e) l))) (either (on_object w d test) (any_of w test es) h)
    where
      here : (m : Option Object) → object_at w d ≡ m → IsTrue (passes m test) → IsTrue (list_any (λ e. is_below w o e.0 && test e.1) w.objects)
      here None e k = cc
      here (Some x) e k = by (list_any (λ e. is_below w o e.0 && test e.1) w.objects) refl
        where
          by : (b : Bool) → list_any (λ e. is_below w o e.0 && test e.1) w.objects ≡ b → IsTrue b
          by true z = refl
          by false z =
              let none : (is_below w o d && test x) ≡ false = none_passes (λ q y. is_below w o q && test y) w.objects z d x e in
              let some : IsTrue (is_below w o d && test x) = both_hold (is_below w o d) (test x) (sym (all d) ∙ more d (first_of (int_eq d d) (lists es d) (integer_itself d))) k in
              sym none ∙ some

      go : (IsTrue (any_of w test es) → IsTrue (list_any (λ e. is_below w o e.0 && test e.1) w.objects)) → IsTrue (on_object w d test) ⊎ IsTrue (any_of w test es)
          → IsTrue (list_any (λ e. is_below w o e.0 && test e.1) w.objects)
      go later (inl k) = here (object_at w d) refl k
      go later (inr k) = later k

  -- one below that passes is listed
  listed : (es : List ℤ) (d : ℤ) (x : Object) → object_at w d ≡ Some x → IsTrue (test x) → IsTrue (lists es d) → IsTrue (any_of w test es)
  listed [] d x is k l = cc
  listed (e ∷ es) d x is k l = go (listed es d x is k) (either (int_eq d e) (lists es d) l)
    where
      go : (IsTrue (lists es d) → IsTrue (any_of w test es)) → IsTrue (int_eq d e) ⊎ IsTrue (lists es d) → IsTrue (any_of w test (e ∷ es))
      go later (inl m) =
          first_of (on_object w e test) (any_of w test es) (subst (λ z. IsTrue (on_object w z test)) (same_integer d e m) (subst (λ y. IsTrue (passes y test)) (sym is) k))
      go later (inr m) = second_of (on_object w e test) (any_of w test es) (later m)

  nobody : any_of w test ds ≡ false → (q : ℤ) (x : Object) → object_at w q ≡ Some x → (is_below w o q && test x) ≡ false
  nobody none q x is = by (is_below w o q) (test x) refl refl
    where
      by : (a b : Bool) → is_below w o q ≡ a → test x ≡ b → (a && b) ≡ false
      by true true under k = let clash : true ≡ false = sym (listed ds q x is k (all q ∙ under)) ∙ none in absurd (cc clash)
      by true false under k = refl
      by false b under k = refl

  pub any_is : any_of w test ds ≡ list_any (λ e. is_below w o e.0 && test e.1) w.objects
  any_is = go (any_of w test ds) refl
    where
      go : (b : Bool) → any_of w test ds ≡ b → any_of w test ds ≡ list_any (λ e. is_below w o e.0 && test e.1) w.objects
      go true e = e ∙ sym (found ds (λ d l. l) e)
      go false e = e ∙ sym (none_found (λ q x. is_below w o q && test x) w.objects sound.objects_in_order (nobody e))
