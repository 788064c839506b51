-- What of a world does not change where a slot takes another value: all but what slots hold.
use Rattle.std.proofs.Common.{◌≡◌, ℕ, zero, suc, ℤ, Bool, true, false, List, [], ◌∷◌, ◌++◌, map, Option, Some, None, refl, sym, ap, ◌∙◌, subst, IsTrue, is_none}
use Rattle.std.specs.Prelude.{option_map}
use Rattle.spec_value.specs.Datum.{Text, fold_case}
use Rattle.spec_world.specs.World.{World, Object, object_at}
use Rattle.spec_world.specs.Inherit.{line_onto, line}
use Rattle.spec_world.specs.WellFormed.{passes, on_object, ends_above, comes_out, folded_names, defined_on, slot_names}

-- an object without its slots, and their names
abbrev pub Shape : Type 0
Shape = Object × List Text

abbrev pub shape : Object → Shape
shape x = (record x { slots = [] }, slot_names x)

abbrev pub Alike : World → World → Type 0
Alike w u = (q : ℤ) → option_map shape (object_at w q) ≡ option_map shape (object_at u q)

shape_or : Option Shape → Shape → Shape
shape_or None z = z
shape_or (Some y) z = y

module _ (w u : World) (alike : Alike w u) where
  -- what is there in the other world is there in this one
  pub there : (q : ℤ) (y : Object) → object_at u q ≡ Some y → (x : Object) × (object_at w q ≡ Some x) × (shape x ≡ shape y)
  unfolding shape_or
  there q y is = go (object_at w q) refl
    where
      go : (o : Option Object) → object_at w q ≡ o → (x : Object) × (object_at w q ≡ Some x) × (shape x ≡ shape y)
      go None e = let h : option_map shape None ≡ option_map shape (Some y) = ap (option_map shape) (sym e) ∙ alike q ∙ ap (option_map shape) is in absurd (cc (h))
      go (Some x) e =
          (x, e, ap (λ o. shape_or o (shape x)) (ap (option_map shape) (sym e) ∙ alike q ∙ ap (option_map shape) is))

  -- a test of shapes that passes here passes there
  pub carried : (q : ℤ) (y : Object) → object_at u q ≡ Some y → (test other : Shape → Bool) → ((z : Shape) → test z ≡ other z)
      → ((x : Object) → object_at w q ≡ Some x → IsTrue (test (shape x))) → IsTrue (other (shape y))
  carried q y is test other same holds =
      let t = there q y is in subst (λ z. IsTrue (other z)) t.2 (sym (same (shape t.0)) ∙ holds t.0 t.1)

  -- what looks at the shape alone
  pub by_shape : {A : Type 0} (g : Option Object → A) (h : Option Shape → A) → ((o : Option Object) → g o ≡ h (option_map shape o)) → (q : ℤ) → g (object_at w q) ≡ g (object_at u q)
  by_shape g h e q = e (object_at w q) ∙ ap h (alike q) ∙ sym (e (object_at u q))

  pub on_same : (f : Object → Bool) → ((x : Object) → f x ≡ f (shape x).0) → (c : ℤ) → on_object w c f ≡ on_object u c f
  on_same f respects c = by_shape (λ o. passes o f) of_shape same c
    where
      of_shape : Option Shape → Bool
      of_shape None = false
      of_shape (Some z) = f z.0

      same : (o : Option Object) → passes o f ≡ of_shape (option_map shape o)
      same None = refl
      same (Some x) = respects x

  pub comes_same : (up : Object → ℤ) → ((x : Object) → up x ≡ up (shape x).0) → (n : ℕ) (q : ℤ) → comes_out up n w q ≡ comes_out up n u q
  unfolding comes_out
  comes_same up respects zero q = by_shape is_none is_none same q
    where
      same : (o : Option Object) → is_none o ≡ is_none (option_map shape o)
      same None = refl
      same (Some x) = refl
  comes_same up respects (suc n) q = (λ i. ends_above (λ z. comes_same up respects n z i) up (object_at w q)) ∙ by_shape (ends_above (comes_out up n u) up) of_shape same q
    where
      of_shape : Option Shape → Bool
      of_shape None = true
      of_shape (Some z) = comes_out up n u (up z.0)

      same : (o : Option Object) → ends_above (comes_out up n u) up o ≡ of_shape (option_map shape o)
      same None = refl
      same (Some x) = ap (comes_out up n u) (respects x)

  pub line_same : (n : ℕ) (q : ℤ) → line n w q ≡ line n u q
  unfolding line
  line_same zero q = refl
  line_same (suc n) q = (λ i. line_onto (λ z. line_same n z i) q (object_at w q)) ∙ by_shape (line_onto (line n u) q) of_shape same q
    where
      of_shape : Option Shape → List ℤ
      of_shape None = []
      of_shape (Some z) = q ∷ line n u (z.0).header.parent

      same : (o : Option Object) → line_onto (line n u) q o ≡ of_shape (option_map shape o)
      same None = refl
      same (Some x) = refl

  pub defined_same : (os : List ℤ) → defined_on w os ≡ defined_on u os
  unfolding defined_on
  defined_same [] = refl
  defined_same (o ∷ os) = λ i. by_shape folded_names of_shape same o i ++ defined_same os i
    where
      of_shape : Option Shape → List Text
      of_shape None = []
      of_shape (Some z) = map fold_case (z.0).defines

      same : (o : Option Object) → folded_names o ≡ of_shape (option_map shape o)
      same None = refl
      same (Some x) = refl
