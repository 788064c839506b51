-- The line of an object upwards, in another world in which each object on it has the same parent.
use Rattle.std.proofs.Common.{◌≡◌, ◌⊎◌, inl, inr, ℕ, zero, suc, ◌≤◌, ℤ, pos, negsuc, ◌&&◌, List, [], ◌∷◌, length, Option, Some, None, refl, sym, ap, ◌∙◌, subst, arith, IsTrue, is_none, leb-true}
use Rattle.std.specs.Prelude.{int_le, nat_abs, ◌+ℤ◌}
use Rattle.std.specs.Ordering.{int_eq}
use Rattle.spec_value.proofs.Same.{same_integer, integer_itself}
use Rattle.spec_world.specs.World.{World, Object, object_at}
use Rattle.spec_world.specs.Inherit.{IsLine, line_bound, line_onto, line, ancestors}
use Rattle.spec_world.specs.WellFormed.{lists, passes, comes_out, ends_above, on_object, is_nowhere}
use Rattle.spec_world.specs.Agreeing.{ObjectsAgree}
use Rattle.spec_world.specs.Families.{nowhere}
use Rattle.spec_world.proofs.Trees.{some_same, either, first_of, second_of}

-- ---- lines and bounds

none_there : {X : Type 0} (o : Option X) → IsTrue (is_none o) → o ≡ None
none_there None h = refl
none_there (Some x) h = cc

line_is : (n : ℕ) (w : World) (o : ℤ) → IsTrue (comes_out (λ y. y.header.parent) n w o) → IsLine w o (line n w o)
unfolding line comes_out
line_is zero w o h = none_there (object_at w o) h
line_is (suc n) w o h = go (line_is n w) (object_at w o) refl h
  where
    go : ((q : ℤ) → IsTrue (comes_out (λ y. y.header.parent) n w q) → IsLine w q (line n w q))
        → (y : Option Object) → object_at w o ≡ y → IsTrue (ends_above (comes_out (λ y. y.header.parent) n w) (λ y. y.header.parent) y) → IsLine w o (line_onto (line n w) o y)
    go above None e k = e
    go above (Some x) e k = (refl, (x, e, above x.header.parent k))

pub own_line_is : (w : World) (o : ℤ) (x : Object) → ObjectsAgree w → object_at w o ≡ Some x → IsLine w o (ancestors w o)
unfolding ancestors
own_line_is w o x h e = line_is (line_bound w) w o (h.parents_end o x e)

line_short : (n : ℕ) (w : World) (o : ℤ) → length (line n w o) ≤ n
unfolding line
line_short zero w o = omega arith
line_short (suc n) w o = go (line_short n w) (object_at w o)
  where
    go : ((q : ℤ) → length (line n w q) ≤ n) → (m : Option Object) → length (line_onto (line n w) o m) ≤ suc n
    go each None = omega arith
    go each (Some x) = let h = each x.header.parent in omega (arith, h)

of_line : (n : ℕ) (w : World) (o : ℤ) (ps : List ℤ) → IsLine w o ps → length ps ≤ n → line n w o ≡ ps
unfolding line
of_line zero w o [] h k = refl
of_line zero w o (p ∷ ps) h k = absurd (omega (arith, k))
of_line (suc n) w o [] h k = ap (line_onto (line n w) o) h
of_line (suc n) w o (p ∷ ps) (same, (x, e, rest)) k =
    ap (line_onto (line n w) o) e ∙ (λ i. sym same i ∷ of_line n w x.header.parent ps rest (omega (arith, k)) i)

pub line_found : (w u : World) (o : ℤ) → IsLine u o (ancestors w o) → line_bound w ≤ line_bound u → ancestors u o ≡ ancestors w o
unfolding ancestors
line_found w u o h k =
    let short : length (line (line_bound w) w o) ≤ line_bound w = line_short (line_bound w) w o in
    of_line (line_bound u) u o (line (line_bound w) w o) h (omega (arith, short, k))

-- the next number of objects makes lines longer
pub bound_grows : (g : ℤ) → IsTrue (int_le nowhere g) → (nat_abs (g +ℤ pos 1) ≤ nat_abs ((g +ℤ pos 1) +ℤ pos 1)) × IsTrue (int_le nowhere (g +ℤ pos 1))
bound_grows (pos g) h = (omega arith, refl)
bound_grows (negsuc zero) h = (omega arith, refl)
bound_grows (negsuc (suc g)) h = let none : suc g ≤ 0 = leb-true (suc g) 0 h in absurd (omega (arith, none))

pub nowhere_is_old : (g : ℤ) → IsTrue (int_le nowhere g) → nowhere ≡ g +ℤ pos 1 → ⊥
nowhere_is_old (pos g) h e = cc
nowhere_is_old (negsuc zero) h e = cc
nowhere_is_old (negsuc (suc g)) h e = let none : suc g ≤ 0 = leb-true (suc g) 0 h in omega (arith, none)

-- ---- what stands on it

on_line : (w : World) (o : ℤ) (ps : List ℤ) → IsLine w o ps → (a : ℤ) → IsTrue (lists ps a) → (x : Object) × (object_at w a ≡ Some x)
on_line w o [] h a l = cc
on_line w o (p ∷ ps) (same, (x, e, rest)) a l = go (on_line w x.header.parent ps rest a) (either (int_eq a p) _ l)
  where
    go : (IsTrue (lists ps a) → (z : Object) × (object_at w a ≡ Some z)) → IsTrue (int_eq a p) ⊎ IsTrue (lists ps a) → (z : Object) × (object_at w a ≡ Some z)
    go later (inl i) = (x, ap (object_at w) (same_integer a p i ∙ same) ∙ e)
    go later (inr i) = later i

begins_there : (w : World) (q : ℤ) (ps : List ℤ) → IsLine w q ps → (z : Object) → object_at w q ≡ Some z → IsTrue (lists ps q)
begins_there w q [] h z e = let clash : None ≡ Some z = sym h ∙ e in absurd (cc (clash))
begins_there w q (p ∷ ps) (same, (x, e, rest)) z i = first_of (int_eq q p) _ (subst (λ m. IsTrue (int_eq q m)) (sym same) (integer_itself q))

-- the parent of what stands on it, if it is there
parent_on : (w : World) (o : ℤ) (ps : List ℤ) → IsLine w o ps → (a : ℤ) (x z : Object) → IsTrue (lists ps a) → object_at w a ≡ Some x → object_at w x.header.parent ≡ Some z
    → IsTrue (lists ps x.header.parent)
parent_on w o [] h a x z l e i = cc
parent_on w o (p ∷ ps) (same, (y, d, rest)) a x z l e i = go (λ k. parent_on w y.header.parent ps rest a x z k e i) (either (int_eq a p) _ l)
  where
    go : (IsTrue (lists ps a) → IsTrue (lists ps x.header.parent)) → IsTrue (int_eq a p) ⊎ IsTrue (lists ps a) → IsTrue (lists (p ∷ ps) x.header.parent)
    go later (inl k) =
        let it : y ≡ x = some_same (sym d ∙ ap (object_at w) (sym (same_integer a p k ∙ same)) ∙ e) in
        let up : y.header.parent ≡ x.header.parent = ap (λ (m : Object). m.header.parent) it in
        second_of (int_eq x.header.parent p) _ (begins_there w x.header.parent ps (subst (λ m. IsLine w m ps) up rest) z i)
    go later (inr k) = second_of (int_eq x.header.parent p) _ (later k)

module _ (w : World) (h : ObjectsAgree w) (o : ℤ) (first : Object) (is : object_at w o ≡ Some first) where
  pub on_own_line : (a : ℤ) → IsTrue (lists (ancestors w o) a) → (x : Object) × (object_at w a ≡ Some x)
  on_own_line a l = on_line w o (ancestors w o) (own_line_is w o first h is) a l

  pub itself_on : IsTrue (lists (ancestors w o) o)
  itself_on = begins_there w o (ancestors w o) (own_line_is w o first h is) first is

  -- a parent is nowhere, or is on the line too
  pub parent_nowhere_or_on : (a : ℤ) (x : Object) → IsTrue (lists (ancestors w o) a) → object_at w a ≡ Some x
      → (x.header.parent ≡ nowhere) ⊎ IsTrue (lists (ancestors w o) x.header.parent)
  parent_nowhere_or_on a x l e = go (either (is_nowhere x.header.parent) _ (h.parents a x e))
    where
      there : (m : Option Object) → object_at w x.header.parent ≡ m → IsTrue (passes m (λ y. lists y.children a)) → IsTrue (lists (ancestors w o) x.header.parent)
      there None i k = cc
      there (Some z) i k = parent_on w o (ancestors w o) (own_line_is w o first h is) a x z l e i

      go : IsTrue (is_nowhere x.header.parent) ⊎ IsTrue (on_object w x.header.parent (λ y. lists y.children a)) → (x.header.parent ≡ nowhere) ⊎ IsTrue (lists (ancestors w o) x.header.parent)
      go (inl i) = inl (same_integer x.header.parent nowhere i)
      go (inr i) = inr (there (object_at w x.header.parent) refl i)

  -- in another world where the same objects are on the way
  module _ (u : World) (none : object_at u nowhere ≡ None)
      (each : (a : ℤ) (x : Object) → IsTrue (lists (ancestors w o) a) → object_at w a ≡ Some x → (y : Object) × (object_at u a ≡ Some y) × (y.header.parent ≡ x.header.parent)) where
    carried : (q : ℤ) (ps : List ℤ) → IsLine w q ps → (q ≡ nowhere) ⊎ IsTrue (lists (ancestors w o) q) → IsLine u q ps
    carried q [] k (inl e) = ap (object_at u) e ∙ none
    carried q [] k (inr l) =
        let f = on_own_line q l in let clash : None ≡ Some f.0 = sym k ∙ f.1 in absurd (cc (clash))
    carried q (p ∷ ps) (same, (x, e, rest)) (inl s) =
        let number : IsTrue (int_le (pos 0) q && int_le q w.greatest) = h.numbers q x e in
        absurd (cc (subst (λ z. IsTrue (int_le (pos 0) z && int_le z w.greatest)) s number))
    carried q (p ∷ ps) (same, (x, e, rest)) (inr l) =
        let f = each q x l e in
        (same, (f.0, f.1, subst (λ m. IsLine u m ps) (sym f.2) (carried x.header.parent ps rest (parent_nowhere_or_on q x l e))))

    pub line_carried : IsLine u o (ancestors w o)
    line_carried = carried o (ancestors w o) (own_line_is w o first h is) (inr itself_on)
