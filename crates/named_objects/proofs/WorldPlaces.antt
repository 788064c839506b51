-- Upwards from place to place goes as from object to object.
use Rattle.std.proofs.Common.{◌≡◌, ◌<◌, ℕ, zero, suc, ℤ, List, [], ◌∷◌, ◌++◌, map, length, get_or, Option, Some, None, refl, sym, ap, subst, ◌∙◌, arith, slice_get}
use Rattle.spec_value.specs.Datum.{Text}
use Rattle.spec_value.specs.Table.{Numbered}
use Rattle.spec_world.specs.World.{World, Object, object_at}
use Rattle.spec_world.specs.Inherit.{IsLine, ancestors}
use Rattle.spec_world.specs.WellFormed.{IsWellFormed}
use Rattle.spec_world.specs.Checkpoint.{names_defined}
use Rattle.spec_world.proofs.Lines.{ancestors_are_a_line}
use Rattle.upwards.specs.Ways.{IsWay}
use Rattle.named_objects.specs.Ways.{IsPlace, names_at}
use Rattle.named_objects.specs.Told.{names_along}
use Rattle.named_objects.proofs.Tables.{place_of, found_at, number_at, at_number}

abbrev pub defines_in : Numbered Object → List (List Text)
defines_in es = map (λ e. (e.1).defines) es

abbrev pub numbers_in : Numbered Object → List ℤ
numbers_in es = map (λ e. e.0) es

some_same : {A : Type 0} (x y : A) → ◌≡◌ {A = Option A} (Some x) (Some y) → x ≡ y
some_same x y e = cc

get_below : {X : Type 0} (xs : List X) (i : ℕ) (x : X) → slice_get xs i ≡ Some x → i < length xs
get_below [] i x h = cc
get_below (y ∷ xs) zero x h = omega arith
get_below (y ∷ xs) (suc i) x h = let later = get_below xs i x h in omega arith

defines_there : (es : Numbered Object) (i : ℕ) (o : ℤ) (x : Object) → slice_get es i ≡ Some (o, x) → get_or (defines_in es) i [] ≡ x.defines
defines_there [] i o x h = cc
defines_there (e ∷ es) zero o x h = let same : e ≡ (o, x) = cc in ap (λ (f : ℤ × Object). (f.1).defines) same
defines_there (e ∷ es) (suc i) o x h = defines_there es i o x h

module _ (w : World) (parents : List (Option ℕ)) (h : IsWellFormed w) (count : length parents ≡ length w.objects)
    (each : (k : ℕ) (o : ℤ) (x : Object) → slice_get w.objects k ≡ Some (o, x) → IsPlace (numbers_in w.objects) x.header.parent (get_or parents k None)) where
  abbrev Way : Option ℕ → List ℤ → Type 0
  Way q ps = (is : List ℕ) × IsWay parents q is × (names_at (defines_in w.objects) is ≡ names_along w ps)

  -- from what is no object
  no_way : (o : ℤ) (ps : List ℤ) → ((k : ℕ) → slice_get (numbers_in w.objects) k ≡ Some o → ⊥) → IsLine w o ps → Way None ps
  no_way o [] none l = ([], refl, refl)
  no_way o (p ∷ ps) none l =
      let m = place_of w.objects o l.1.0 l.1.1 in
      absurd (none m.0 (at_number w.objects m.0 o l.1.0 m.1))

  way : (ps : List ℤ) (o : ℤ) (x : Object) (i : ℕ) → slice_get w.objects i ≡ Some (o, x) → IsLine w o ps → Way (Some i) ps
  way [] o x i e l =
      let there = found_at w.objects i o x h.objects_in_order e in
      let clash : None ≡ Some x = sym l ∙ there in
      absurd (cc (clash))
  way (p ∷ ps) o x i e l =
      let there = found_at w.objects i o x h.objects_in_order e in
      let same : l.1.0 ≡ x = some_same l.1.0 x (sym l.1.1 ∙ there) in
      let up : IsLine w x.header.parent ps = subst (λ (y : Object). IsLine w y.header.parent ps) same l.1.2 in
      let later = above (get_or parents i None) (each i o x e) up (way ps x.header.parent) in
      let within : i < length parents = let b = get_below w.objects i (o, x) e in omega (arith, b, count) in
      let here : names_defined (object_at w p) ≡ x.defines = ap (λ q. names_defined (object_at w q)) l.0 ∙ ap names_defined there in
      (i ∷ later.0, (refl, within, later.1), (λ n. (defines_there w.objects i o x e ∙ sym here) n ++ later.2 n))
    where
      above : (q : Option ℕ) → IsPlace (numbers_in w.objects) x.header.parent q → IsLine w x.header.parent ps
          → ((y : Object) (j : ℕ) → slice_get w.objects j ≡ Some (x.header.parent, y) → IsLine w x.header.parent ps → Way (Some j) ps) → Way q ps
      above None none l more = no_way x.header.parent ps none l
      above (Some j) place l more = let y = number_at w.objects j x.header.parent place in more y.0 j y.1 l

  -- where the place of each object's parent is known, each object has a way upwards, with the names along its line
  pub way_up : (k : ℕ) (o : ℤ) (x : Object) → slice_get w.objects k ≡ Some (o, x) → Way (Some k) (ancestors w o)
  way_up k o x e = way (ancestors w o) o x k e (ancestors_are_a_line w o h)
