-- Ancestors, and values of properties.
use Rattle.std.proofs.Common.{◌≡◌, ℕ, zero, suc, ℤ, Option, Some, None, refl, sym, ap, ◌∙◌, subst, IsTrue, is_none, arith}
use Rattle.std.specs.Prelude.{pos, negsuc, int_le, ◌+ℤ◌, nat_abs}
use Rattle.spec_world.specs.World.{World, Object, object_at}
use Rattle.spec_world.specs.Inherit.{IsLine, line, line_onto, line_bound, ancestors, slot_of, content_of, or_else, first_value, property_value}
use Rattle.spec_world.specs.WellFormed.{comes_out, ends_above}
use Rattle.spec_world.specs.Laws.{AncestorsAreALine, OwnValue}
use Rattle.spec_value.proofs.Entries.{first_holds, second_holds}

none_there : {X : Type 0} (o : Option X) → IsTrue (is_none o) → o ≡ None
none_there None h = refl
none_there (Some x) h = cc

line_is : (n : ℕ) (w : World) (o : ℤ) → IsTrue (comes_out (λ y. y.header.parent) n w o) → IsLine w o (line n w o)
unfolding line comes_out
line_is zero w o h = none_there (object_at w o) h
line_is (suc n) w o h = go (line_is n w) (object_at w o) refl h
  where
    go : ((q : ℤ) → IsTrue (comes_out (λ y. y.header.parent) n w q) → IsLine w q (line n w q))
        → (y : Option Object) → object_at w o ≡ y → IsTrue (ends_above (comes_out (λ y. y.header.parent) n w) (λ y. y.header.parent) y) → IsLine w o (line_onto (line n w) o y)
    go above None e k = e
    go above (Some x) e k = (refl, (x, e, above x.header.parent k))

pub ancestors_are_a_line : AncestorsAreALine
unfolding ancestors line
ancestors_are_a_line w o h = go (object_at w o) refl
  where
    go : (y : Option Object) → object_at w o ≡ y → IsLine w o (line (line_bound w) w o)
    go (Some x) e = line_is (line_bound w) w o (h.parents_end o x e)
    go None e = nowhere (line_bound w)
      where
        nowhere : (n : ℕ) → IsLine w o (line n w o)
        nowhere zero = e
        nowhere (suc n) = subst (λ y. IsLine w o (line_onto (line n w) o y)) (sym e) e

-- an object's number is not above the greatest, so a line has room for it
room : (o g : ℤ) → IsTrue (int_le (pos 0) o) → IsTrue (int_le o g) → (n : ℕ) × (nat_abs (g +ℤ pos 1) ≡ suc n)
room o (pos g) h k = (g, omega arith)
room (pos o) (negsuc g) h k = cc
room (negsuc o) (negsuc g) h k = cc

pub own_value : OwnValue
unfolding property_value ancestors line first_value
own_value w o p s v h is filled = go (object_at w o) refl is
  where
    go : (y : Option Object) → object_at w o ≡ y → slot_of y p ≡ Some s → first_value w (line (line_bound w) w o) p ≡ Some v
    go None e f = cc
    go (Some x) e f = with_room (room o w.greatest (first_holds (int_le (pos 0) o) _ (h.numbers o x e)) (second_holds (int_le (pos 0) o) _ (h.numbers o x e)))
      where
        with_room : (n : ℕ) × (line_bound w ≡ suc n) → first_value w (line (line_bound w) w o) p ≡ Some v
        with_room r =
            ap (λ n. first_value w (line n w o) p) r.1
            ∙ ap (λ y. first_value w (line_onto (line r.0 w) o y) p) e
            ∙ ap (λ y. or_else (content_of y) (first_value w (line r.0 w x.header.parent) p)) is
            ∙ ap (λ c. or_else c (first_value w (line r.0 w x.header.parent) p)) filled
