-- Who is no wizard is denied much; and changes that leave each object's header.
use Rattle.std.proofs.Common.{◌≡◌, ℕ, ◌≤◌, ◌+◌, ℤ, pos, negsuc, Bool, true, false, not, ◌&&◌, ◌||◌, Option, Some, None, refl, sym, ap, ◌∙◌, cond, arith, IsTrue, leb-true, le-leb}
use Rattle.std.specs.Prelude.{option_map, int_le, nat_abs, ◌+ℤ◌}
use Rattle.std.specs.Ordering.{int_eq}
use Rattle.spec_value.proofs.Entries.{first_holds, second_holds, both_hold}
use Rattle.spec_world.specs.World.{World, Header, Object, Verb, object_at}
use Rattle.spec_world.specs.Questions.{header_at}
use Rattle.spec_world.specs.Members.{verb_changed}
use Rattle.spec_world.specs.Permissions.{write_standing, administer, wizardly, is_wizard, may}
use Rattle.spec_world.proofs.Households.{change_greatest}
use Rattle.spec_world.proofs.ObjectChanges.{at_change}
use Rattle.spec_rights.specs.Permitted.{Allows}

-- ---- wizards alone

alone : (b : Bool) → (b || false) ≡ true → b ≡ true
alone true e = refl
alone false e = cc

pub standing_by_wizards : (w : World) (who o : ℤ) → Allows w who (write_standing o) → is_wizard w who ≡ true
unfolding may
standing_by_wizards w who o k = alone (is_wizard w who) k

pub administered_by_wizards : (w : World) (who : ℤ) → Allows w who administer → is_wizard w who ≡ true
unfolding may
administered_by_wizards w who k = alone (is_wizard w who) k

pub denied : {A : Type 0} (b : Bool) → b ≡ true → b ≡ false → A
denied true e k = cc
denied false e k = cc

pub not_so : (b : Bool) → IsTrue (not b) → b ≡ false
not_so true e = cc
not_so false e = refl

-- ---- headers

abbrev of_header : Option Header → Bool
of_header None = false
of_header (Some h) = h.is_wizard

pub same_wizards : (w u : World) (o : ℤ) → header_at u o ≡ header_at w o → is_wizard u o ≡ is_wizard w o
same_wizards w u o e = by (object_at u o) ∙ ap of_header e ∙ sym (by (object_at w o))
  where
    by : (m : Option Object) → wizardly m ≡ of_header (option_map (λ x. x.header) m)
    by None = refl
    by (Some x) = refl

-- another program leaves each header
pub programmed_header : (w : World) (o : ℤ) (n : ℕ) (f : Verb → Verb) (q : ℤ) → header_at (verb_changed w o n f) q ≡ header_at w q
unfolding verb_changed
programmed_header w o n f q = ap (option_map (λ x. x.header)) (at_change w o q _) ∙ go (object_at w q) (int_eq q o)
  where
    go : (m : Option Object) (b : Bool)
        → option_map (λ x. x.header) (option_map (λ y. cond b (record y { verbs = Rattle.spec_world.specs.Members.with_verb y.verbs n f }) y) m) ≡ option_map (λ x. x.header) m
    go None b = refl
    go (Some x) true = refl
    go (Some x) false = refl

-- and each other object
pub programmed_other : (w : World) (o : ℤ) (n : ℕ) (f : Verb → Verb) (q : ℤ) → int_eq q o ≡ false → object_at (verb_changed w o n f) q ≡ object_at w q
unfolding verb_changed
programmed_other w o n f q e = at_change w o q _ ∙ ap (λ b. option_map {T = Object} {U = Object} (λ y. cond b (record y { verbs = Rattle.spec_world.specs.Members.with_verb y.verbs n f }) y) (object_at w q)) e ∙ go (object_at w q)
  where
    go : (m : Option Object) → option_map (λ y. y) m ≡ m
    go None = refl
    go (Some x) = refl

pub programmed_greatest : (w : World) (o : ℤ) (n : ℕ) (f : Verb → Verb) → (verb_changed w o n f).greatest ≡ w.greatest
unfolding verb_changed
programmed_greatest w o n f = change_greatest w o _

-- ---- numbers

pub beyond : (o g : ℤ) → IsTrue (int_le (pos 0) o && int_le o g) → o ≡ g +ℤ pos 1 → ⊥
beyond (pos o) (pos g) h e = let within : o ≤ g = leb-true o g (second_holds (int_le (pos 0) (pos o)) _ h) in let same : o ≡ g + 1 = ap nat_abs e in omega arith
beyond (pos o) (negsuc g) h e = absurd (cc (second_holds (int_le (pos 0) (pos o)) _ h))
beyond (negsuc o) g h e = absurd (cc (h))

pub within_later : (o g : ℤ) → IsTrue (int_le (pos 0) o && int_le o g) → IsTrue (int_le (pos 0) o && int_le o (g +ℤ pos 1))
within_later (pos o) (pos g) h =
    let within : o ≤ g = leb-true o g (second_holds (int_le (pos 0) (pos o)) _ h) in
    both_hold (int_le (pos 0) (pos o)) _ (first_holds (int_le (pos 0) (pos o)) _ h) (le-leb o (g + 1) (omega arith))
within_later (pos o) (negsuc g) h = absurd (cc (second_holds (int_le (pos 0) (pos o)) _ h))
within_later (negsuc o) g h = absurd (cc (h))
