-- The lines of an object's slots are those of the slots that are found by the names along its line.
use Rattle.std.proofs.Common.{◌≡◌, ℤ, suc, Bool, true, false, List, [], ◌∷◌, ◌++◌, length, Option, Some, None, IsTrue, refl, sym, ap, subst, ◌∙◌, append_assoc, cond, nat_cmp}
use Rattle.std.specs.List.{list_all}
use Rattle.std.specs.Ordering.{eq_by_cmp}
use Rattle.std.specs.Cmp.Lexicographic.{slice_cmp}
use Rattle.spec_value.specs.Datum.{Text, fold_case}
use Rattle.spec_value.specs.Table.{Named, named}
use Rattle.spec_value.proofs.Entries.{first_holds, second_holds, both_hold}
use Rattle.spec_world.specs.World.{World, Object, Slot, object_at}
use Rattle.spec_world.specs.Inherit.{ancestors, slot_at, slot_of}
use Rattle.spec_world.specs.Checkpoint.{slot_line, slots_named, slots_along, names_defined}
use Rattle.named_objects.specs.Told.{names_along, with_found, slots_found, object_names}
use Rattle.object_lines.specs.Parts.{one_slot_line, each_slot}

module _ (w : World) (o : ℤ) where
  named_lines : (ts : List Text) → slots_named w o ts ≡ each_slot (slots_found w o ts)
  named_lines [] = refl
  named_lines (t ∷ ts) = go (slot_at w o t) (named_lines ts)
    where
      go : (m : Option Slot) → slots_named w o ts ≡ each_slot (slots_found w o ts) → slot_line m ++ slots_named w o ts ≡ each_slot (with_found m (slots_found w o ts))
      go None later = later
      go (Some s) later = ap (λ us. one_slot_line s ∷ us) later

  both_named : (ts us : List Text) → slots_named w o (ts ++ us) ≡ slots_named w o ts ++ slots_named w o us
  both_named [] us = refl
  both_named (t ∷ ts) us = ap (λ rs. slot_line (slot_at w o t) ++ rs) (both_named ts us) ∙ sym (append_assoc (slot_line (slot_at w o t)) (slots_named w o ts) (slots_named w o us))

  along_names : (ps : List ℤ) → slots_along w o ps ≡ slots_named w o (names_along w ps)
  along_names [] = refl
  along_names (p ∷ ps) = ap (λ rs. slots_named w o (names_defined (object_at w p)) ++ rs) (along_names ps) ∙ sym (both_named (names_defined (object_at w p)) (names_along w ps))

  pub slots_as_lines : slots_along w o (ancestors w o) ≡ each_slot (slots_found w o (object_names w o))
  slots_as_lines = along_names (ancestors w o) ∙ named_lines (object_names w o)

  -- each of them is one of the object's slots

  module _ (p : Slot → Bool) where
    abbrev found_holds : Option Slot → Bool
    found_holds None = true
    found_holds (Some s) = p s

    named_holds : (es : Named Slot) → IsTrue (list_all (λ e. p e.1) es) → (q : Text) → IsTrue (found_holds (named es q))
    named_holds [] h q = refl
    named_holds (e ∷ es) h q = go (eq_by_cmp (slice_cmp nat_cmp) q e.0) (named_holds es (second_holds (p e.1) _ h) q)
      where
        go : (b : Bool) → IsTrue (found_holds (named es q)) → IsTrue (found_holds (cond b (Some e.1) (named es q)))
        go true later = first_holds (p e.1) _ h
        go false later = later

    pub slots_hold : (x : Object) → object_at w o ≡ Some x → IsTrue (list_all (λ e. p e.1) x.slots) → (ts : List Text) → IsTrue (list_all p (slots_found w o ts))
    slots_hold x is h [] = refl
    slots_hold x is h (t ∷ ts) = go (slot_at w o t) (subst (λ m. IsTrue (found_holds (slot_of m t))) (sym is) (named_holds x.slots h (fold_case t))) (slots_hold x is h ts)
      where
        go : (m : Option Slot) → IsTrue (found_holds m) → IsTrue (list_all p (slots_found w o ts)) → IsTrue (list_all p (with_found m (slots_found w o ts)))
        go None one later = later
        go (Some s) one later = both_hold (p s) (list_all p (slots_found w o ts)) one later

-- a line for each
pub as_many_lines : (ss : List Slot) → length (each_slot ss) ≡ length ss
as_many_lines [] = refl
as_many_lines (s ∷ ss) = ap suc (as_many_lines ss)
