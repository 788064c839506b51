-- A slot that is there takes another value, and the world stays as it has to be.
use Rattle.std.proofs.Common.{◌≡◌, ◌≢◌, ℕ, ℤ, true, [], Option, Some, None, refl, sym, ap, ◌∙◌, subst, IsTrue, is_some, int_cmp, is_eq, arith, Ordering, Less, Equal, Greater}
use Rattle.std.specs.Prelude.{option_map, max, min}
use Rattle.std.specs.FinMap.{int_cmp-IsAntisymmetric}
use Rattle.spec_value.specs.Datum.{Datum, Text, fold_case}
use Rattle.spec_value.specs.Table.{at, named, with_name}
use Rattle.spec_world.specs.World.{World, Object, Slot, object_at}
use Rattle.spec_world.specs.Inherit.{slot_of, slot_at, with_slot}
use Rattle.spec_world.specs.WellFormed.{IsWellFormed, OfEachObject}
use Rattle.spec_world.specs.Questions.{new_value, new_next, put_value, apply}
use Rattle.view.proofs.Renumbered.{renumbered, next_small}
use Rattle.spec_world.specs.Step.{Step, in_range}
use Rattle.spec_moo.specs.Steps.{play1}
use Rattle.spec_holding.specs.UnderWay.{are_programmed}
use Rattle.spec_holding.specs.Whole.{TextsSpell, programs_spelled}
use Rattle.spec_holding.proofs.WholeWorlds.{stays_whole_once}
use Rattle.spec_world.proofs.SlotChanges.{itself, names_total, object_stays, other_objects_stay, world_stays}
use Rattle.spec_world.proofs.SlotKeeps.{slot_keeps}
use Rattle.spec_value.proofs.Keys.{keys_put}
use Rattle.spec_world.proofs.Shapes.{shape, Alike, carried}
use Rattle.view.specs.Sound.{IsSound}
use Rattle.std.specs.Cmp.{int_cmp_total}

-- ---- what texts spell is looked at in no slot

programs_alike : (w u : World) → Alike w u → OfEachObject w programs_spelled → OfEachObject u programs_spelled
programs_alike w u alike h = λ q y is. carried w u alike q y is (λ z. are_programmed z.0) (λ z. are_programmed z.0) (λ z. refl) (λ x e. h q x e)

tasks_stay : (w : World) (o : ℤ) (p : Text) (t : Slot) → (with_slot w o p t).tasks ≡ w.tasks
tasks_stay w o p t = ap (λ (u : World). u.tasks) (world_stays w o p t)

spelled_slot : (w : World) (o : ℤ) (p : Text) (t : Slot) → Alike w (with_slot w o p t) → TextsSpell w → TextsSpell (with_slot w o p t)
spelled_slot w o p t alike h =
    (programs_alike w (with_slot w o p t) alike h.0, λ i x is. h.1 i x (subst (λ ts. at ts i ≡ Some x) (tasks_stay w o p t) is))

-- ---- one slot

others : (o q : ℤ) → (int_cmp o q ≡ Equal → ⊥) → (o ≢ q)
others o q not_equal e = not_equal (subst (λ z. int_cmp z q ≡ Equal) (sym e) (go (int_cmp q q) refl (itself int_cmp_total q)))
  where
    go : (r : Ordering) → int_cmp q q ≡ r → is_eq r ≡ true → int_cmp q q ≡ Equal
    go Less e h = absurd (cc (h))
    go Greater e h = absurd (cc (h))
    go Equal e h = e

module _ (w : World) (o : ℤ) (p : Text) (s t : Slot) (ok : IsWellFormed w) where
  here : (x : Object) → object_at w o ≡ Some x → named x.slots (fold_case p) ≡ Some s → option_map shape (object_at w o) ≡ option_map shape (object_at (with_slot w o p t) o)
  here x is found =
      ap (option_map shape) is ∙ ap Some same_shape ∙ ap (option_map shape) (sym (object_stays w o x p t is))
    where
      same_shape : shape x ≡ shape (record x { slots = with_name x.slots (fold_case p) t })
      same_shape = λ i. (record x { slots = [] }, sym (keys_put names_total (fold_case p) t x.slots (ok.slot_order o x is) (ap is_some found)) i)

  here_or_not : (x : Option Object) → object_at w o ≡ x → slot_of x p ≡ Some s → option_map shape (object_at w o) ≡ option_map shape (object_at (with_slot w o p t) o)
  here_or_not None is found = absurd (cc (found))
  here_or_not (Some x) is found = here x is found

  alike_after : slot_at w o p ≡ Some s → Alike w (with_slot w o p t)
  alike_after found q = go (int_cmp o q) refl
    where
      away : (int_cmp o q ≡ Equal → ⊥) → option_map shape (object_at w q) ≡ option_map shape (object_at (with_slot w o p t) q)
      away h = ap (option_map shape) (sym (other_objects_stay w o q p t (others o q h)))

      go : (r : Ordering) → int_cmp o q ≡ r → option_map shape (object_at w q) ≡ option_map shape (object_at (with_slot w o p t) q)
      go Equal e = subst (λ z. option_map shape (object_at w z) ≡ option_map shape (object_at (with_slot w o p t) z)) (int_cmp-IsAntisymmetric o q e) (here_or_not (object_at w o) refl found)
      go Less e = away (λ h. cc (h, e))
      go Greater e = away (λ h. cc (h, e))

-- the slot's new content is no less there than the old
pub sound_slot : (w : World) (o : ℤ) (p : Text) (s : Slot) (v : Datum) → IsSound w → slot_at w o p ≡ Some s → IsSound (with_slot w o p (record s { content = Some v }))
sound_slot w o p s v h found =
    record {
      well_formed = slot_keeps w o p s (record s { content = Some v }) h.well_formed found refl;
      spelled =
          spelled_slot w o p (record s { content = Some v }) (alike_after w o p s (record s { content = Some v }) h.well_formed found) h.spelled;
    }

-- ---- changes

-- another value in a slot, or a next number that is no less
pub sound_valued : (o : ℤ) (p : Text) (v : Datum) (w : World) → IsSound w → IsSound (apply (new_value o p v) w)
sound_valued o p v w h = go (slot_at w o p) refl
  where
    go : (s : Option Slot) → slot_at w o p ≡ s → IsSound (put_value w o p v s)
    go None e = h
    go (Some s) e = sound_slot w o p s v h e

pub sound_raised : (n : ℕ) (w : World) → IsSound w → IsSound (apply (new_next n) w)
sound_raised n w h =
    record {
      well_formed = renumbered w (max (min n 33554432) w.next) (omega arith) (omega (arith, next_small w h.well_formed)) h.well_formed;
      spelled = (h.spelled.0, h.spelled.1);
    }

-- ---- steps

pub sound_step : (w : World) (s : Step) → IsSound w → IsTrue (in_range s) → IsSound (play1 w s).0
sound_step w s h is = let k = stays_whole_once w s h.well_formed h.spelled is in record { well_formed = k.0; spelled = k.1 }
