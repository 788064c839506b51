-- A next number that is no less leaves a world well formed; the numbers of steps are small.
use Rattle.std.proofs.Common.{◌≡◌, ℕ, ◌≤◌, ◌<◌, ◌⊎◌, inl, inr, ℤ, Bool, true, false, refl, sym, ap, ◌∙◌, ◌&&◌, IsTrue, arith, nat_le}
use Rattle.std.specs.Prelude.{pos, negsuc, int_le, ◌-◌, ◌*◌}
use Rattle.spec_world.specs.World.{World}
use Rattle.spec_world.specs.Step.{Step, in_range}
use Rattle.spec_world.specs.WellFormed.{IsWellFormed, OfEachTask, id_fits, names_once}
use Rattle.spec_value.proofs.Entries.{first_holds, second_holds, both_hold}
use Rattle.spec_world.proofs.SlotKeeps.{has_no_cycle_same, is_in_no_cycle_same, names_same, slots_agree_carried}
use Rattle.spec_world.proofs.Shapes.{Alike}
use Rattle.std.proofs.lemmas.Bool.Decides.{leb_tells}

tested_le : (a b : ℕ) → IsTrue (nat_le a b) → a ≤ b
tested_le a b h = go (leb_tells a b)
  where
    go : ((nat_le a b ≡ true) × (a ≤ b)) ⊎ ((nat_le a b ≡ false) × (b < a)) → a ≤ b
    go (inl p) = p.1
    go (inr p) = absurd (cc (h, p.0))

le_tested : (a b : ℕ) → a ≤ b → IsTrue (nat_le a b)
le_tested a b h = go (leb_tells a b)
  where
    go : ((nat_le a b ≡ true) × (a ≤ b)) ⊎ ((nat_le a b ≡ false) × (b < a)) → IsTrue (nat_le a b)
    go (inl p) = p.0
    go (inr p) = absurd (omega (arith, h, p.1))

wider : (i : ℤ) (a b : ℕ) → a ≤ b → IsTrue (int_le i (pos a)) → IsTrue (int_le i (pos b))
wider (pos m) a b le h = le_tested m b (omega (arith, tested_le m a h))
wider (negsuc m) a b le h = refl

later_id : (w : World) (n : ℕ) → w.next ≤ n → OfEachTask w id_fits → OfEachTask (record w { next = n }) id_fits
later_id w n le each i t is =
    both_hold (int_le (pos 1) i) (int_le i (pos ((n - 1) * 64))) (first_holds (int_le (pos 1) i) (int_le i (pos ((w.next - 1) * 64))) (each i t is))
    (wider i ((w.next - 1) * 64) ((n - 1) * 64) (omega arith) (second_holds (int_le (pos 1) i) (int_le i (pos ((w.next - 1) * 64))) (each i t is)))

pub renumbered : (w : World) (n : ℕ) → w.next ≤ n → n ≤ 33554432 → IsWellFormed w → IsWellFormed (record w { next = n })
renumbered w n le small h =
    let u : World = record w { next = n } in
    let alike : Alike w u = λ q. refl in
    record {
      objects_in_order = h.objects_in_order;
      tasks_in_order = h.tasks_in_order;
      links_in_order = h.links_in_order;
      greatest_in_range = h.greatest_in_range;
      next_in_range =
          both_hold (nat_le 1 n) (nat_le n 33554432)
          (le_tested 1 n (omega (arith, tested_le 1 w.next (first_holds (nat_le 1 w.next) (nat_le w.next 33554432) h.next_in_range))))
          (le_tested n 33554432 small);
      numbers = h.numbers;
      parents_end = λ q x e. sym (has_no_cycle_same w u alike refl q x) ∙ h.parents_end q x e;
      locations_end = λ q x e. sym (is_in_no_cycle_same w u alike refl q x) ∙ h.locations_end q x e;
      children = h.children;
      parents = h.parents;
      contents = h.contents;
      locations = h.locations;
      names_on_a_line = λ q x e. sym (ap names_once (names_same w u alike refl q)) ∙ h.names_on_a_line q x e;
      slot_order = h.slot_order;
      slots = slots_agree_carried w u alike refl h.slots;
      definers = h.definers;
      links = h.links;
      persons = h.persons;
      task_ids = later_id w n le h.task_ids;
      task_entries = h.task_entries;
      task_waits = h.task_waits;
      task_places = h.task_places;
      readers = h.readers;
    }

pub next_small : (w : World) → IsWellFormed w → w.next ≤ 33554432
next_small w h = tested_le w.next 33554432 (second_holds (nat_le 1 w.next) _ h.next_in_range)

second_of_six : (a b c d e f : Bool) → IsTrue (a && b && c && d && e && f) → IsTrue b
second_of_six true true c d e f h = refl
second_of_six true false c d e f h = cc
second_of_six false true c d e f h = refl
second_of_six false false c d e f h = cc

pub number_small : (s : Step) → IsTrue (in_range s) → s.number ≤ 33554431
number_small s h = tested_le s.number 33554431 (second_of_six (nat_le 1 s.number) (nat_le s.number 33554431) _ _ _ _ h)
