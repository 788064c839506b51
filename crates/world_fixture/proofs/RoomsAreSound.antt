-- The fixture with 64 more rooms, and that with one, are sound worlds: their tests come out true.
use Rattle.std.proofs.Common.{◌≡◌, ℕ, zero, suc, ◌+◌, ◌*◌, ℤ, pos, Bool, true, false, List, [], ◌∷◌, Option, Some, refl, sym, ap, ◌∙◌, subst, IsTrue, cond, is_eq, int_cmp, unwrap_or}
use Rattle.std.specs.List.{list_all}
use Rattle.std.specs.Cmp.{int_cmp_total}
use Rattle.std.specs.FinMap.Entries.{find-put}
use Rattle.spec_fixture.specs.Opened.{opened}
use Rattle.spec_program.specs.Trees.{program_fits}
use Rattle.spec_world.specs.World.{World, Object, Verb, object_at, with_object}
use Rattle.spec_world.specs.WellFormed.{IsWellFormed}
use Rattle.spec_fixture.specs.Fixture.{fixture}
use Rattle.spec_value.proofs.Entries.{each_entry, both_hold}
use Rattle.spec_holding.specs.UnderWay.{are_programmed}
use Rattle.spec_holding.specs.Whole.{TextsSpell}
use Rattle.view.specs.Sound.{IsSound}
use Rattle.world_fixture.specs.Rooms.{adding, counting_verbs, endless_verb, lone_room, guest, with_room, with_rooms, with_endless_verb}
use Rattle.world_fixture.proofs.FixtureIsSound.{fixture_is_spelled}

-- ---- texts spell the programs that add

adding_fits : (n : ℕ) → IsTrue (program_fits [] (adding n))
unfolding adding
adding_fits zero = refl
adding_fits (suc n) = adding_fits n

is_it : (x y : Object) → Some x ≡ Some y → IsTrue (are_programmed x) → IsTrue (are_programmed y)
is_it x y e h = subst (λ u. IsTrue (are_programmed u)) (ap (λ o. unwrap_or o x) e) h

object_spelled : (w : World) (o : ℤ) (x : Object) → TextsSpell w → IsTrue (are_programmed x) → TextsSpell (with_object w o x)
object_spelled w o x h fits = (λ q y is. go q y is (is_eq (int_cmp q o)) (find-put int_cmp int_cmp_total q o x w.objects), h.1)
  where
    go : (q : ℤ) (y : Object) → object_at (with_object w o x) q ≡ Some y → (b : Bool) → object_at (with_object w o x) q ≡ cond b (Some x) (object_at w q) → IsTrue (are_programmed y)
    go q y is true e = is_it x y (sym e ∙ is) fits
    go q y is false e = h.0 q y (sym e ∙ is)

room_spelled : (w : World) (verbs : List Verb) (n : ℕ) → TextsSpell w → IsTrue (list_all (λ v. program_fits [] v.program) verbs) → TextsSpell (with_room verbs n w)
room_spelled w verbs n h fits =
    let one = object_spelled w (pos (8 + 2 * n)) (lone_room (pos (9 + 2 * n)) verbs) h fits in
    let both = object_spelled (with_object w (pos (8 + 2 * n)) (lone_room (pos (9 + 2 * n)) verbs)) (pos (9 + 2 * n)) (guest (pos (8 + 2 * n))) one refl in
    (both.0, both.1)

counting_spelled : IsTrue (list_all (λ v. program_fits [] v.program) counting_verbs)
counting_spelled = both_hold (program_fits [] (adding 999)) true (adding_fits 999) refl

each_room_spelled : (n : ℕ) → TextsSpell (with_rooms n fixture)
unfolding with_rooms
each_room_spelled zero = fixture_is_spelled
each_room_spelled (suc n) = room_spelled (with_rooms n fixture) counting_verbs n (each_room_spelled n) counting_spelled

-- ---- the worlds

roomy : World
roomy = with_rooms 64 fixture

rooms_fit : IsWellFormed roomy
unfolding opened with_rooms roomy
rooms_fit =
    record {
      objects_in_order = refl;
      tasks_in_order = refl;
      links_in_order = refl;
      greatest_in_range = refl;
      next_in_range = refl;
      numbers = each_entry _ roomy.objects refl;
      parents_end = each_entry _ roomy.objects refl;
      locations_end = each_entry _ roomy.objects refl;
      children = each_entry _ roomy.objects refl;
      parents = each_entry _ roomy.objects refl;
      contents = each_entry _ roomy.objects refl;
      locations = each_entry _ roomy.objects refl;
      names_on_a_line = each_entry _ roomy.objects refl;
      slot_order = each_entry _ roomy.objects refl;
      slots = each_entry _ roomy.objects refl;
      definers = each_entry _ roomy.objects refl;
      links = each_entry _ roomy.links refl;
      persons = refl;
      task_ids = each_entry _ roomy.tasks refl;
      task_entries = each_entry _ roomy.tasks refl;
      task_waits = each_entry _ roomy.tasks refl;
      task_places = λ i t is. cc;
      readers = refl;
    }

rooms_are_spelled : TextsSpell roomy
unfolding roomy
rooms_are_spelled = each_room_spelled 64

pub rooms_are_sound : IsSound (with_rooms 64 fixture)
unfolding roomy
rooms_are_sound = record { well_formed = rooms_fit; spelled = rooms_are_spelled }

endless : World
endless = with_endless_verb fixture

endless_fits : IsWellFormed endless
unfolding opened endless
endless_fits =
    record {
      objects_in_order = refl;
      tasks_in_order = refl;
      links_in_order = refl;
      greatest_in_range = refl;
      next_in_range = refl;
      numbers = each_entry _ endless.objects refl;
      parents_end = each_entry _ endless.objects refl;
      locations_end = each_entry _ endless.objects refl;
      children = each_entry _ endless.objects refl;
      parents = each_entry _ endless.objects refl;
      contents = each_entry _ endless.objects refl;
      locations = each_entry _ endless.objects refl;
      names_on_a_line = each_entry _ endless.objects refl;
      slot_order = each_entry _ endless.objects refl;
      slots = each_entry _ endless.objects refl;
      definers = each_entry _ endless.objects refl;
      links = each_entry _ endless.links refl;
      persons = refl;
      task_ids = each_entry _ endless.tasks refl;
      task_entries = each_entry _ endless.tasks refl;
      task_waits = each_entry _ endless.tasks refl;
      task_places = λ i t is. cc;
      readers = refl;
    }

endless_is_spelled : TextsSpell endless
unfolding endless
endless_is_spelled = room_spelled fixture (endless_verb ∷ []) 0 fixture_is_spelled (both_hold (program_fits [] (adding 30000)) true (adding_fits 30000) refl)

pub endless_is_sound : IsSound (with_endless_verb fixture)
unfolding endless
endless_is_sound = record { well_formed = endless_fits; spelled = endless_is_spelled }
