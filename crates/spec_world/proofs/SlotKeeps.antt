-- A slot that is there takes another value, and the world stays well formed.
use Rattle.std.proofs.Common.{◌≡◌, ℤ, Bool, true, false, List, [], ◌∷◌, Option, Some, None, refl, sym, ap, ◌∙◌, subst, ◌&&◌, ◌||◌, IsTrue, is_some, cond, is_eq, int_cmp, nat_cmp, Ordering, Less, Equal, Greater}
use Rattle.std.specs.Prelude.{pos, neg_ℤ, ◌-ℤ◌, option_map}
use Rattle.std.specs.Ordering.{int_eq, eq_by_cmp}
use Rattle.std.specs.List.{list_all}
use Rattle.std.specs.Cmp.{int_cmp_total}
use Rattle.std.specs.Cmp.Lexicographic.{slice_cmp}
use Rattle.std.specs.FinMap.{int_cmp-IsAntisymmetric}
use Rattle.std.specs.FinMap.Entries.{find-put}
use Rattle.spec_value.specs.Datum.{Text, fold_case}
use Rattle.spec_value.specs.Table.{named, with_name}
use Rattle.spec_world.specs.World.{World, Object, Slot, Link, object_at, with_object}
use Rattle.spec_world.specs.Inherit.{line, line_bound, ancestors, slot_of, slot_at, content_of, put_slot, with_slot}
use Rattle.spec_world.specs.WellFormed.{OfEachObject, IsWellFormed, comes_out, is_nowhere, lists, once, number_fits, has_no_cycle, is_in_no_cycle, children_agree, parent_agrees, contents_agree, location_agrees, defined_on, has_name, names_once, line_names_once, slots_agree, slots_in_order, definers_filled, is_connection, link_fits}
use Rattle.spec_world.specs.Laws.{SlotKeeps}
use Rattle.spec_value.proofs.Entries.{first_holds, second_holds, both_hold}
use Rattle.spec_world.proofs.SlotChanges.{names_total}
use Rattle.spec_value.proofs.Keys.{keys_put, still_sorted}
use Rattle.spec_world.proofs.Shapes.{shape, Alike, there, carried, on_same, comes_same, line_same, defined_same}

all_more : {X : Type 0} (f g : X → Bool) → ((x : X) → IsTrue (f x) → IsTrue (g x)) → (xs : List X) → IsTrue (list_all f xs) → IsTrue (list_all g xs)
all_more f g more [] h = refl
all_more f g more (x ∷ xs) h = both_hold (g x) (list_all g xs) (more x (first_holds (f x) _ h)) (all_more f g more xs (second_holds (f x) _ h))

-- ---- a world that is alike has all that shapes tell

module _ (w u : World) (alike : Alike w u) (bound : line_bound w ≡ line_bound u) where
  pub names_same : (q : ℤ) → defined_on w (ancestors w q) ≡ defined_on u (ancestors u q)
  unfolding ancestors
  names_same q =
      ap (defined_on w) (line_same w u alike (line_bound w) q ∙ ap (λ n. line n u q) bound) ∙ defined_same w u alike (ancestors u q)

  pub has_no_cycle_same : (q : ℤ) (z : Object) → has_no_cycle w q z ≡ has_no_cycle u q z
  has_no_cycle_same q z = comes_same w u alike (λ y. y.header.parent) (λ x. refl) (line_bound w) q ∙ ap (λ n. comes_out (λ y. y.header.parent) n u q) bound

  pub is_in_no_cycle_same : (q : ℤ) (z : Object) → is_in_no_cycle w q z ≡ is_in_no_cycle u q z
  is_in_no_cycle_same q z = comes_same w u alike (λ y. y.header.location) (λ x. refl) (line_bound w) q ∙ ap (λ n. comes_out (λ y. y.header.location) n u q) bound

  children_same : (q : ℤ) (z : Object) → children_agree w q z ≡ children_agree u q z
  children_same q z = λ i. once z.children && list_all (λ c. on_same w u alike (λ y. int_eq y.header.parent q) (λ x. refl) c i) z.children

  contents_same : (q : ℤ) (z : Object) → contents_agree w q z ≡ contents_agree u q z
  contents_same q z = λ i. once z.contents && list_all (λ c. on_same w u alike (λ y. int_eq y.header.location q) (λ x. refl) c i) z.contents

  parent_same : (q : ℤ) (z : Object) → parent_agrees w q z ≡ parent_agrees u q z
  parent_same q z = λ i. is_nowhere z.header.parent || on_same w u alike (λ y. lists y.children q) (λ x. refl) z.header.parent i

  location_same : (q : ℤ) (z : Object) → location_agrees w q z ≡ location_agrees u q z
  location_same q z = λ i. is_nowhere z.header.location || on_same w u alike (λ y. lists y.contents q) (λ x. refl) z.header.location i

  -- a test of objects without their slots
  bare_carried : (test : World → ℤ → Object → Bool) → ((q : ℤ) (x : Object) → test w q x ≡ test w q (shape x).0) → ((q : ℤ) (x : Object) → test u q x ≡ test u q (shape x).0)
      → ((q : ℤ) (z : Object) → test w q z ≡ test u q z) → OfEachObject w test → OfEachObject u test
  bare_carried test bare other same each q y is =
      other q y ∙ carried w u alike q y is (λ z. test w q z.0) (λ z. test u q z.0) (λ z. same q z.0) (λ x e. sym (bare q x) ∙ each q x e)

  pub slots_agree_carried : OfEachObject w slots_agree → OfEachObject u slots_agree
  slots_agree_carried each q y is =
      carried w u alike q y is
      (λ z. list_all (has_name (defined_on w (ancestors w q))) z.1 && list_all (has_name z.1) (defined_on w (ancestors w q)))
      (λ z. list_all (has_name (defined_on u (ancestors u q))) z.1 && list_all (has_name z.1) (defined_on u (ancestors u q)))
      (λ z. ap (λ ns. list_all (has_name ns) z.1 && list_all (has_name z.1) ns) (names_same q))
      (λ x e. each q x e)

  link_same : (c : ℤ) (k : Link) → link_fits w c k ≡ link_fits u c k
  link_same c k = λ i. is_connection c && (int_eq k.person (neg_ℤ (pos 3) -ℤ c) || on_same w u alike (λ x. x.header.is_player) (λ x. refl) k.person i)

-- ---- one slot

module _ (w : World) (o : ℤ) (x : Object) (p : Text) (s t : Slot) (is : object_at w o ≡ Some x) (found : named x.slots (fold_case p) ≡ Some s) where
  changed : Object
  changed = record x { slots = with_name x.slots (fold_case p) t }

  after_change : World
  after_change = with_object w o changed

  -- what is there afterwards
  now_at : (q : ℤ) → object_at after_change q ≡ cond (eq_by_cmp int_cmp q o) (Some changed) (object_at w q)
  unfolding after_change
  now_at q = find-put int_cmp int_cmp_total q o changed w.objects

  same_shape : IsTrue (slots_in_order w o x) → shape x ≡ shape changed
  unfolding changed
  same_shape order = λ i. (record x { slots = [] }, sym (keys_put names_total (fold_case p) t x.slots order (ap is_some found)) i)

  is_alike : IsTrue (slots_in_order w o x) → Alike w after_change
  is_alike order q = go (int_cmp q o) refl ∙ ap (option_map shape) (sym (now_at q))
    where
      go : (r : Ordering) → int_cmp q o ≡ r → option_map shape (object_at w q) ≡ option_map shape (cond (is_eq r) (Some changed) (object_at w q))
      go Less e = refl
      go Greater e = refl
      go Equal e = ap (λ j. option_map shape (object_at w j)) (int_cmp-IsAntisymmetric q o e) ∙ ap (option_map shape) is ∙ ap Some (same_shape order)

  order_kept : OfEachObject w slots_in_order → OfEachObject after_change slots_in_order
  unfolding changed
  order_kept each q y there_now = go (eq_by_cmp int_cmp q o) (sym (now_at q) ∙ there_now)
    where
      go : (b : Bool) → cond b (Some changed) (object_at w q) ≡ Some y → IsTrue (slots_in_order after_change q y)
      go false h = each q y h
      go true h = subst (λ z. IsTrue (slots_in_order after_change q (object_or z))) h (still_sorted names_total (fold_case p) t x.slots (each o x is))
        where
          object_or : Option Object → Object
          object_or None = y
          object_or (Some z) = z

  -- a slot that was filled is filled
  filled_kept : IsTrue (is_some t.content) → (q : ℤ) (r : Text) → IsTrue (is_some (content_of (slot_at w q r))) → IsTrue (is_some (content_of (slot_at after_change q r)))
  unfolding changed
  filled_kept full q r h = subst (λ z. IsTrue (is_some (content_of (slot_of z r)))) (sym (now_at q)) (go (int_cmp q o) refl)
    where
      here : (b : Bool) → IsTrue (is_some (content_of (named x.slots (fold_case r)))) → IsTrue (is_some (content_of (cond b (Some t) (named x.slots (fold_case r)))))
      here true k = full
      here false k = k

      go : (c : Ordering) → int_cmp q o ≡ c → IsTrue (is_some (content_of (slot_of (cond (is_eq c) (Some changed) (object_at w q)) r)))
      go Less e = h
      go Greater e = h
      go Equal e =
          subst (λ z. IsTrue (is_some (content_of z))) (sym (find-put (slice_cmp nat_cmp) names_total (fold_case r) (fold_case p) t x.slots))
          (here (eq_by_cmp (slice_cmp nat_cmp) (fold_case r) (fold_case p))
          (subst (λ z. IsTrue (is_some (content_of (slot_of z r)))) (ap (object_at w) (int_cmp-IsAntisymmetric q o e) ∙ is) h))

  definers_kept : IsTrue (slots_in_order w o x) → IsTrue (is_some t.content) → OfEachObject w definers_filled → OfEachObject after_change definers_filled
  definers_kept order full each q y there_now =
      let old = there w after_change (is_alike order) q y there_now in
      all_more (λ r. is_some (content_of (slot_at w q r))) (λ r. is_some (content_of (slot_at after_change q r))) (filled_kept full q) y.defines
      (subst (λ z. IsTrue (list_all (λ r. is_some (content_of (slot_at w q r))) (z.0).defines)) old.2 (each q old.0 old.1))

  object_keeps : IsTrue (is_some t.content) → IsWellFormed w → IsWellFormed after_change
  unfolding after_change
  object_keeps full h =
      let order = h.slot_order o x is in
      let alike : Alike w after_change = is_alike order in
      record {
        objects_in_order = still_sorted int_cmp_total o changed w.objects h.objects_in_order;
        tasks_in_order = h.tasks_in_order;
        links_in_order = h.links_in_order;
        greatest_in_range = h.greatest_in_range;
        next_in_range = h.next_in_range;
        numbers = bare_carried w after_change alike refl number_fits (λ q z. refl) (λ q z. refl) (λ q z. refl) h.numbers;
        parents_end = bare_carried w after_change alike refl has_no_cycle (λ q z. refl) (λ q z. refl) (has_no_cycle_same w after_change alike refl) h.parents_end;
        locations_end = bare_carried w after_change alike refl is_in_no_cycle (λ q z. refl) (λ q z. refl) (is_in_no_cycle_same w after_change alike refl) h.locations_end;
        children = bare_carried w after_change alike refl children_agree (λ q z. refl) (λ q z. refl) (children_same w after_change alike refl) h.children;
        parents = bare_carried w after_change alike refl parent_agrees (λ q z. refl) (λ q z. refl) (parent_same w after_change alike refl) h.parents;
        contents = bare_carried w after_change alike refl contents_agree (λ q z. refl) (λ q z. refl) (contents_same w after_change alike refl) h.contents;
        locations = bare_carried w after_change alike refl location_agrees (λ q z. refl) (λ q z. refl) (location_same w after_change alike refl) h.locations;
        names_on_a_line = bare_carried w after_change alike refl line_names_once (λ q z. refl) (λ q z. refl) (λ q z. ap names_once (names_same w after_change alike refl q)) h.names_on_a_line;
        slot_order = order_kept h.slot_order;
        slots = slots_agree_carried w after_change alike refl h.slots;
        definers = definers_kept order full h.definers;
        links = λ c k at_c. sym (link_same w after_change alike refl c k) ∙ h.links c k at_c;
        persons = h.persons;
        task_ids = h.task_ids;
        task_entries = h.task_entries;
        task_waits = h.task_waits;
        task_places = h.task_places;
        readers = h.readers;
      }

pub slot_keeps : SlotKeeps
unfolding with_slot object_keeps after_change changed
slot_keeps w o p s t h found full = go (object_at w o) refl found
  where
    go : (y : Option Object) → object_at w o ≡ y → slot_of y p ≡ Some s → IsWellFormed (put_slot w o p t y)
    go None is f = h
    go (Some x) is f = object_keeps w o x p s t is f full h
