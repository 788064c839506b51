-- An object that stands alone comes into a world, at the number after the greatest, and the world stays sound.
use Rattle.std.proofs.Common.{◌≡◌, ◌≢◌, ◌⊎◌, inl, inr, ℕ, zero, suc, ◌+◌, ◌≤◌, ℤ, pos, negsuc, Bool, true, false, List, [], ◌∷◌, ◌++◌, Option, Some, None, refl, sym, ap, ◌∙◌, subst, IsTrue, is_none, is_some, cond, is_eq, int_cmp, Ordering, Less, Equal, Greater, arith, ◌&&◌, ◌||◌, leb-true, le-leb, unwrap_or}
use Rattle.std.specs.Prelude.{int_le, ◌+ℤ◌, nat_abs, neg_ℤ}
use Rattle.std.specs.Ordering.{int_eq}
use Rattle.std.specs.List.{list_all}
use Rattle.std.specs.Cmp.{int_cmp_total}
use Rattle.std.specs.FinMap.{int_cmp-IsAntisymmetric}
use Rattle.std.specs.FinMap.Entries.{find-put}
use Rattle.spec_value.specs.Datum.{Text}
use Rattle.spec_world.specs.Families.{nowhere}
use Rattle.spec_world.specs.World.{World, Object, Link, object_at}
use Rattle.spec_world.specs.Inherit.{line, line_onto, line_bound, ancestors, slot_of, content_of}
use Rattle.spec_world.specs.WellFormed.{IsWellFormed, OfEachObject, comes_out, ends_above, is_nowhere, lists, passes, on_object, number_fits, children_agree, parent_agrees, contents_agree, location_agrees, folded_names, defined_on, has_name, names_once, slot_names, line_names_once, slots_agree, slots_in_order, definers_filled, is_connection, link_fits, once}
use Rattle.spec_value.proofs.Entries.{first_holds, second_holds, both_hold}
use Rattle.spec_value.proofs.Keys.{still_sorted}
use Rattle.spec_world.proofs.SlotChanges.{find-put_same, find-put_other}
use Rattle.spec_holding.specs.Whole.{TextsSpell, programs_spelled}
use Rattle.view.specs.Sound.{IsSound}
use Rattle.world.specs.Objects.{next_object, with_next_object, alone, AddingKeeps}

-- ---- tests

either_more : (a b c : Bool) → (IsTrue b → IsTrue c) → IsTrue (a || b) → IsTrue (a || c)
either_more true b c more h = refl
either_more false b c more h = more h

all_more : {X : Type 0} (f g : X → Bool) → ((x : X) → IsTrue (f x) → IsTrue (g x)) → (xs : List X) → IsTrue (list_all f xs) → IsTrue (list_all g xs)
all_more f g more [] h = refl
all_more f g more (x ∷ xs) h = both_hold (g x) (list_all g xs) (more x (first_holds (f x) _ h)) (all_more f g more xs (second_holds (f x) _ h))

none_there : {X : Type 0} (o : Option X) → IsTrue (is_none o) → o ≡ None
none_there None h = refl
none_there (Some x) h = cc

same_some : {X : Type 0} (x y : X) → Some x ≡ Some y → x ≡ y
same_some x y e = ap (λ o. unwrap_or o x) e

-- ---- the number after the greatest

-- the greatest number of a world is -1 at least
abbrev HasRoom : ℤ → Type 0
HasRoom g = IsTrue (int_le (neg_ℤ (pos 1)) g)

beyond : (o g : ℤ) → IsTrue (int_le (pos 0) o && int_le o g) → (o ≢ g +ℤ pos 1)
beyond (pos o) (pos g) h e = let within : o ≤ g = leb-true o g (second_holds (int_le (pos 0) (pos o)) _ h) in let same : o ≡ g + 1 = ap nat_abs e in absurd (omega arith)
beyond (pos o) (negsuc g) h e = absurd (cc (second_holds (int_le (pos 0) (pos o)) _ h))
beyond (negsuc o) g h e = absurd (cc (h))

later : (o g : ℤ) → IsTrue (int_le (pos 0) o && int_le o g) → IsTrue (int_le (pos 0) o && int_le o (g +ℤ pos 1))
later (pos o) (pos g) h =
    let within : o ≤ g = leb-true o g (second_holds (int_le (pos 0) (pos o)) _ h) in
    both_hold (int_le (pos 0) (pos o)) _ (first_holds (int_le (pos 0) (pos o)) _ h) (le-leb o (g + 1) (omega arith))
later (pos o) (negsuc g) h = absurd (cc (second_holds (int_le (pos 0) (pos o)) _ h))
later (negsuc o) g h = absurd (cc (h))

-- what the number after the greatest is like
pub record Next (g : ℤ) : Type 0 where
  pub valid : IsTrue (int_le (pos 0) (g +ℤ pos 1) && int_le (g +ℤ pos 1) (g +ℤ pos 1))
  pub in_range : IsTrue (int_le (neg_ℤ (pos 1)) (g +ℤ pos 1))
  pub is_somewhere : is_nowhere (g +ℤ pos 1) ≡ false
  pub not_nowhere : nowhere ≢ g +ℤ pos 1
  pub bound : nat_abs ((g +ℤ pos 1) +ℤ pos 1) ≡ suc (nat_abs (g +ℤ pos 1))

next_is : (g : ℤ) → HasRoom g → Next g
next_is (pos g) h =
    record {
      valid = both_hold (int_le (pos 0) (pos (g + 1))) _ (le-leb 0 (g + 1) (omega arith)) (le-leb (g + 1) (g + 1) (omega arith));
      in_range = refl;
      is_somewhere = refl;
      not_nowhere = λ e. cc;
      bound = omega arith;
    }
next_is (negsuc zero) h = record { valid = refl; in_range = refl; is_somewhere = refl; not_nowhere = λ e. cc; bound = refl }
next_is (negsuc (suc g)) h = let none : suc g ≤ 0 = leb-true (suc g) 0 h in absurd (omega arith)

-- ---- the world with the object

module _ (w : World) (x : Object) (h : IsWellFormed w) where
  abbrev new : ℤ
  new = next_object w

  abbrev after : World
  after = with_next_object w (alone x)

  next_after : Next w.greatest
  next_after = next_is w.greatest (first_holds (int_le (neg_ℤ (pos 1)) w.greatest) _ h.greatest_in_range)

  -- ---- what is found there

  free : object_at w new ≡ None
  free = go (object_at w new) refl
    where
      go : (o : Option Object) → object_at w new ≡ o → o ≡ None
      go None e = refl
      go (Some y) e = absurd (beyond new w.greatest (h.numbers new y e) refl)

  comes : object_at after new ≡ Some (alone x)
  comes = find-put_same int_cmp_total new (alone x) w.objects

  pub stays : (q : ℤ) → (q ≢ new) → object_at after q ≡ object_at w q
  stays q other = find-put_other int_cmp_total int_cmp-IsAntisymmetric q new (alone x) w.objects other

  is_old : (q : ℤ) (y : Object) → object_at w q ≡ Some y → (q ≢ new)
  is_old q y is e = let clash : None ≡ Some y = sym free ∙ ap (object_at w) (sym e) ∙ is in absurd (cc (clash))

  pub kept : (q : ℤ) (y : Object) → object_at w q ≡ Some y → object_at after q ≡ Some y
  kept q y is = stays q (is_old q y is) ∙ is

  which : (q : ℤ) → (q ≡ new) ⊎ (object_at after q ≡ object_at w q)
  which q = go (int_cmp q new) refl
    where
      other : (r : Ordering) → int_cmp q new ≡ r → is_eq r ≡ false → object_at after q ≡ object_at w q
      other r e differs = find-put int_cmp int_cmp_total q new (alone x) w.objects ∙ ap (λ b. cond b (Some (alone x)) (object_at w q)) (ap is_eq e ∙ differs)

      go : (r : Ordering) → int_cmp q new ≡ r → (q ≡ new) ⊎ (object_at after q ≡ object_at w q)
      go Equal e = inl (int_cmp-IsAntisymmetric q new e)
      go Less e = inr (other Less e refl)
      go Greater e = inr (other Greater e refl)

  nobody : object_at after nowhere ≡ None
  nobody = stays nowhere next_after.not_nowhere ∙ go (object_at w nowhere) refl
    where
      go : (o : Option Object) → object_at w nowhere ≡ o → o ≡ None
      go None e = refl
      go (Some y) e = absurd (cc (h.numbers nowhere y e))

  -- a test that each old object passes as before, and the new one passes
  each : (test : World → ℤ → Object → Bool) → ((q : ℤ) (y : Object) → object_at w q ≡ Some y → IsTrue (test w q y) → IsTrue (test after q y)) → IsTrue (test after new (alone x)) → OfEachObject w test → OfEachObject after test
  each test old fresh all q y is = go (which q)
    where
      go : (q ≡ new) ⊎ (object_at after q ≡ object_at w q) → IsTrue (test after q y)
      go (inl e) =
          let same : alone x ≡ y = same_some (alone x) y (sym comes ∙ ap (object_at after) (sym e) ∙ is) in
          subst (λ o. IsTrue (test after o y)) (sym e) (subst (λ z. IsTrue (test after new z)) same fresh)
      go (inr e) = old q y (sym e ∙ is) (all q y (sym e ∙ is))

  -- what an object that is there passes
  still : (f : Option Object → Bool) → f None ≡ false → (q : ℤ) → IsTrue (f (object_at w q)) → IsTrue (f (object_at after q))
  still f fails q t = go (object_at w q) refl
    where
      go : (o : Option Object) → object_at w q ≡ o → IsTrue (f (object_at after q))
      go None e = let clash : false ≡ true = sym fails ∙ ap f (sym e) ∙ t in absurd (cc (clash))
      go (Some y) e = ap f (kept q y e ∙ sym e) ∙ t

  on_still : (f : Object → Bool) (q : ℤ) → IsTrue (on_object w q f) → IsTrue (on_object after q f)
  on_still f = still (λ o. passes o f) refl

  all_still : (f : Object → Bool) (qs : List ℤ) → IsTrue (list_all (λ c. on_object w c f) qs) → IsTrue (list_all (λ c. on_object after c f) qs)
  all_still f = all_more (λ c. on_object w c f) (λ c. on_object after c f) (on_still f)

  -- ---- upwards from an object

  none_above : (up : Object → ℤ) (n : ℕ) → IsTrue (comes_out up n after nowhere)
  unfolding comes_out
  none_above up zero = ap is_none nobody
  none_above up (suc n) = ap (ends_above (comes_out up n after) up) nobody

  new_comes_out : (up : Object → ℤ) → up (alone x) ≡ nowhere → (n : ℕ) → IsTrue (comes_out up (suc n) after new)
  unfolding comes_out
  new_comes_out up above n = ap (ends_above (comes_out up n after) up) comes ∙ ap (comes_out up n after) above ∙ none_above up n

  -- with one object more there may be one more above
  old_comes_out : (up : Object → ℤ) → up (alone x) ≡ nowhere → (n : ℕ) (q : ℤ) → IsTrue (comes_out up n w q) → IsTrue (comes_out up (suc n) after q)
  unfolding comes_out
  old_comes_out up above zero q t = go (which q)
    where
      go : (q ≡ new) ⊎ (object_at after q ≡ object_at w q) → IsTrue (ends_above (comes_out up zero after) up (object_at after q))
      go (inl e) = subst (λ o. IsTrue (comes_out up 1 after o)) (sym e) (new_comes_out up above zero)
      go (inr e) = ap (ends_above (comes_out up zero after) up) (e ∙ none_there (object_at w q) t)
  old_comes_out up above (suc n) q t = go (old_comes_out up above n) (which q)
    where
      upwards : ((p : ℤ) → IsTrue (comes_out up n w p) → IsTrue (comes_out up (suc n) after p)) → (o : Option Object) → IsTrue (ends_above (comes_out up n w) up o) → IsTrue (ends_above (comes_out up (suc n) after) up o)
      upwards more None k = refl
      upwards more (Some y) k = more (up y) k

      go : ((p : ℤ) → IsTrue (comes_out up n w p) → IsTrue (comes_out up (suc n) after p)) → (q ≡ new) ⊎ (object_at after q ≡ object_at w q) → IsTrue (ends_above (comes_out up (suc n) after) up (object_at after q))
      go more (inl e) = subst (λ o. IsTrue (comes_out up (suc (suc n)) after o)) (sym e) (new_comes_out up above (suc n))
      go more (inr e) = ap (ends_above (comes_out up (suc n) after) up) e ∙ upwards more (object_at w q) t

  ends : (up : Object → ℤ) → up (alone x) ≡ nowhere → OfEachObject w (λ v q y. comes_out up (line_bound v) v q) → OfEachObject after (λ v q y. comes_out up (line_bound v) v q)
  ends up above =
      each (λ v q y. comes_out up (line_bound v) v q)
      (λ q y is t. ap (λ n. comes_out up n after q) next_after.bound ∙ old_comes_out up above (line_bound w) q t)
      (ap (λ n. comes_out up n after new) next_after.bound ∙ new_comes_out up above (line_bound w))

  -- ---- the names on a line

  -- a parent is no new object
  parent_stays : (q : ℤ) (y : Object) → object_at w q ≡ Some y → object_at after y.header.parent ≡ object_at w y.header.parent
  parent_stays q y is = stays y.header.parent (λ e. no_parent (subst (λ o. IsTrue (is_nowhere o || on_object w o (λ z. lists z.children q))) e (h.parents q y is)))
    where
      no_parent : IsTrue (is_nowhere new || on_object w new (λ z. lists z.children q)) → ⊥
      no_parent t = let clash : false ≡ true = sym (λ i. next_after.is_somewhere i || passes (free i) (λ z. lists z.children q)) ∙ t in absurd (cc (clash))

  abbrev names : ℕ → World → ℤ → List Text
  names n v q = defined_on v (line n v q)

  old_names : (n : ℕ) (q : ℤ) → object_at after q ≡ object_at w q → IsTrue (comes_out (λ y. y.header.parent) n w q) → names (suc n) after q ≡ names n w q
  unfolding line comes_out defined_on
  old_names zero q same t = ap (λ o. defined_on after (line_onto (line zero after) q o)) (same ∙ none_there (object_at w q) t)
  old_names (suc n) q same t = go (old_names n) (object_at w q) refl t
    where
      go : ((p : ℤ) → object_at after p ≡ object_at w p → IsTrue (comes_out (λ y. y.header.parent) n w p) → names (suc n) after p ≡ names n w p)
          → (o : Option Object) → object_at w q ≡ o → IsTrue (ends_above (comes_out (λ y. y.header.parent) n w) (λ y. y.header.parent) o)
          → defined_on after (line_onto (line (suc n) after) q (object_at after q)) ≡ defined_on w (line_onto (line n w) q (object_at w q))
      go above None e k = ap (λ o. defined_on after (line_onto (line (suc n) after) q o)) (same ∙ e) ∙ sym (ap (λ o. defined_on w (line_onto (line n w) q o)) e)
      go above (Some y) e k =
          ap (λ o. defined_on after (line_onto (line (suc n) after) q o)) (same ∙ e)
          ∙ (λ i. folded_names (same i) ++ above y.header.parent (parent_stays q y e) k i)
          ∙ sym (ap (λ o. defined_on w (line_onto (line n w) q o)) e)

  pub names_stay : (q : ℤ) (y : Object) → object_at w q ≡ Some y → defined_on after (ancestors after q) ≡ defined_on w (ancestors w q)
  unfolding ancestors
  names_stay q y is = ap (λ n. names n after q) next_after.bound ∙ old_names (line_bound w) q (stays q (is_old q y is)) (h.parents_end q y is)

  no_line : (n : ℕ) → line n after nowhere ≡ []
  unfolding line
  no_line zero = refl
  no_line (suc n) = ap (line_onto (line n after) nowhere) nobody

  no_names : defined_on after (ancestors after new) ≡ []
  unfolding ancestors line defined_on
  no_names =
      ap (λ n. names n after new) next_after.bound
      ∙ ap (λ o. defined_on after (line_onto (line (line_bound w) after) new o)) comes
      ∙ (λ i. folded_names (comes i) ++ defined_on after (no_line (line_bound w) i))

  -- ---- the whole

  abbrev agreeing : List Text → Object → Bool
  agreeing ns y = list_all (has_name ns) (slot_names y) && list_all (has_name (slot_names y)) ns

  children_still : OfEachObject after children_agree
  unfolding once
  children_still =
      each children_agree (λ q y is t. both_hold (once y.children) _ (first_holds (once y.children) _ t) (all_still (λ z. int_eq z.header.parent q) y.children (second_holds (once y.children) _ t))) refl h.children

  contents_still : OfEachObject after contents_agree
  unfolding once
  contents_still =
      each contents_agree (λ q y is t. both_hold (once y.contents) _ (first_holds (once y.contents) _ t) (all_still (λ z. int_eq z.header.location q) y.contents (second_holds (once y.contents) _ t))) refl h.contents

  links_still : (c : ℤ) (k : Link) → IsTrue (link_fits w c k) → IsTrue (link_fits after c k)
  links_still c k t =
      both_hold (is_connection c) _ (first_holds (is_connection c) _ t)
      (either_more _ _ _ (on_still (λ z. z.header.is_player) k.person) (second_holds (is_connection c) _ t))

  definers_still : (q : ℤ) (y : Object) → object_at w q ≡ Some y → IsTrue (definers_filled w q y) → IsTrue (definers_filled after q y)
  definers_still q y is t = ap (λ o. list_all (λ p. is_some (content_of (slot_of o p))) y.defines) (stays q (is_old q y is)) ∙ t

  fits : IsTrue (int_le new (pos 999999)) → IsWellFormed after
  unfolding names_once
  fits room =
      record {
        objects_in_order = still_sorted int_cmp_total new (alone x) w.objects h.objects_in_order;
        tasks_in_order = h.tasks_in_order;
        links_in_order = h.links_in_order;
        greatest_in_range = both_hold (int_le (neg_ℤ (pos 1)) new) (int_le new (pos 999999)) next_after.in_range room;
        next_in_range = h.next_in_range;
        numbers = each number_fits (λ q y is t. later q w.greatest t) next_after.valid h.numbers;
        parents_end = ends (λ y. y.header.parent) refl h.parents_end;
        locations_end = ends (λ y. y.header.location) refl h.locations_end;
        children = children_still;
        parents = each parent_agrees (λ q y is t. either_more (is_nowhere y.header.parent) _ _ (on_still (λ z. lists z.children q) y.header.parent) t) refl h.parents;
        contents = contents_still;
        locations = each location_agrees (λ q y is t. either_more (is_nowhere y.header.location) _ _ (on_still (λ z. lists z.contents q) y.header.location) t) refl h.locations;
        names_on_a_line = each line_names_once (λ q y is t. ap names_once (names_stay q y is) ∙ t) (ap names_once no_names) h.names_on_a_line;
        slot_order = each slots_in_order (λ q y is t. t) refl h.slot_order;
        slots = each slots_agree (λ q y is t. ap (λ ns. agreeing ns y) (names_stay q y is) ∙ t) (ap (λ ns. agreeing ns (alone x)) no_names) h.slots;
        definers = each definers_filled definers_still refl h.definers;
        links = λ c k at_c. links_still c k (h.links c k at_c);
        persons = h.persons;
        task_ids = h.task_ids;
        task_entries = h.task_entries;
        task_waits = h.task_waits;
        task_places = h.task_places;
        readers = h.readers;
      }

  spelled : TextsSpell w → TextsSpell after
  spelled k = (each programs_spelled (λ q y is t. t) refl k.0, k.1)

pub adding_keeps : AddingKeeps
adding_keeps w x h room stands =
    subst (λ y. IsSound (with_next_object w y)) (sym stands)
    (record { well_formed = fits w x h.well_formed room; spelled = spelled w x h.well_formed h.spelled })
