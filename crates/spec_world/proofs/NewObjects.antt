-- A new object: it is the last child of its parent, and inherits its properties.
use Rattle.std.proofs.Common.{◌≡◌, ◌≢◌, ◌⊎◌, inl, inr, zero, suc, ◌+◌, ◌≤◌, ℤ, pos, negsuc, Bool, true, false, ◌&&◌, List, [], ◌∷◌, ◌++◌, map, Option, Some, None, refl, sym, ap, ◌∙◌, subst, cond, IsTrue, is_some, arith, leb-true, le-leb}
use Rattle.std.proofs.Common.{append-nil}
use Rattle.std.specs.Prelude.{neg_ℤ, option_map, int_le, ◌+ℤ◌, nat_abs}
use Rattle.std.specs.Ordering.{int_eq}
use Rattle.std.specs.Cmp.{int_cmp_total}
use Rattle.spec_value.specs.Datum.{Text, fold_case}
use Rattle.spec_value.specs.Table.{named, is_named}
use Rattle.spec_world.specs.World.{World, Object, object_at, with_object}
use Rattle.spec_world.specs.WellFormed.{OfEachObject, number_fits, folded_names, defined_on, has_name, names_once, lists}
use Rattle.spec_world.specs.Inherit.{content_of}
use Rattle.spec_world.specs.Families.{nowhere, next_object, child_of, add_child, created, heir_slot, heir_slots, slots_at}
use Rattle.spec_value.proofs.Entries.{first_holds, second_holds, both_hold}
use Rattle.spec_value.proofs.Keys.{still_sorted}
use Rattle.spec_value.proofs.Same.{integer_itself}
use Rattle.spec_world.proofs.Trees.{same_or_not, turned, some_same, Node, Path, path_from, on_path, one_path, hung_under, added, added_tree, old_path, new_node_path}
use Rattle.spec_world.proofs.WorldTrees.{parents, places, object_there}
use Rattle.spec_world.proofs.SlotTables.{named_heirs, heirs_sorted}
use Rattle.spec_world.proofs.Households.{Own, Household, at_put, change_numbered, change_greatest, names_same, same_tree, same_path}
use Rattle.spec_world.proofs.ObjectChanges.{kin, spot, at_change}

-- ---- the number after the greatest

beyond : (o g : ℤ) → IsTrue (int_le (pos 0) o && int_le o g) → (o ≢ g +ℤ pos 1)
beyond (pos o) (pos g) h e = let within : o ≤ g = leb-true o g (second_holds (int_le (pos 0) (pos o)) _ h) in let same : o ≡ g + 1 = ap nat_abs e in absurd (omega arith)
beyond (pos o) (negsuc g) h e = absurd (cc (second_holds (int_le (pos 0) (pos o)) _ h))
beyond (negsuc o) g h e = absurd (cc (h))

later : (o g : ℤ) → IsTrue (int_le (pos 0) o && int_le o g) → IsTrue (int_le (pos 0) o && int_le o (g +ℤ pos 1))
later (pos o) (pos g) h =
    let within : o ≤ g = leb-true o g (second_holds (int_le (pos 0) (pos o)) _ h) in
    both_hold (int_le (pos 0) (pos o)) _ (first_holds (int_le (pos 0) (pos o)) _ h) (le-leb o (g + 1) (omega arith))
later (pos o) (negsuc g) h = absurd (cc (second_holds (int_le (pos 0) (pos o)) _ h))
later (negsuc o) g h = absurd (cc (h))

-- what the number after the greatest is like
record Next (g : ℤ) : Type 0 where
  valid : IsTrue (int_le (pos 0) (g +ℤ pos 1) && int_le (g +ℤ pos 1) (g +ℤ pos 1))
  in_range : IsTrue (int_le (neg_ℤ (pos 1)) (g +ℤ pos 1))
  somewhere : int_eq nowhere (g +ℤ pos 1) ≡ false

next_is : (g : ℤ) → IsTrue (int_le (neg_ℤ (pos 1)) g) → Next g
next_is (pos g) h =
    record { valid = both_hold (int_le (pos 0) (pos (g + 1))) _ (le-leb 0 (g + 1) (omega arith)) (le-leb (g + 1) (g + 1) (omega arith)); in_range = refl; somewhere = refl }
next_is (negsuc zero) h = record { valid = refl; in_range = refl; somewhere = refl }
next_is (negsuc (suc g)) h = let none : suc g ≤ 0 = leb-true (suc g) 0 h in absurd (omega arith)

-- ---- the world with the object

module _ (w : World) (p owner : ℤ) (h : Household w) (room : IsTrue (int_le (next_object w) (pos 999999))) (there : (p ≡ nowhere) ⊎ IsTrue (is_some (object_at w p))) where
  abbrev new : ℤ
  new = next_object w

  abbrev child : Object
  child = child_of w p owner

  abbrev made : World
  made = add_child (with_object (record w { greatest = new }) new child) p new

  next_then : Next w.greatest
  next_then = next_is w.greatest (first_holds (int_le (neg_ℤ (pos 1)) w.greatest) _ h.range)

  pub free : object_at w new ≡ None
  free = go (object_at w new) refl
    where
      go : (o : Option Object) → object_at w new ≡ o → o ≡ None
      go None e = refl
      go (Some y) e = absurd (beyond new w.greatest (h.numbers new y e) refl)

  is_old : (q : ℤ) (y : Object) → object_at w q ≡ Some y → int_eq q new ≡ false
  is_old q y e = go (same_or_not q new)
    where
      go : (q ≡ new) ⊎ (int_eq q new ≡ false) → int_eq q new ≡ false
      go (inl s) = let clash : None ≡ Some y = sym free ∙ ap (object_at w) (sym s) ∙ e in absurd (cc (clash))
      go (inr s) = s

  is_somewhere : (q : ℤ) (y : Object) → object_at w q ≡ Some y → int_eq q nowhere ≡ false
  is_somewhere q y e = go (same_or_not q nowhere)
    where
      go : (q ≡ nowhere) ⊎ (int_eq q nowhere ≡ false) → int_eq q nowhere ≡ false
      go (inl s) = absurd (cc (subst (λ z. IsTrue (int_le (pos 0) z && int_le z w.greatest)) s (h.numbers q y e)))
      go (inr s) = s

  other_parent : int_eq p new ≡ false
  other_parent = go there
    where
      go : (p ≡ nowhere) ⊎ IsTrue (is_some (object_at w p)) → int_eq p new ≡ false
      go (inl e) = subst (λ z. int_eq z new ≡ false) (sym e) next_then.somewhere
      go (inr e) = by (object_at w p) refl e
        where
          by : (m : Option Object) → object_at w p ≡ m → IsTrue (is_some m) → int_eq p new ≡ false
          by None k s = cc
          by (Some y) k s = is_old p y k

  abbrev with_child : ℤ → Object → Object
  with_child q y = cond (int_eq q p) (record y { children = y.children ++ new ∷ [] }) y

  there_made : (q : ℤ) → object_at made q ≡ option_map (with_child q) (cond (int_eq q new) (Some child) (object_at w q))
  there_made q = at_change _ p q _ ∙ ap (option_map (with_child q)) (at_put (record w { greatest = new }) new q child)

  new_there : object_at made new ≡ Some child
  new_there =
      there_made new ∙ ap (λ b. option_map (with_child new) (cond b (Some child) (object_at w new))) (integer_itself new)
      ∙ ap (λ b. Some (cond b (record child { children = child.children ++ new ∷ [] }) child)) (turned p new other_parent)

  old_there : (q : ℤ) → int_eq q new ≡ false → object_at made q ≡ option_map (with_child q) (object_at w q)
  old_there q s = there_made q ∙ ap (λ b. option_map (with_child q) (cond b (Some child) (object_at w q))) s

  made_parents : (q : ℤ) → parents made q ≡ added (parents w) new p q
  made_parents q = go (same_or_not q new)
    where
      by : (b : Bool) (m : Option Object) → option_map kin (option_map (λ y. cond b (record y { children = y.children ++ new ∷ [] }) y) m)
          ≡ option_map (λ (n : Node). (n.0, n.1 ++ cond b (new ∷ []) [])) (option_map kin m)
      by b None = refl
      by true (Some y) = refl
      by false (Some y) = λ i. Some (y.header.parent, sym (append-nil y.children) i)

      go : (q ≡ new) ⊎ (int_eq q new ≡ false) → parents made q ≡ added (parents w) new p q
      go (inl s) =
          ap (parents made) s ∙ ap (option_map kin) new_there
          ∙ sym (ap (λ b. cond b (Some (p, [])) (option_map (λ (n : Node). (n.0, n.1 ++ hung_under new p q)) (parents w q))) (subst (λ z. int_eq q z ≡ true) s (integer_itself q)))
      go (inr s) =
          ap (option_map kin) (old_there q s) ∙ by (int_eq q p) (object_at w q)
          ∙ sym (ap (λ b. cond b (Some (p, [])) (option_map (λ (n : Node). (n.0, n.1 ++ hung_under new p q)) (parents w q))) s)

  made_places : (q : ℤ) → places made q ≡ added (places w) new nowhere q
  made_places q = go (same_or_not q new)
    where
      by : (b : Bool) (m : Option Object) → object_at w q ≡ m → option_map spot (option_map (λ y. cond b (record y { children = y.children ++ new ∷ [] }) y) m)
          ≡ option_map (λ (n : Node). (n.0, n.1 ++ hung_under new nowhere q)) (option_map spot m)
      by b None e = refl
      by true (Some y) e = λ i. Some (y.header.location, (sym (append-nil y.contents) ∙ ap (λ d. y.contents ++ cond d (new ∷ []) []) (sym (is_somewhere q y e))) i)
      by false (Some y) e = λ i. Some (y.header.location, (sym (append-nil y.contents) ∙ ap (λ d. y.contents ++ cond d (new ∷ []) []) (sym (is_somewhere q y e))) i)

      go : (q ≡ new) ⊎ (int_eq q new ≡ false) → places made q ≡ added (places w) new nowhere q
      go (inl s) =
          ap (places made) s ∙ ap (option_map spot) new_there
          ∙ sym (ap (λ b. cond b (Some (nowhere, [])) (option_map (λ (n : Node). (n.0, n.1 ++ hung_under new nowhere q)) (places w q))) (subst (λ z. int_eq q z ≡ true) s (integer_itself q)))
      go (inr s) =
          ap (option_map spot) (old_there q s) ∙ by (int_eq q p) (object_at w q) refl
          ∙ sym (ap (λ b. cond b (Some (nowhere, [])) (option_map (λ (n : Node). (n.0, n.1 ++ hung_under new nowhere q)) (places w q))) s)

  parent_node : (p ≡ nowhere) ⊎ ((y : Node) × (parents w p ≡ Some y))
  parent_node = go there
    where
      go : (p ≡ nowhere) ⊎ IsTrue (is_some (object_at w p)) → (p ≡ nowhere) ⊎ ((y : Node) × (parents w p ≡ Some y))
      go (inl e) = inl e
      go (inr e) = by (object_at w p) refl e
        where
          by : (m : Option Object) → object_at w p ≡ m → IsTrue (is_some m) → (p ≡ nowhere) ⊎ ((y : Node) × (parents w p ≡ Some y))
          by None k s = cc
          by (Some y) k s = inr (kin y, ap (option_map kin) k)

  found : (q : ℤ) (y : Object) → object_at made q ≡ Some y
      → ((q ≡ new) × (y ≡ child)) ⊎ ((int_eq q new ≡ false) × ((x : Object) × (object_at w q ≡ Some x) × (y ≡ with_child q x)))
  found q y e = go (same_or_not q new) (object_at w q) refl
    where
      go : (q ≡ new) ⊎ (int_eq q new ≡ false) → (m : Option Object) → object_at w q ≡ m
          → ((q ≡ new) × (y ≡ child)) ⊎ ((int_eq q new ≡ false) × ((x : Object) × (object_at w q ≡ Some x) × (y ≡ with_child q x)))
      go (inl s) m k = inl (s, some_same (sym e ∙ ap (object_at made) s ∙ new_there))
      go (inr s) None k = let clash : None ≡ Some y = sym (old_there q s ∙ ap (option_map (with_child q)) k) ∙ e in absurd (cc (clash))
      go (inr s) (Some x) k = inr (s, (x, k, some_same (sym e ∙ old_there q s ∙ ap (option_map (with_child q)) k)))

  -- along a line of the world before, the same names are defined
  old_names : (q : ℤ) (ps : List ℤ) → Path (parents w) q ps → defined_on made ps ≡ defined_on w ps
  old_names q ps way = names_same w made ps each
    where
      by : (b : Bool) (m : Option Object) → folded_names (option_map (λ y. cond b (record y { children = y.children ++ new ∷ [] }) y) m) ≡ folded_names m
      by b None = refl
      by true (Some y) = refl
      by false (Some y) = refl

      each : (r : ℤ) → IsTrue (lists ps r) → folded_names (object_at made r) ≡ folded_names (object_at w r)
      each r l =
          let n = on_path (parents w) r q ps way l in
          let x = object_there (λ y. y.header.parent) (λ y. y.children) w r n.0 n.1 in
          ap folded_names (old_there r (is_old r x.0 x.1)) ∙ by (int_eq r p) (object_at w r)

  made_path : (q : ℤ) (ps qs : List ℤ) → int_eq q new ≡ false → Path (parents w) q ps → Path (parents made) q qs → qs ≡ ps
  made_path q ps qs s way now =
      one_path (added (parents w) new p) q qs ps (same_path (parents made) (added (parents w) new p) made_parents q qs now)
      (old_path (parents w) new p free_node next_then.somewhere other_parent h.family q ps s way)
    where
      free_node : parents w new ≡ None
      free_node = ap (option_map kin) free

  free_parent : parents w new ≡ None
  free_parent = ap (option_map kin) free

  free_place : places w new ≡ None
  free_place = ap (option_map spot) free

  new_line : (us qs : List ℤ) → Path (parents w) p us → Path (parents made) new qs → qs ≡ new ∷ us
  new_line us qs way now =
      one_path (added (parents w) new p) new qs (new ∷ us) (same_path (parents made) (added (parents w) new p) made_parents new qs now)
      (new_node_path (parents w) new p free_parent next_then.somewhere other_parent h.family us way)

  inherited : (us : List ℤ) → Path (parents w) p us → (t : Text) → is_some (named child.slots t) ≡ has_name (defined_on w us) t
  unfolding defined_on
  inherited us way t = go (object_at w p) refl us way
    where
      go : (m : Option Object) → object_at w p ≡ m → (us : List ℤ) → Path (parents w) p us
          → is_some (named (heir_slots owner (slots_at m)) t) ≡ has_name (defined_on w us) t
      go None e [] way = refl
      go None e (q ∷ us) way = let clash : None ≡ Some way.1.0 = sym (ap (option_map kin) e) ∙ way.1.1 in absurd (cc (clash))
      go (Some z) e us way = ap is_some (named_heirs owner z.slots t) ∙ mapped (named z.slots t) ∙ (h.own p z us e way).slots t
        where
          mapped : (m : Option _) → is_some (option_map (heir_slot owner) m) ≡ is_some m
          mapped None = refl
          mapped (Some s) = refl

  child_sorted : IsTrue (is_named child.slots)
  child_sorted = go (object_at w p) refl
    where
      go : (m : Option Object) → object_at w p ≡ m → IsTrue (is_named (heir_slots owner (slots_at m)))
      go None e = refl
      go (Some z) e = let way = path_from (parents w) h.family p in heirs_sorted owner z.slots (h.own p z way.0 e way.1).sorted

  names_above : (us : List ℤ) → Path (parents w) p us → IsTrue (names_once (defined_on w us))
  unfolding defined_on names_once
  names_above us way = go (object_at w p) refl us way
    where
      go : (m : Option Object) → object_at w p ≡ m → (us : List ℤ) → Path (parents w) p us → IsTrue (names_once (defined_on w us))
      go None e [] way = refl
      go None e (q ∷ us) way = let clash : None ≡ Some way.1.0 = sym (ap (option_map kin) e) ∙ way.1.1 in absurd (cc (clash))
      go (Some z) e us way = (h.own p z us e way).once

  owns : (q : ℤ) (y : Object) (qs : List ℤ) → object_at made q ≡ Some y → Path (parents made) q qs → Own made y qs
  unfolding defined_on
  owns q y qs e now = go (found q y e)
    where
      own_new : (us : List ℤ) → Path (parents w) p us → Own made child (new ∷ us)
      own_new us way =
          let names : defined_on made (new ∷ us) ≡ defined_on w us = ap (λ m. folded_names m ++ defined_on made us) new_there ∙ old_names p us way in
          record {
            sorted = child_sorted;
            once = subst (λ ts. IsTrue (names_once ts)) (sym names) (names_above us way);
            slots = λ t. inherited us way t ∙ ap (λ ts. has_name ts t) (sym names);
            filled = λ t k. cc;
          }

      kept : (x : Object) (b : Bool) → y ≡ cond b (record x { children = x.children ++ new ∷ [] }) x → Own w x qs
          → defined_on made qs ≡ defined_on w qs → Own made y qs
      kept x true s own names =
          record {
            sorted = subst (λ z. IsTrue (is_named z.slots)) (sym s) own.sorted;
            once = subst (λ ts. IsTrue (names_once ts)) (sym names) own.once;
            slots = λ t. ap (λ z. is_some (named z.slots t)) s ∙ own.slots t ∙ ap (λ ts. has_name ts t) (sym names);
            filled = subst (λ z. (t : Text) → IsTrue (has_name (map fold_case z.defines) t) → IsTrue (is_some (content_of (named z.slots t)))) (sym s) own.filled;
          }
      kept x false s own names =
          record {
            sorted = subst (λ z. IsTrue (is_named z.slots)) (sym s) own.sorted;
            once = subst (λ ts. IsTrue (names_once ts)) (sym names) own.once;
            slots = λ t. ap (λ z. is_some (named z.slots t)) s ∙ own.slots t ∙ ap (λ ts. has_name ts t) (sym names);
            filled = subst (λ z. (t : Text) → IsTrue (has_name (map fold_case z.defines) t) → IsTrue (is_some (content_of (named z.slots t)))) (sym s) own.filled;
          }

      go : ((q ≡ new) × (y ≡ child)) ⊎ ((int_eq q new ≡ false) × ((x : Object) × (object_at w q ≡ Some x) × (y ≡ with_child q x))) → Own made y qs
      go (inl s) =
          let way = path_from (parents w) h.family p in
          let line : qs ≡ new ∷ way.0 = new_line way.0 qs way.1 (subst (λ z. Path (parents made) z qs) s.0 now) in
          subst (λ l. Own made y l) (sym line) (subst (λ z. Own made z (new ∷ way.0)) (sym s.1) (own_new way.0 way.1))
      go (inr s) =
          let way = path_from (parents w) h.family q in
          let line : qs ≡ way.0 = made_path q way.0 qs s.0 way.1 now in
          let before : Path (parents w) q qs = subst (λ l. Path (parents w) q l) (sym line) way.1 in
          kept s.1.0 (int_eq q p) s.1.2 (h.own q s.1.0 qs s.1.1 before) (old_names q qs before)

  made_greatest : made.greatest ≡ new
  made_greatest = change_greatest (with_object (record w { greatest = new }) new child) p (λ x. record x { children = x.children ++ new ∷ [] })

  pub made_household : Household made
  made_household =
      record {
        order = change_numbered _ p _ (still_sorted int_cmp_total new child w.objects h.order);
        range = subst (λ g. IsTrue (int_le (neg_ℤ (pos 1)) g && int_le g (pos 999999))) (sym made_greatest) (both_hold (int_le (neg_ℤ (pos 1)) new) _ next_then.in_range room);
        numbers = numbered;
        family = same_tree (parents made) (added (parents w) new p) made_parents (added_tree (parents w) new p free_parent next_then.somewhere other_parent h.family parent_node);
        whereabouts = same_tree (places made) (added (places w) new nowhere) made_places (added_tree (places w) new nowhere free_place next_then.somewhere next_then.somewhere h.whereabouts (inl refl));
        own = owns;
      }
    where
      numbered : OfEachObject made number_fits
      numbered q y e = subst (λ g. IsTrue (int_le (pos 0) q && int_le q g)) (sym made_greatest) (go (found q y e))
        where
          go : ((q ≡ new) × (y ≡ child)) ⊎ ((int_eq q new ≡ false) × ((x : Object) × (object_at w q ≡ Some x) × (y ≡ with_child q x)))
              → IsTrue (int_le (pos 0) q && int_le q new)
          go (inl s) = subst (λ z. IsTrue (int_le (pos 0) z && int_le z new)) (sym s.0) next_then.valid
          go (inr s) = later q w.greatest (h.numbers q s.1.0 s.1.1)

pub created_household : (w : World) (p owner : ℤ) → Household w → IsTrue (int_le (next_object w) (pos 999999))
    → (p ≡ nowhere) ⊎ IsTrue (is_some (object_at w p)) → Household (created w p owner)
unfolding created
created_household = made_household
