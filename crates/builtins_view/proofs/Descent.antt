-- Names lost and slots inherited one by one are the heirs of an object with another parent.
use Rattle.std.proofs.Common.{◌≡◌, ◌⊎◌, inl, inr, ℤ, Bool, true, false, not, ◌||◌, List, [], ◌∷◌, map, Option, Some, None, refl, sym, ap, ◌∙◌, cond, IsTrue, is_some, nat_cmp}
use Rattle.std.specs.Prelude.{option_map}
use Rattle.std.specs.Ordering.{int_eq}
use Rattle.std.specs.Cmp.Lexicographic.{slice_cmp}
use Rattle.std.specs.FinMap.Entries.{same_entries}
use Rattle.spec_value.specs.Datum.{Text, fold_case, same_text}
use Rattle.spec_value.specs.Table.{Named, named, with_name, without_name, is_named, is_numbered}
use Rattle.spec_value.proofs.Keys.{as_type}
use Rattle.spec_value.proofs.Same.{text_itself}
use Rattle.spec_world.specs.World.{World, Object, Slot, object_at}
use Rattle.spec_world.specs.Inherit.{slot_of, slot_at}
use Rattle.spec_world.specs.WellFormed.{defined_on, has_name, lists}
use Rattle.spec_world.specs.Agreeing.{ObjectsAgree}
use Rattle.spec_world.specs.Families.{heir_slot, heir_slots, slots_at, slots_named, added_slot, with_slots, parent_of, is_below, kept_names, heir_of, with_heirs}
use Rattle.spec_world.specs.Members.{with_own_slot}
use Rattle.spec_world.proofs.Trees.{Path, path_from, same_or_not}
use Rattle.spec_world.proofs.WorldTrees.{parents, ancestors_of}
use Rattle.spec_world.proofs.Households.{Own, Household, household, at_each, each_numbered, change_numbered}
use Rattle.spec_world.proofs.SlotChanges.{names_total, names_apart}
use Rattle.spec_world.proofs.SlotTables.{text_turned, named_with, named_without, without_sorted, named_heirs, named_kept, kept_sorted, or_first, named_both, both_sorted}
use Rattle.spec_world.proofs.ObjectChanges.{at_change}
use Rattle.spec_world.proofs.PropertyChanges.{below_is}
use Rattle.spec_world.proofs.Reparenting.{slots_above}
use Rattle.rules.specs.Below.{IsFamily}
use Rattle.rules.specs.InTurn.{in_turn}
use Rattle.rules.specs.Losing.{losing}
use Rattle.rules.proofs.OneByOne.{at_in_turn, in_turn_numbered, objects_alone, one_alone, same_tables}
use Rattle.rules.proofs.OneByOne.{losing_again}
use Rattle.builtins_view.specs.Along.{folded}
use Rattle.builtins_view.specs.Heirs.{names_beside, slots_beside, lose_each, inherited, inherit_down, inherit_each}
use Rattle.builtins_view.proofs.Inherited.{named_of}
use Rattle.builtins_view.proofs.Lines.{kept_or_lost, old_or_new}

-- ---- one object

abbrev slots_lost : List Text → Named Slot → Named Slot
slots_lost [] es = es
slots_lost (p ∷ ps) es = slots_lost ps (without_name es (fold_case p))

named_lost : (ps : List Text) (es : Named Slot) (t : Text) → named (slots_lost ps es) t ≡ cond (has_name (map fold_case ps) t) None (named es t)
named_lost [] es t = refl
named_lost (p ∷ ps) es t =
    named_lost ps (without_name es (fold_case p)) t
    ∙ ap (cond (has_name (map fold_case ps) t) None) (named_without es (fold_case p) t ∙ ap (λ b. cond b None (named es t)) (text_turned (fold_case p) t))
    ∙ go (same_text t (fold_case p)) (has_name (map fold_case ps) t)
  where
    go : (a b : Bool) → cond b None (cond a None (named es t)) ≡ cond (a || b) None (named es t)
    go true true = refl
    go true false = refl
    go false b = refl

lost_sorted : (ps : List Text) (es : Named Slot) → IsTrue (is_named es) → IsTrue (is_named (slots_lost ps es))
lost_sorted [] es h = h
lost_sorted (p ∷ ps) es h = lost_sorted ps (without_name es (fold_case p)) (without_sorted es (fold_case p) h)

abbrev with_lost : List Text → Object → Object
with_lost ps x = record x { slots = slots_lost ps x.slots }

abbrev with_heritage : List (Text × Slot) → Object → Object
with_heritage es x = record x { slots = with_slots x.slots (heir_slots x.header.owner (folded es)) }

abbrev inheriting : Text → Slot → Object → Object
inheriting p s x = record x { slots = added_slot x.slots (fold_case p) (heir_slot x.header.owner s) (named x.slots (fold_case p)) }

inheriting_again : (p : Text) (s : Slot) (x : Object) → inheriting p s (inheriting p s x) ≡ inheriting p s x
inheriting_again p s x = ap (λ es. record x { slots = es }) (go (named x.slots (fold_case p)) refl)
  where
    go : (m : Option Slot) → named x.slots (fold_case p) ≡ m
        → added_slot (added_slot x.slots (fold_case p) (heir_slot x.header.owner s) m) (fold_case p) (heir_slot x.header.owner s)
        (named (added_slot x.slots (fold_case p) (heir_slot x.header.owner s) m) (fold_case p))
        ≡ added_slot x.slots (fold_case p) (heir_slot x.header.owner s) m
    go (Some t) e = ap (added_slot x.slots (fold_case p) (heir_slot x.header.owner s)) e
    go None e =
        ap (added_slot (with_name x.slots (fold_case p) (heir_slot x.header.owner s)) (fold_case p) (heir_slot x.header.owner s))
        (named_with x.slots (fold_case p) (fold_case p) (heir_slot x.header.owner s)
        ∙ ap (λ b. cond b (Some (heir_slot x.header.owner s)) (named x.slots (fold_case p))) (text_itself (fold_case p)))

-- ---- an object inherits a slot

module _ (p : Text) (s : Slot) where
  at_one : (w : World) (d q : ℤ) → object_at (inherited w d p s (slot_at w d p)) q ≡ option_map (λ x. cond (int_eq q d) (inheriting p s x) x) (object_at w q)
  at_one w d q = go (slot_at w d p) refl (same_or_not q d)
    where
      here : (m : Option Object) (b : Bool) → slot_of m p ≡ None
          → option_map (λ x. cond b (with_own_slot x p (heir_slot x.header.owner s)) x) m ≡ option_map (λ x. cond b (inheriting p s x) x) m
      here None b e = refl
      here (Some x) true e = ap (λ n. Some (record x { slots = added_slot x.slots (fold_case p) (heir_slot x.header.owner s) n })) (sym e)
      here (Some x) false e = refl

      there : (m : Option Object) (b : Bool) (t : Slot) → slot_of m p ≡ Some t → m ≡ option_map (λ x. cond b (inheriting p s x) x) m
      there None b t e = refl
      there (Some x) true t e = ap (λ n. Some (record x { slots = added_slot x.slots (fold_case p) (heir_slot x.header.owner s) n })) (sym e)
      there (Some x) false t e = refl

      elsewhere : (f : Object → Object) (m : Option Object) → m ≡ option_map (λ x. cond false (f x) x) m
      elsewhere f None = refl
      elsewhere f (Some x) = refl

      go : (m : Option Slot) → slot_at w d p ≡ m → (q ≡ d) ⊎ (int_eq q d ≡ false)
          → object_at (inherited w d p s m) q ≡ option_map (λ x. cond (int_eq q d) (inheriting p s x) x) (object_at w q)
      go None e (inl i) = at_change w d q (λ x. with_own_slot x p (heir_slot x.header.owner s)) ∙ here (object_at w q) (int_eq q d) (ap (λ z. slot_at w z p) i ∙ e)
      go None e (inr i) =
          at_change w d q (λ x. with_own_slot x p (heir_slot x.header.owner s))
          ∙ ap (λ b. option_map (λ x. cond b (with_own_slot x p (heir_slot x.header.owner s)) x) (object_at w q)) i
          ∙ ap (λ b. option_map (λ x. cond b (inheriting p s x) x) (object_at w q)) (sym i)
      go (Some t) e (inl i) = there (object_at w q) (int_eq q d) t (ap (λ z. slot_at w z p) i ∙ e)
      go (Some t) e (inr i) = elsewhere (inheriting p s) (object_at w q) ∙ ap (λ b. option_map (λ x. cond b (inheriting p s x) x) (object_at w q)) (sym i)

  at_down : (ds : List ℤ) (w : World) (q : ℤ) → object_at (inherit_down p s ds w) q ≡ option_map (λ x. cond (lists ds q) (inheriting p s x) x) (object_at w q)
  at_down [] w q = go (object_at w q)
    where
      go : (m : Option Object) → m ≡ option_map (λ x. x) m
      go None = refl
      go (Some x) = refl
  at_down (d ∷ ds) w q =
      at_down ds (inherited w d p s (slot_at w d p)) q ∙ ap (option_map (λ x. cond (lists ds q) (inheriting p s x) x)) (at_one w d q) ∙ go (object_at w q) (int_eq q d) (lists ds q)
    where
      go : (m : Option Object) (a b : Bool) → option_map (λ x. cond b (inheriting p s x) x) (option_map (λ y. cond a (inheriting p s y) y) m) ≡ option_map (λ x. cond (a || b) (inheriting p s x) x) m
      go None a b = refl
      go (Some x) true true = ap Some (inheriting_again p s x)
      go (Some x) true false = refl
      go (Some x) false b = refl

  one_numbered : (w : World) (d : ℤ) (m : Option Slot) → IsTrue (is_numbered w.objects) → IsTrue (is_numbered (inherited w d p s m).objects)
  one_numbered w d None h = change_numbered w d (λ x. with_own_slot x p (heir_slot x.header.owner s)) h
  one_numbered w d (Some t) h = h

  down_numbered : (ds : List ℤ) (w : World) → IsTrue (is_numbered w.objects) → IsTrue (is_numbered (inherit_down p s ds w).objects)
  down_numbered [] w h = h
  down_numbered (d ∷ ds) w h = down_numbered ds (inherited w d p s (slot_at w d p)) (one_numbered w d (slot_at w d p) h)

  one_only : (w : World) (d : ℤ) (m : Option Slot) → inherited w d p s m ≡ record w { objects = (inherited w d p s m).objects }
  one_only w d None = one_alone w d (λ x. with_own_slot x p (heir_slot x.header.owner s))
  one_only w d (Some t) = refl

  down_alone : (ds : List ℤ) (w : World) → inherit_down p s ds w ≡ record w { objects = (inherit_down p s ds w).objects }
  down_alone [] w = refl
  down_alone (d ∷ ds) w =
      down_alone ds (inherited w d p s (slot_at w d p))
      ∙ ap (λ (u : World). record u { objects = (inherit_down p s ds (inherited w d p s (slot_at w d p))).objects }) (one_only w d (slot_at w d p))

-- ---- each of them

module _ (ds : List ℤ) where
  at_lost : (ps : List Text) (w : World) (q : ℤ) → object_at (lose_each ps ds w) q ≡ option_map (λ x. cond (lists ds q) (with_lost ps x) x) (object_at w q)
  at_lost [] w q = go (lists ds q) (object_at w q)
    where
      go : (b : Bool) (m : Option Object) → m ≡ option_map (λ x. cond b (with_lost [] x) x) m
      go b None = refl
      go true (Some x) = refl
      go false (Some x) = refl
  at_lost (p ∷ ps) w q =
      at_lost ps (in_turn (losing p) ds w) q ∙ ap (option_map (λ x. cond (lists ds q) (with_lost ps x) x)) (at_in_turn (losing p) (losing_again p) ds w q) ∙ go (lists ds q) (object_at w q)
    where
      go : (b : Bool) (m : Option Object) → option_map (λ x. cond b (with_lost ps x) x) (option_map (λ x. cond b (losing p q x) x) m) ≡ option_map (λ x. cond b (with_lost (p ∷ ps) x) x) m
      go b None = refl
      go true (Some x) = refl
      go false (Some x) = refl

  at_inherited : (es : List (Text × Slot)) (w : World) (q : ℤ) → object_at (inherit_each es ds w) q ≡ option_map (λ x. cond (lists ds q) (with_heritage es x) x) (object_at w q)
  at_inherited [] w q = go (lists ds q) (object_at w q)
    where
      go : (b : Bool) (m : Option Object) → m ≡ option_map (λ x. cond b (with_heritage [] x) x) m
      go b None = refl
      go true (Some x) = refl
      go false (Some x) = refl
  at_inherited (e ∷ es) w q =
      at_inherited es (inherit_down e.0 e.1 ds w) q
      ∙ ap (option_map (λ x. cond (lists ds q) (with_heritage es x) x)) (at_down e.0 e.1 ds w q) ∙ go (lists ds q) (object_at w q)
    where
      go : (b : Bool) (m : Option Object) → option_map (λ x. cond b (with_heritage es x) x) (option_map (λ x. cond b (inheriting e.0 e.1 x) x) m) ≡ option_map (λ x. cond b (with_heritage (e ∷ es) x) x) m
      go b None = refl
      go true (Some x) = refl
      go false (Some x) = refl

  lost_numbered : (ps : List Text) (w : World) → IsTrue (is_numbered w.objects) → IsTrue (is_numbered (lose_each ps ds w).objects)
  lost_numbered [] w h = h
  lost_numbered (p ∷ ps) w h = lost_numbered ps (in_turn (losing p) ds w) (in_turn_numbered (losing p) ds w h)

  inherited_numbered : (es : List (Text × Slot)) (w : World) → IsTrue (is_numbered w.objects) → IsTrue (is_numbered (inherit_each es ds w).objects)
  inherited_numbered [] w h = h
  inherited_numbered (e ∷ es) w h = inherited_numbered es (inherit_down e.0 e.1 ds w) (down_numbered e.0 e.1 ds w h)

  lost_alone : (ps : List Text) (w : World) → lose_each ps ds w ≡ record w { objects = (lose_each ps ds w).objects }
  lost_alone [] w = refl
  lost_alone (p ∷ ps) w =
      lost_alone ps (in_turn (losing p) ds w) ∙ ap (λ (u : World). record u { objects = (lose_each ps ds (in_turn (losing p) ds w)).objects }) (objects_alone (losing p) ds w)

  inherited_alone : (es : List (Text × Slot)) (w : World) → inherit_each es ds w ≡ record w { objects = (inherit_each es ds w).objects }
  inherited_alone [] w = refl
  inherited_alone (e ∷ es) w =
      inherited_alone es (inherit_down e.0 e.1 ds w) ∙ ap (λ (u : World). record u { objects = (inherit_each es ds (inherit_down e.0 e.1 ds w)).objects }) (down_alone e.0 e.1 ds w)

-- ---- all of it is the change of heirs

pub same_slots : (es fs : Named Slot) → IsTrue (is_named es) → IsTrue (is_named fs) → ((t : Text) → named es t ≡ named fs t) → es ≡ fs
same_slots es fs g h is = same_entries (slice_cmp nat_cmp) names_total names_apart es fs (as_type _ g) (as_type _ h) is

neither : (a b : Bool) (m : Option Slot) → m ≡ None → cond a None m ≡ cond b m None
neither true true m e = sym e
neither true false m e = refl
neither false true m e = refl
neither false false m e = e

module _ (w : World) (sound : ObjectsAgree w) (o before p : ℤ) (ds : List ℤ) (all : IsFamily w o ds) (parent_is : parent_of (object_at w o) ≡ before) where
  house : Household w
  house = household w sound

  -- of one below
  slots_so : (q : ℤ) (x : Object) (ps : List ℤ) → object_at w q ≡ Some x → Path (parents w) q ps → IsTrue (lists ps o)
      → with_slots (slots_lost (names_beside w before p) x.slots) (heir_slots x.header.owner (folded (slots_beside w p before)))
      ≡ with_slots (slots_named (has_name (kept_names w o p q)) x.slots) (heir_slots x.header.owner (slots_at (object_at w p)))
  slots_so q x ps is way l =
      same_slots _ _
      (both_sorted (slots_lost (names_beside w before p) x.slots) (heir_slots x.header.owner (folded (slots_beside w p before))) (lost_sorted (names_beside w before p) x.slots own.sorted))
      (both_sorted (slots_named (has_name (kept_names w o p q)) x.slots) (heir_slots x.header.owner (slots_at (object_at w p))) (kept_sorted (has_name (kept_names w o p q)) x.slots own.sorted))
      (λ t.
      named_both (slots_lost (names_beside w before p) x.slots) (heir_slots x.header.owner (folded (slots_beside w p before))) t
      ∙ (λ i. or_first ((named_lost (names_beside w before p) x.slots t ∙ same t (named x.slots t) refl) i) (heirs t i))
      ∙ enough t
      ∙ (λ i. or_first (sym (named_kept (has_name (kept_names w o p q)) x.slots t) i) (sym (named_heirs x.header.owner (slots_at (object_at w p)) t) i))
      ∙ sym (named_both (slots_named (has_name (kept_names w o p q)) x.slots) (heir_slots x.header.owner (slots_at (object_at w p))) t))
    where
      own : Own w x ps
      own = house.own q x ps is way

      above : (us : List ℤ) × Path (parents w) p us
      above = path_from (parents w) house.family p

      heirs : (t : Text)
          → named (heir_slots x.header.owner (folded (slots_beside w p before))) t
          ≡ option_map (heir_slot x.header.owner) (cond (has_name (map fold_case (names_beside w p before)) t) (named (slots_at (object_at w p)) t) None)
      heirs t = named_heirs x.header.owner (folded (slots_beside w p before)) t ∙ ap (option_map (heir_slot x.header.owner)) (named_of w p (names_beside w p before) t)

      -- of what is not new to them they have a slot
      enough : (t : Text)
          → or_first (cond (has_name (kept_names w o p q) t) (named x.slots t) None)
          (option_map (heir_slot x.header.owner) (cond (has_name (map fold_case (names_beside w p before)) t) (named (slots_at (object_at w p)) t) None))
          ≡ or_first (cond (has_name (kept_names w o p q) t) (named x.slots t) None) (option_map (heir_slot x.header.owner) (named (slots_at (object_at w p)) t))
      enough t = go (has_name (map fold_case (names_beside w p before)) t) refl (named (slots_at (object_at w p)) t) refl
        where
          has : (m : Option Slot) (a : Bool) → IsTrue a → IsTrue (is_some m) → (n : Option Slot) → or_first (cond a m None) None ≡ or_first (cond a m None) n
          has None a k j n = cc
          has (Some y) true k j n = refl
          has (Some y) false k j n = cc

          go : (c : Bool) → has_name (map fold_case (names_beside w p before)) t ≡ c → (m : Option Slot) → named (slots_at (object_at w p)) t ≡ m
              → or_first (cond (has_name (kept_names w o p q) t) (named x.slots t) None) (option_map (heir_slot x.header.owner) (cond c m None))
              ≡ or_first (cond (has_name (kept_names w o p q) t) (named x.slots t) None) (option_map (heir_slot x.header.owner) m)
          go true e m is = refl
          go false e None is = refl
          go false e (Some y) is =
              let there : IsTrue (has_name (defined_on w above.0) t) = sym (slots_above w house p above.0 above.1 t) ∙ ap is_some is in
              let old = old_or_new w house o before parent_is p q ps way l own.once above.0 (ancestors_of w p above.0 sound.numbers above.1) t there e in
              has (named x.slots t) (has_name (kept_names w o p q) t) old.0 (own.slots t ∙ old.1) (Some (heir_slot x.header.owner y))

      same : (t : Text) (m : Option Slot) → named x.slots t ≡ m → cond (has_name (map fold_case (names_beside w before p)) t) None (named x.slots t) ≡ cond (has_name (kept_names w o p q) t) (named x.slots t) None
      same t None e = neither (has_name (map fold_case (names_beside w before p)) t) (has_name (kept_names w o p q) t) (named x.slots t) e
      same t (Some s) e =
          turned (has_name (map fold_case (names_beside w before p)) t)
          ∙ ap (λ b. cond b (named x.slots t) None) (sym (kept_or_lost w house o before parent_is p q ps way l own.once t (sym (own.slots t) ∙ ap is_some e)))
        where
          turned : (b : Bool) → cond b None (named x.slots t) ≡ cond (not b) (named x.slots t) None
          turned true = refl
          turned false = refl

  at_all : (q : ℤ) → object_at (inherit_each (slots_beside w p before) ds (lose_each (names_beside w before p) ds w)) q ≡ object_at (with_heirs w o p) q
  at_all q =
      at_inherited ds (slots_beside w p before) (lose_each (names_beside w before p) ds w) q
      ∙ ap (option_map (λ x. cond (lists ds q) (with_heritage (slots_beside w p before) x) x)) (at_lost ds (names_beside w before p) w q)
      ∙ go (lists ds q) (all q) (object_at w q) refl
      ∙ sym (at_each w q (λ d x. cond (is_below w o d) (heir_of w o p d x) x))
    where
      way : (ps : List ℤ) × Path (parents w) q ps
      way = path_from (parents w) house.family q

      go : (b : Bool) → b ≡ is_below w o q → (m : Option Object) → object_at w q ≡ m
          → option_map (λ x. cond b (with_heritage (slots_beside w p before) x) x) (option_map (λ x. cond b (with_lost (names_beside w before p) x) x) m)
          ≡ option_map (λ x. cond (is_below w o q) (heir_of w o p q x) x) m
      go b e None is = refl
      go false e (Some x) is = ap (λ b. Some (cond b (heir_of w o p q x) x)) e
      go true e (Some x) is =
          ap (λ es. Some (record x { slots = es })) (slots_so q x way.0 is way.1 (sym (below_is w o q way.0 sound.numbers way.1) ∙ sym e))
          ∙ ap (λ b. Some (cond b (heir_of w o p q x) x)) e

  pub heirs_so : inherit_each (slots_beside w p before) ds (lose_each (names_beside w before p) ds w) ≡ with_heirs w o p
  heirs_so =
      inherited_alone ds (slots_beside w p before) (lose_each (names_beside w before p) ds w)
      ∙ ap (λ (u : World). record u { objects = (inherit_each (slots_beside w p before) ds (lose_each (names_beside w before p) ds w)).objects }) (lost_alone ds (names_beside w before p) w)
      ∙ ap (λ es. record w { objects = es })
      (same_tables (inherit_each (slots_beside w p before) ds (lose_each (names_beside w before p) ds w)).objects (with_heirs w o p).objects
      (inherited_numbered ds (slots_beside w p before) (lose_each (names_beside w before p) ds w) (lost_numbered ds (names_beside w before p) w sound.objects_in_order))
      (each_numbered (λ d x. cond (is_below w o d) (heir_of w o p d x) x) w.objects sound.objects_in_order) at_all)
