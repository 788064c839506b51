-- Changes that leave families as they are: of an object's attributes, of its verbs, of what a slot holds, and of where it is.
use Rattle.std.proofs.Common.{◌≡◌, ◌⊎◌, inl, inr, ℕ, zero, suc, ◌≤◌, length, arith, ℤ, pos, Bool, true, false, ◌&&◌, ◌||◌, List, [], ◌∷◌, ◌++◌, map, Option, Some, None, refl, sym, ap, ◌∙◌, subst, cond, IsTrue, is_some}
use Rattle.std.proofs.Common.{append-nil}
use Rattle.std.specs.Prelude.{neg_ℤ, option_map, int_le}
use Rattle.std.specs.Ordering.{int_eq}
use Rattle.spec_value.specs.Datum.{Text, same_text, fold_case}
use Rattle.spec_value.specs.Table.{named, with_name, is_named, is_numbered}
use Rattle.spec_world.specs.World.{World, Object, Slot, object_at}
use Rattle.spec_world.specs.Inherit.{line_bound, slot_of, slot_at, content_of, put_slot, with_slot}
use Rattle.spec_world.specs.WellFormed.{folded_names, defined_on, has_name, names_once, lists}
use Rattle.spec_world.specs.Naming.{location_of}
use Rattle.spec_world.specs.Families.{nowhere, change_at, change_object, leave_out, out_of_place}
use Rattle.spec_world.specs.Whereabouts.{in_within, is_inside, put_into, moved}
use Rattle.spec_value.proofs.Same.{integer_itself}
use Rattle.spec_world.proofs.Trees.{same_or_not, other, some_same, nothing_left, Node, Path, IsTree, path_from, hung_under, rehung, rehung_tree}
use Rattle.spec_world.proofs.WorldTrees.{parents, places, node_there, object_there, short}
use Rattle.spec_world.proofs.SlotTables.{named_with, with_sorted, text_or_not}
use Rattle.spec_world.proofs.Households.{Own, Household, at_changed, change_numbered, change_greatest, names_same, same_tree, same_path}

-- an object in its family, and at its place
abbrev pub kin : Object → Node
kin x = (x.header.parent, x.children)

abbrev pub spot : Object → Node
spot x = (x.header.location, x.contents)

-- an object that is changed, or stays as it is
pub at_change : (w : World) (o q : ℤ) (f : Object → Object) → object_at (change_object w o f) q ≡ option_map (λ y. cond (int_eq q o) (f y) y) (object_at w q)
at_change w o q f = at_changed w o q f ∙ go (int_eq q o) (object_at w q)
  where
    go : (b : Bool) (m : Option Object) → cond b (option_map f m) m ≡ option_map (λ y. cond b (f y) y) m
    go true m = refl
    go false None = refl
    go false (Some y) = refl

-- ---- an object with the same family, whose properties are as good as before

pub record Stays (x y : Object) : Type 0 where
  pub parent : y.header.parent ≡ x.header.parent
  pub children : y.children ≡ x.children
  pub defines : y.defines ≡ x.defines
  pub sorted : IsTrue (is_named x.slots) → IsTrue (is_named y.slots)
  pub slots : (t : Text) → is_some (named y.slots t) ≡ is_some (named x.slots t)
  pub filled : (t : Text) → IsTrue (has_name (map fold_case x.defines) t) → IsTrue (is_some (content_of (named x.slots t)))
      → IsTrue (is_some (content_of (named y.slots t)))

abbrev pub StaysThere : Option Object → Option Object → Type 0
StaysThere None None = Unit {0}
StaysThere None (Some y) = ⊥
StaysThere (Some x) None = ⊥
StaysThere (Some x) (Some y) = Stays x y

pub same_stays : (x : Object) → Stays x x
same_stays x = record { parent = refl; children = refl; defines = refl; sorted = λ h. h; slots = λ t. refl; filled = λ t k h. h }

-- properties and relatives stay where nothing of them changes
pub unchanged : (x y : Object) → y.header.parent ≡ x.header.parent → y.children ≡ x.children → y.defines ≡ x.defines → y.slots ≡ x.slots → Stays x y
unchanged x y p c d s =
    record {
      parent = p;
      children = c;
      defines = d;
      sorted = λ h. subst (λ z. IsTrue (is_named z)) (sym s) h;
      slots = λ t. ap (λ z. is_some (named z t)) s;
      filled = λ t k h. subst (λ z. IsTrue (is_some (content_of (named z t)))) (sym s) h;
    }

module _ (w u : World) (h : Household w) (greatest : u.greatest ≡ w.greatest) (order : IsTrue (is_numbered u.objects)) (each : (q : ℤ) → StaysThere (object_at w q) (object_at u q)) where
  before : (q : ℤ) (y : Object) → object_at u q ≡ Some y → (x : Object) × (object_at w q ≡ Some x) × Stays x y
  before q y e = go (object_at w q) refl (subst (λ z. StaysThere (object_at w q) z) e (each q))
    where
      go : (m : Option Object) → object_at w q ≡ m → StaysThere m (Some y) → (x : Object) × (object_at w q ≡ Some x) × Stays x y
      go None k s = absurd s
      go (Some x) k s = (x, k, s)

  same_family : (q : ℤ) → parents u q ≡ parents w q
  same_family q = go (object_at w q) (object_at u q) (each q)
    where
      go : (m n : Option Object) → StaysThere m n → option_map kin n ≡ option_map kin m
      go None None s = refl
      go None (Some y) s = absurd s
      go (Some x) None s = absurd s
      go (Some x) (Some y) s = λ i. Some (s.parent i, s.children i)

  same_names : (q : ℤ) → folded_names (object_at u q) ≡ folded_names (object_at w q)
  same_names q = go (object_at w q) (object_at u q) (each q)
    where
      go : (m n : Option Object) → StaysThere m n → folded_names n ≡ folded_names m
      go None None s = refl
      go None (Some y) s = absurd s
      go (Some x) None s = absurd s
      go (Some x) (Some y) s = ap (map fold_case) s.defines

  pub stays_household : IsTree (places u) → Household u
  stays_household place =
      record {
        order = order;
        range = subst (λ g. IsTrue (int_le (neg_ℤ (pos 1)) g && int_le g (pos 999999))) (sym greatest) h.range;
        numbers = λ q y e. let x = before q y e in subst (λ g. IsTrue (int_le (pos 0) q && int_le q g)) (sym greatest) (h.numbers q x.0 x.1);
        family = same_tree (parents u) (parents w) same_family h.family;
        whereabouts = place;
        own = owns;
      }
    where
      owns : (q : ℤ) (y : Object) (ps : List ℤ) → object_at u q ≡ Some y → Path (parents u) q ps → Own u y ps
      owns q y ps e way =
          let x = before q y e in
          let own = h.own q x.0 ps x.1 (same_path (parents u) (parents w) same_family q ps way) in
          let names : defined_on u ps ≡ defined_on w ps = names_same w u ps (λ r l. same_names r) in
          record {
            sorted = x.2.sorted own.sorted;
            once = subst (λ ts. IsTrue (names_once ts)) (sym names) own.once;
            slots = λ t. x.2.slots t ∙ own.slots t ∙ ap (λ ts. has_name ts t) (sym names);
            filled = λ t k. let known = subst (λ ds. IsTrue (has_name (map fold_case ds) t)) x.2.defines k in x.2.filled t known (own.filled t known);
          }

-- ---- one object with other attributes, verbs or contents of slots

module _ (w : World) (o : ℤ) (f : Object → Object) (h : Household w) where
  abbrev changed : World
  changed = change_object w o f

  each_stays : ((x : Object) → object_at w o ≡ Some x → Stays x (f x)) → (q : ℤ) → StaysThere (object_at w q) (object_at changed q)
  each_stays fits q = subst (StaysThere (object_at w q)) (sym (at_change w o q f)) (go (object_at w q) refl (same_or_not q o))
    where
      go : (m : Option Object) → object_at w q ≡ m → (q ≡ o) ⊎ (int_eq q o ≡ false) → StaysThere m (option_map (λ y. cond (int_eq q o) (f y) y) m)
      go None e s = tt
      go (Some x) e (inl s) = subst (λ b. Stays x (cond b (f x) x)) (sym (subst (λ z. int_eq q z ≡ true) s (integer_itself q))) (fits x (ap (object_at w) (sym s) ∙ e))
      go (Some x) e (inr s) = subst (λ b. Stays x (cond b (f x) x)) (sym s) (same_stays x)

  same_places : ((x : Object) → (f x).header.location ≡ x.header.location) → ((x : Object) → (f x).contents ≡ x.contents) → (q : ℤ)
      → places changed q ≡ places w q
  same_places loc con q = ap (option_map spot) (at_change w o q f) ∙ go (object_at w q) (int_eq q o)
    where
      go : (m : Option Object) (b : Bool) → option_map spot (option_map (λ y. cond b (f y) y) m) ≡ option_map spot m
      go None b = refl
      go (Some x) true = λ i. Some (loc x i, con x i)
      go (Some x) false = refl

  pub changed_household : ((x : Object) → object_at w o ≡ Some x → Stays x (f x)) → ((x : Object) → (f x).header.location ≡ x.header.location)
      → ((x : Object) → (f x).contents ≡ x.contents) → Household changed
  changed_household fits loc con =
      stays_household w changed h (change_greatest w o f) (change_numbered w o f h.order) (each_stays fits) (same_tree (places changed) (places w) (same_places loc con) h.whereabouts)

-- ---- a slot with another content: where it is defined it is not clear

abbrev with_content : Text → Slot → Object → Object
with_content p t x = record x { slots = with_name x.slots (fold_case p) t }

pub slot_household : (w : World) (o : ℤ) (p : Text) (s t : Slot) → Household w → slot_at w o p ≡ Some s
    → ((x : Object) → object_at w o ≡ Some x → IsTrue (has_name (map fold_case x.defines) (fold_case p)) → IsTrue (is_some t.content))
    → Household (with_slot w o p t)
unfolding with_slot
slot_household w o p s t h found full =
    subst Household (sym (as_change (object_at w o)))
    (changed_household w o (with_content p t) h fits (λ x. refl) (λ x. refl))
  where
    as_change : (y : Option Object) → put_slot w o p t y ≡ change_at w o (with_content p t) y
    as_change None = refl
    as_change (Some x) = refl

    fits : (x : Object) → object_at w o ≡ Some x → Stays x (with_content p t x)
    fits x e =
        record {
          parent = refl;
          children = refl;
          defines = refl;
          sorted = with_sorted x.slots (fold_case p) t;
          slots = λ r. ap is_some (named_with x.slots (fold_case p) r t) ∙ there r (text_or_not r (fold_case p));
          filled = λ r k m. subst (λ z. IsTrue (is_some (content_of z))) (sym (named_with x.slots (fold_case p) r t)) (still r k m (text_or_not r (fold_case p)));
        }
      where
        at_p : named x.slots (fold_case p) ≡ Some s
        at_p = sym (ap (λ y. slot_of y p) e) ∙ found

        there : (r : Text) → (r ≡ fold_case p) ⊎ (same_text r (fold_case p) ≡ false)
            → is_some (cond (same_text r (fold_case p)) (Some t) (named x.slots r)) ≡ is_some (named x.slots r)
        there r (inl i) = go (same_text r (fold_case p)) ∙ sym (ap (λ z. is_some (named x.slots z)) i ∙ ap is_some at_p)
          where
            go : (b : Bool) → is_some (cond b (Some t) (named x.slots r)) ≡ true
            go true = refl
            go false = ap (λ z. is_some (named x.slots z)) i ∙ ap is_some at_p
        there r (inr i) = ap (λ b. is_some (cond b (Some t) (named x.slots r))) i

        still : (r : Text) → IsTrue (has_name (map fold_case x.defines) r) → IsTrue (is_some (content_of (named x.slots r)))
            → (r ≡ fold_case p) ⊎ (same_text r (fold_case p) ≡ false)
            → IsTrue (is_some (content_of (cond (same_text r (fold_case p)) (Some t) (named x.slots r))))
        still r k m (inl i) = go (same_text r (fold_case p))
          where
            go : (b : Bool) → IsTrue (is_some (content_of (cond b (Some t) (named x.slots r))))
            go true = full x e (subst (λ z. IsTrue (has_name (map fold_case x.defines) z)) i k)
            go false = m
        still r k m (inr i) = subst (λ b. IsTrue (is_some (content_of (cond b (Some t) (named x.slots r))))) (sym i) m

-- ---- an object that goes over to another place

module _ (w : World) (what place : ℤ) (x : Object) (is : object_at w what ≡ Some x) (h : Household w) where
  abbrev gone_over : World
  gone_over = put_into (change_object (out_of_place w x.header.location what) what (λ y. record y { header = record (y.header) { location = place } })) what place

  abbrev first_change : ℤ → Object → Object
  first_change q y = cond (int_eq q x.header.location) (record y { contents = leave_out what y.contents }) y

  abbrev second_change : ℤ → Object → Object
  second_change q y = cond (int_eq q what) (record y { header = record (y.header) { location = place } }) y

  abbrev third_change : ℤ → Object → Object
  third_change q y = cond (int_eq q place) (record y { contents = y.contents ++ what ∷ [] }) y

  there_after : (q : ℤ) → object_at gone_over q ≡ option_map (third_change q) (option_map (second_change q) (option_map (first_change q) (object_at w q)))
  there_after q =
      at_change _ place q _ ∙ ap (option_map (third_change q)) (at_change _ what q _ ∙ ap (option_map (second_change q)) (at_change w x.header.location q _))

  new_places : (q : ℤ) → places gone_over q ≡ rehung (places w) what place q
  new_places q = ap (option_map spot) (there_after q) ∙ go (object_at w q) refl
    where
      by : (y : Object) (a b c : Bool) → (a ≡ false → leave_out what y.contents ≡ y.contents)
          → (let y1 : Object = cond a (record y { contents = leave_out what y.contents }) y in
          let y2 : Object = cond b (record y1 { header = record (y1.header) { location = place } }) y1 in
          let y3 : Object = cond c (record y2 { contents = y2.contents ++ what ∷ [] }) y2 in
          spot y3) ≡ (cond b place y.header.location, leave_out what y.contents ++ cond c (what ∷ []) [])
      by y true true true k = refl
      by y true true false k = λ i. (place, sym (append-nil (leave_out what y.contents)) i)
      by y true false true k = refl
      by y true false false k = λ i. (y.header.location, sym (append-nil (leave_out what y.contents)) i)
      by y false true true k = λ i. (place, sym (k refl) i ++ what ∷ [])
      by y false true false k = λ i. (place, (sym (k refl) ∙ sym (append-nil (leave_out what y.contents))) i)
      by y false false true k = λ i. (y.header.location, sym (k refl) i ++ what ∷ [])
      by y false false false k = λ i. (y.header.location, (sym (k refl) ∙ sym (append-nil (leave_out what y.contents))) i)

      elsewhere : (y : Object) → object_at w q ≡ Some y → int_eq q x.header.location ≡ false → leave_out what y.contents ≡ y.contents
      elsewhere y e s = nothing_left what y.contents (go (lists y.contents what) refl)
        where
          go : (b : Bool) → lists y.contents what ≡ b → lists y.contents what ≡ false
          go false k = k
          go true k =
              let d = h.whereabouts.below q (y.header.location, y.contents) what (node_there (λ z. z.header.location) (λ z. z.contents) w q y e) k in
              let same : d.0 ≡ (x.header.location, x.contents) = some_same (sym d.1 ∙ node_there (λ z. z.header.location) (λ z. z.contents) w what x is) in
              absurd (other q x.header.location s (sym d.2 ∙ ap (λ (n : Node). n.0) same))

      go : (m : Option Object) → object_at w q ≡ m
          → option_map spot (option_map (third_change q) (option_map (second_change q) (option_map (first_change q) m)))
          ≡ option_map (λ (n : Node). (cond (int_eq q what) place n.0, leave_out what n.1 ++ hung_under what place q)) (option_map spot m)
      go None e = refl
      go (Some y) e = ap Some (by y (int_eq q x.header.location) (int_eq q what) (int_eq q place) (elsewhere y e))

  each_moved : (q : ℤ) → StaysThere (object_at w q) (object_at gone_over q)
  each_moved q = subst (StaysThere (object_at w q)) (sym (there_after q)) (go (object_at w q))
    where
      by : (y : Object) (a b c : Bool)
          → (let y1 : Object = cond a (record y { contents = leave_out what y.contents }) y in
          let y2 : Object = cond b (record y1 { header = record (y1.header) { location = place } }) y1 in
          Stays y (cond c (record y2 { contents = y2.contents ++ what ∷ [] }) y2))
      by y true true true = unchanged y _ refl refl refl refl
      by y true true false = unchanged y _ refl refl refl refl
      by y true false true = unchanged y _ refl refl refl refl
      by y true false false = unchanged y _ refl refl refl refl
      by y false true true = unchanged y _ refl refl refl refl
      by y false true false = unchanged y _ refl refl refl refl
      by y false false true = unchanged y _ refl refl refl refl
      by y false false false = same_stays y

      go : (m : Option Object) → StaysThere m (option_map (third_change q) (option_map (second_change q) (option_map (first_change q) m)))
      go None = tt
      go (Some y) = by y (int_eq q x.header.location) (int_eq q what) (int_eq q place)

  pub over_household : (us : List ℤ) → Path (places w) place us → lists us what ≡ false
      → (place ≡ nowhere) ⊎ ((y : Node) × (places w place ≡ Some y)) → Household gone_over
  over_household us way apart there =
      stays_household w gone_over h
      (change_greatest _ place _ ∙ change_greatest _ what _ ∙ change_greatest w x.header.location _)
      (change_numbered _ place _ (change_numbered _ what _ (change_numbered w x.header.location _ h.order)))
      each_moved
      (same_tree (places gone_over) (rehung (places w) what place) new_places
      (rehung_tree (places w) what place (x.header.location, x.contents) (node_there (λ z. z.header.location) (λ z. z.contents) w what x is) h.whereabouts us way apart there))

-- a place that is not inside of what is moved
apart_from : (n : ℕ) (w : World) (what place : ℤ) (us : List ℤ) → length us ≤ n → in_within n w what place ≡ false → Path (places w) place us
    → lists us what ≡ false
unfolding in_within
apart_from n w what place [] le e way = refl
apart_from zero w what place (p ∷ us) le e way = absurd (omega (arith, le))
apart_from (suc n) w what place (p ∷ us) le e way =
    let x = object_there (λ z. z.header.location) (λ z. z.contents) w place way.1.0 way.1.1 in
    let inner : (int_eq what place || in_within n w what x.0.header.location) ≡ false = rw x.1 at e in
    let rest : lists us what ≡ false = apart_from n w what x.0.header.location us (omega (arith, le)) (last_false (int_eq what place) _ inner) (subst (λ (y : Node). Path (places w) y.0 us) x.2 way.1.2) in
    let here : int_eq what p ≡ false = subst (λ z. int_eq what z ≡ false) (sym way.0) (first_false (int_eq what place) _ inner) in
    (λ i. here i || lists us what) ∙ rest
  where
    first_false : (a b : Bool) → (a || b) ≡ false → a ≡ false
    first_false true b h = cc
    first_false false b h = refl

    last_false : (a b : Bool) → (a || b) ≡ false → b ≡ false
    last_false true b h = cc
    last_false false b h = h

-- ---- `move`

pub moved_household : (w : World) (what place : ℤ) (x : Object) → Household w → object_at w what ≡ Some x
    → (place ≡ nowhere) ⊎ IsTrue (is_some (object_at w place))
    → is_inside w what place ≡ false → Household (moved w what place)
unfolding moved
moved_household w what place x h is there outside =
    subst (λ l. Household (put_into (change_object (out_of_place w l what) what (λ y. record y { header = record (y.header) { location = place } })) what place)) (sym (ap location_of is))
    (over_household w what place x is h way.0 way.1 (apart_from (line_bound w) w what place way.0 (short (λ z. z.header.location) (λ z. z.contents) w h.numbers place way.0 way.1) outside way.1) (place_is there))
  where
    way : (us : List ℤ) × Path (places w) place us
    way = path_from (places w) h.whereabouts place

    place_is : (place ≡ nowhere) ⊎ IsTrue (is_some (object_at w place)) → (place ≡ nowhere) ⊎ ((y : Node) × (places w place ≡ Some y))
    place_is (inl e) = inl e
    place_is (inr e) = go (object_at w place) refl e
      where
        go : (m : Option Object) → object_at w place ≡ m → IsTrue (is_some m) → (place ≡ nowhere) ⊎ ((y : Node) × (places w place ≡ Some y))
        go None k s = cc
        go (Some y) k s = inr ((y.header.location, y.contents), node_there (λ z. z.header.location) (λ z. z.contents) w place y k)
