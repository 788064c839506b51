-- Changes of where objects are and of what they hang below: what they leave of each object, and of the lines of ancestors.
use Rattle.std.proofs.Common.{◌≡◌, ◌⊎◌, inl, inr, ℕ, zero, suc, ℤ, Bool, true, false, List, [], ◌∷◌, Option, Some, None, refl, sym, ap, ◌∙◌, subst, cond, IsTrue, if◌then◌else◌}
use Rattle.std.specs.Prelude.{option_map, is_none}
use Rattle.std.specs.Ordering.{int_eq}
use Rattle.spec_value.proofs.Entries.{second_holds}
use Rattle.spec_value.proofs.Same.{same_integer, integer_itself}
use Rattle.spec_world.specs.World.{World, Object, Slot, object_at}
use Rattle.spec_world.specs.Inherit.{line_bound, line_onto, line, ancestors}
use Rattle.spec_world.specs.WellFormed.{has_name, lists, once, passes, on_object, ends_above, comes_out}
use Rattle.spec_world.specs.Agreeing.{ObjectsAgree}
use Rattle.spec_world.specs.Naming.{location_of}
use Rattle.spec_world.specs.Families.{kept_names, heir_slot, heir_slots, slots_named, slots_at, nowhere, change_object, change_each, change_at, is_below, heir_of, parent_of, reparented, to_nowhere}
use Rattle.spec_world.specs.Whereabouts.{moved}
use Rattle.spec_world.proofs.Trees.{some_same, either, first_of, second_of}
use Rattle.spec_world.proofs.WorldTrees.{of_all}
use Rattle.spec_value.specs.Datum.{Text}
use Rattle.spec_value.specs.Table.{named}
use Rattle.spec_world.proofs.SlotTables.{named_heirs, named_kept, or_first, named_both}
use Rattle.spec_world.proofs.Households.{at_each, change_greatest}
use Rattle.spec_world.proofs.ObjectChanges.{at_change}

-- an object without its relatives, its whereabouts and its slots
abbrev pub bare : Object → Object
bare x = record x { header = record (x.header) { parent = nowhere; location = nowhere }; children = []; contents = []; slots = [] }

pub change_ending : (w : World) (o : ℤ) (f : Object → Object) → (change_object w o f).ending ≡ w.ending
change_ending w o f = go (object_at w o)
  where
    go : (y : Option Object) → (change_at w o f y).ending ≡ w.ending
    go None = refl
    go (Some x) = refl

-- ---- slots that stay as they were, or go, or are clear

abbrev IsClear : Option Slot → Type 0
IsClear None = Unit {0}
IsClear (Some s) = s.content ≡ None

abbrev pub Shifts : Option Slot → Option Slot → Type 0
Shifts m n = (n ≡ m) ⊎ IsClear n

shifts_twice : (l m n : Option Slot) → Shifts l m → Shifts m n → Shifts l n
shifts_twice l m n h (inr k) = inr k
shifts_twice l m n (inl h) (inl k) = inl (k ∙ h)
shifts_twice l m n (inr h) (inl k) = inr (subst IsClear (sym k) h)

-- an heir keeps its own slot where it goes on having the property, and else has a clear one, or none
heir_shifts : (owner : ℤ) (b : Bool) (m n : Option Slot) → Shifts m (or_first (cond b m None) (option_map (heir_slot owner) n))
heir_shifts owner true (Some s) n = inl refl
heir_shifts owner true None None = inl refl
heir_shifts owner true None (Some t) = inr refl
heir_shifts owner false m None = inr tt
heir_shifts owner false m (Some t) = inr refl

heir_slots_shift : (w : World) (o p q : ℤ) (x : Object) (k : Text) → Shifts (named x.slots k) (named (heir_of w o p q x).slots k)
heir_slots_shift w o p q x k =
    subst (Shifts (named x.slots k))
    (sym (named_both (slots_named (has_name (kept_names w o p q)) x.slots) (heir_slots x.header.owner (slots_at (object_at w p))) k
    ∙ (λ i. or_first (named_kept (has_name (kept_names w o p q)) x.slots k i) (named_heirs x.header.owner (slots_at (object_at w p)) k i))))
    (heir_shifts x.header.owner (has_name (kept_names w o p q) k) (named x.slots k) (named (slots_at (object_at w p)) k))

-- ---- objects that keep all but relatives, whereabouts and slots: a new parent and a new place are these, and the slots of these objects change

module _ (hung placed : ℤ → ℤ → Type 0) (heir : ℤ → Type 0) where
  pub record Rearranged (q : ℤ) (x y : Object) : Type 0 where
    pub rest : bare y ≡ bare x
    pub parent : (y.header.parent ≡ x.header.parent) ⊎ hung q y.header.parent
    pub location : (y.header.location ≡ x.header.location) ⊎ placed q y.header.location
    pub slots : (y.slots ≡ x.slots) ⊎ (heir q × ((k : Text) → Shifts (named x.slots k) (named y.slots k)))

  abbrev pub EachRearranged : ℤ → Option Object → Option Object → Type 0
  EachRearranged q None None = Unit {0}
  EachRearranged q (Some x) (Some y) = Rearranged q x y
  EachRearranged q _ _ = ⊥

  pub record Arranged (w u : World) : Type 0 where
    pub objects : (q : ℤ) → EachRearranged q (object_at w q) (object_at u q)
    pub greatest : u.greatest ≡ w.greatest
    pub ending : u.ending ≡ w.ending

  pub as_before : (q : ℤ) (x : Object) → Rearranged q x x
  as_before q x = record { rest = refl; parent = inl refl; location = inl refl; slots = inl refl }

  each_as_before : (q : ℤ) (m : Option Object) → EachRearranged q m m
  each_as_before q None = tt
  each_as_before q (Some x) = as_before q x

  pub nothing_arranged : (w u : World) → u.objects ≡ w.objects → u.greatest ≡ w.greatest → u.ending ≡ w.ending → Arranged w u
  nothing_arranged w u e g d = record { objects = λ q. subst (λ m. EachRearranged q (object_at w q) m) (sym (ap (λ es. object_at (record w { objects = es }) q) e)) (each_as_before q (object_at w q)); greatest = g; ending = d }

  rearranged_twice : (q : ℤ) (x y z : Object) → Rearranged q x y → Rearranged q y z → Rearranged q x z
  rearranged_twice q x y z h k =
      record { rest = k.rest ∙ h.rest; parent = up k.parent h.parent; location = where_to k.location h.location; slots = held k.slots h.slots }
    where
      up : (z.header.parent ≡ y.header.parent) ⊎ hung q z.header.parent → (y.header.parent ≡ x.header.parent) ⊎ hung q y.header.parent
          → (z.header.parent ≡ x.header.parent) ⊎ hung q z.header.parent
      up (inr a) b = inr a
      up (inl a) (inl b) = inl (a ∙ b)
      up (inl a) (inr b) = inr (subst (hung q) (sym a) b)

      where_to : (z.header.location ≡ y.header.location) ⊎ placed q z.header.location → (y.header.location ≡ x.header.location) ⊎ placed q y.header.location
          → (z.header.location ≡ x.header.location) ⊎ placed q z.header.location
      where_to (inr a) b = inr a
      where_to (inl a) (inl b) = inl (a ∙ b)
      where_to (inl a) (inr b) = inr (subst (placed q) (sym a) b)

      held : (z.slots ≡ y.slots) ⊎ (heir q × ((k : Text) → Shifts (named y.slots k) (named z.slots k)))
          → (y.slots ≡ x.slots) ⊎ (heir q × ((k : Text) → Shifts (named x.slots k) (named y.slots k)))
          → (z.slots ≡ x.slots) ⊎ (heir q × ((k : Text) → Shifts (named x.slots k) (named z.slots k)))
      held (inl a) (inl b) = inl (a ∙ b)
      held (inl a) (inr (l, f)) = inr (l, λ k. subst (λ es. Shifts (named x.slots k) (named es k)) (sym a) (f k))
      held (inr (l, f)) (inl b) = inr (l, λ k. subst (λ es. Shifts (named es k) (named z.slots k)) b (f k))
      held (inr (l, f)) (inr (m, g)) = inr (l, λ k. shifts_twice (named x.slots k) (named y.slots k) (named z.slots k) (g k) (f k))

  each_twice : (q : ℤ) (l m n : Option Object) → EachRearranged q l m → EachRearranged q m n → EachRearranged q l n
  each_twice q None None n h k = k
  each_twice q (Some x) (Some y) (Some z) h k = rearranged_twice q x y z h k
  each_twice q None (Some y) n h k = absurd h
  each_twice q (Some x) None n h k = absurd h
  each_twice q (Some x) (Some y) None h k = absurd k

  pub arranged_twice : (w u v : World) → Arranged w u → Arranged u v → Arranged w v
  arranged_twice w u v h k =
      record { objects = λ q. each_twice q (object_at w q) (object_at u q) (object_at v q) (h.objects q) (k.objects q); greatest = k.greatest ∙ h.greatest; ending = k.ending ∙ h.ending }

  mapped : (q : ℤ) (f : Object → Object) (m : Option Object) → ((x : Object) → m ≡ Some x → Rearranged q x (f x)) → EachRearranged q m (option_map f m)
  mapped q f None each = tt
  mapped q f (Some x) each = each x refl

  pub one_arranged : (w : World) (o : ℤ) (f : Object → Object) → ((x : Object) → object_at w o ≡ Some x → Rearranged o x (f x)) → Arranged w (change_object w o f)
  one_arranged w o f each =
      record {
        objects = λ q. subst (λ m. EachRearranged q (object_at w q) m) (sym (at_change w o q f)) (mapped q (λ y. cond (int_eq q o) (f y) y) (object_at w q) (λ x e. go q x e (int_eq q o) refl));
        greatest = change_greatest w o f;
        ending = change_ending w o f;
      }
    where
      go : (q : ℤ) (x : Object) → object_at w q ≡ Some x → (b : Bool) → int_eq q o ≡ b → Rearranged q x (cond b (f x) x)
      go q x e false s = as_before q x
      go q x e true s =
          let is : q ≡ o = same_integer q o s in
          subst (λ z. Rearranged z x (f x)) (sym is) (each x (ap (object_at w) (sym is) ∙ e))

  pub all_arranged : (w : World) (f : ℤ → Object → Object) → ((q : ℤ) (x : Object) → object_at w q ≡ Some x → Rearranged q x (f q x)) → Arranged w (change_each w f)
  all_arranged w f each =
      record {
        objects = λ q. subst (λ m. EachRearranged q (object_at w q) m) (sym (at_each w q f)) (mapped q (f q) (object_at w q) (each q));
        greatest = refl;
        ending = refl;
      }

  -- ---- moved, and hung below another object

  pub moved_arranged : (w : World) (what place : ℤ) → placed what place → Arranged w (moved w what place)
  unfolding moved
  moved_arranged w what place goes =
      arranged_twice w _ _ (one_arranged w (location_of (object_at w what)) _ (λ x e. record { rest = refl; parent = inl refl; location = inl refl; slots = inl refl }))
      (arranged_twice _ _ _ (one_arranged _ what _ (λ x e. record { rest = refl; parent = inl refl; location = inr goes; slots = inl refl }))
      (one_arranged _ place _ (λ x e. record { rest = refl; parent = inl refl; location = inl refl; slots = inl refl })))

  pub reparented_arranged : (w : World) (o p : ℤ) → hung o p → ((q : ℤ) → is_below w o q ≡ true → heir q) → Arranged w (reparented w o p)
  unfolding reparented
  reparented_arranged w o p goes below =
      arranged_twice w _ _ (all_arranged w (λ d x. if is_below w o d then heir_of w o p d x else x) (λ q x e. go q x (is_below w o q) refl))
      (arranged_twice _ _ _ (one_arranged _ (parent_of (object_at w o)) _ (λ x e. record { rest = refl; parent = inl refl; location = inl refl; slots = inl refl }))
      (arranged_twice _ _ _ (one_arranged _ o _ (λ x e. record { rest = refl; parent = inr goes; location = inl refl; slots = inl refl }))
      (one_arranged _ p _ (λ x e. record { rest = refl; parent = inl refl; location = inl refl; slots = inl refl }))))
    where
      go : (q : ℤ) (x : Object) (b : Bool) → is_below w o q ≡ b → Rearranged q x (if b then heir_of w o p q x else x)
      go q x false s = as_before q x
      go q x true s = record { rest = refl; parent = inl refl; location = inl refl; slots = inr (below q s, heir_slots_shift w o p q x) }

  -- the contents of a place are nowhere
  pub nowhere_arranged : (w : World) (cs : List ℤ) → ((c : ℤ) → IsTrue (lists cs c) → placed c nowhere) → Arranged w (to_nowhere w cs)
  nowhere_arranged w [] goes = nothing_arranged w w refl refl refl
  nowhere_arranged w (c ∷ cs) goes =
      arranged_twice w _ _ (one_arranged w c _ (λ x e. record { rest = refl; parent = inl refl; location = inr (goes c (first_of (int_eq c c) _ (integer_itself c))); slots = inl refl }))
      (nowhere_arranged (change_object w c (λ x. record x { header = record (x.header) { location = nowhere } })) cs (λ d l. goes d (second_of (int_eq d c) _ l)))

-- ---- lines of ancestors

abbrev pub parent_at : Option Object → Option ℤ
parent_at m = option_map (λ x. x.header.parent) m

module _ (w u : World) (cs : List ℤ) (same : (a : ℤ) → (parent_at (object_at u a) ≡ parent_at (object_at w a)) ⊎ ((x : Object) × (object_at w a ≡ Some x) × IsTrue (lists cs a))) where
  -- where none of those that may hang elsewhere is on a line the line is the same
  line_same : (n : ℕ) (q : ℤ) → ((a : ℤ) → IsTrue (lists (line n w q) a) → IsTrue (lists cs a) → ⊥) → line n u q ≡ line n w q
  unfolding line
  line_same zero q apart = refl
  line_same (suc n) q apart = go (line_same n) (same q)
    where
      by : ((p : ℤ) → ((a : ℤ) → IsTrue (lists (line n w p) a) → IsTrue (lists cs a) → ⊥) → line n u p ≡ line n w p) → (l m : Option Object) → object_at w q ≡ l → parent_at m ≡ parent_at l → line_onto (line n u) q m ≡ line_onto (line n w) q l
      by later None None i e = refl
      by later None (Some y) i e = cc
      by later (Some x) None i e = cc
      by later (Some x) (Some y) i e =
          ap (λ ps. q ∷ ps)
          (ap (line n u) (some_same e)
          ∙ later x.header.parent (λ a l. apart a (subst (λ m. IsTrue (lists (line_onto (line n w) q m) a)) (sym i) (second_of (int_eq a q) _ l))))

      go : ((p : ℤ) → ((a : ℤ) → IsTrue (lists (line n w p) a) → IsTrue (lists cs a) → ⊥) → line n u p ≡ line n w p)
          → (parent_at (object_at u q) ≡ parent_at (object_at w q)) ⊎ ((x : Object) × (object_at w q ≡ Some x) × IsTrue (lists cs q))
          → line_onto (line n u) q (object_at u q) ≡ line_onto (line n w) q (object_at w q)
      go later (inl e) = by later (object_at w q) (object_at u q) refl e
      go later (inr s) =
          absurd (apart q (subst (λ m. IsTrue (lists (line_onto (line n w) q m) q)) (sym s.1) (first_of (int_eq q q) _ (integer_itself q))) s.2)

-- on a line that ends, the parent of each object is on it too, if it is there
parent_on_line : (w : World) (r : ℤ) (z : Object) → object_at w r ≡ Some z → (c : ℤ) (y : Object) → object_at w c ≡ Some y → y.header.parent ≡ r → (n : ℕ) (q : ℤ)
    → IsTrue (comes_out (λ x. x.header.parent) n w q) → IsTrue (lists (line n w q) c) → IsTrue (lists (line n w q) r)
unfolding line comes_out
parent_on_line w r z there c y is up zero q ends l = cc
parent_on_line w r z there c y is up (suc n) q ends l = go (λ p. parent_on_line w r z there c y is up n p) (object_at w q) refl ends l
  where
    begins : (n : ℕ) → IsTrue (comes_out (λ x. x.header.parent) n w r) → IsTrue (lists (line n w r) r)
    begins zero e = let none : is_none (Some z) ≡ true = subst (λ m. is_none m ≡ true) there e in absurd (cc (none))
    begins (suc m) e = subst (λ k. IsTrue (lists (line_onto (line m w) r k) r)) (sym there) (first_of (int_eq r r) _ (integer_itself r))

    go : ((p : ℤ) → IsTrue (comes_out (λ x. x.header.parent) n w p) → IsTrue (lists (line n w p) c) → IsTrue (lists (line n w p) r)) → (m : Option Object) → object_at w q ≡ m → IsTrue (ends_above (comes_out (λ x. x.header.parent) n w) (λ x. x.header.parent) m)
        → IsTrue (lists (line_onto (line n w) q m) c) → IsTrue (lists (line_onto (line n w) q m) r)
    go later None e k j = cc
    go later (Some x) e k j = by (either (int_eq c q) _ j)
      where
        by : IsTrue (int_eq c q) ⊎ IsTrue (lists (line n w x.header.parent) c) → IsTrue (lists (q ∷ line n w x.header.parent) r)
        by (inr i) = second_of (int_eq r q) _ (later x.header.parent k i)
        by (inl i) =
            let child : x ≡ y = some_same (sym e ∙ ap (object_at w) (sym (same_integer c q i)) ∙ is) in
            let below : x.header.parent ≡ r = ap (λ (m : Object). m.header.parent) child ∙ up in
            second_of (int_eq r q) _ (subst (λ p. IsTrue (lists (line n w p) r)) (sym below) (begins n (subst (λ p. IsTrue (comes_out (λ m. m.header.parent) n w p)) below k)))

-- ---- what hangs below or is in an object

module _ (w : World) (h : ObjectsAgree w) (r : ℤ) (x : Object) (is : object_at w r ≡ Some x) where
  found : (m : Option Object) (test : Object → Bool) → IsTrue (passes m test) → (y : Object) × (m ≡ Some y) × IsTrue (test y)
  found None test k = cc
  found (Some y) test k = (y, refl, k)

  pub child_hangs : (c : ℤ) → IsTrue (lists x.children c) → (y : Object) × (object_at w c ≡ Some y) × (y.header.parent ≡ r)
  child_hangs c l =
      let f = found (object_at w c) (λ y. int_eq y.header.parent r) (of_all (λ d. on_object w d (λ y. int_eq y.header.parent r)) x.children (second_holds (once x.children) _ (h.children r x is)) c l) in
      (f.0, f.1, same_integer f.0.header.parent r f.2)

  pub content_is_there : (c : ℤ) → IsTrue (lists x.contents c) → (y : Object) × (object_at w c ≡ Some y) × (y.header.location ≡ r)
  content_is_there c l =
      let f = found (object_at w c) (λ y. int_eq y.header.location r) (of_all (λ d. on_object w d (λ y. int_eq y.header.location r)) x.contents (second_holds (once x.contents) _ (h.contents r x is)) c l) in
      (f.0, f.1, same_integer f.0.header.location r f.2)

  -- in a world in which some of the children hang elsewhere, what is below a child was below the object
  pub below_child : (u : World)
      → ((a : ℤ) → (parent_at (object_at u a) ≡ parent_at (object_at w a)) ⊎ ((y : Object) × (object_at w a ≡ Some y) × IsTrue (lists x.children a)))
      → u.greatest ≡ w.greatest → (c q : ℤ) → IsTrue (lists x.children c) → is_below u c q ≡ true → is_below w r q ≡ true
  unfolding ancestors comes_out
  below_child u same g c q l below = go (is_below w r q) refl
    where
      ends : IsTrue (comes_out (λ y. y.header.parent) (line_bound w) w q)
      ends = by (object_at w q) refl
        where
          by : (m : Option Object) → object_at w q ≡ m → IsTrue (comes_out (λ y. y.header.parent) (line_bound w) w q)
          by (Some y) e = h.parents_end q y e
          by None e = nobody (line_bound w)
            where
              nobody : (n : ℕ) → IsTrue (comes_out (λ y. y.header.parent) n w q)
              nobody zero = ap is_none e
              nobody (suc n) = ap (ends_above (comes_out (λ y. y.header.parent) n w) (λ y. y.header.parent)) e

      on_line : (a : ℤ) → IsTrue (lists x.children a) → IsTrue (lists (line (line_bound w) w q) a) → IsTrue (lists (line (line_bound w) w q) r)
      on_line a k j = let f = child_hangs a k in parent_on_line w r x is a f.0 f.1 f.2 (line_bound w) q ends j

      go : (b : Bool) → is_below w r q ≡ b → is_below w r q ≡ true
      go true e = e
      go false e =
          let lines : line (line_bound w) u q ≡ line (line_bound w) w q =
          line_same w u x.children same (line_bound w) q (λ a j k. let b = on_line a k j in absurd (cc (b, e))) in
          let bound : line_bound u ≡ line_bound w = ap (λ g. line_bound (record w { greatest = g })) g in
          on_line c l (subst (λ ps. IsTrue (lists ps c)) lines (subst (λ n. IsTrue (lists (line n u q) c)) bound below))
