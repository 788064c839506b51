-- Each change of objects, properties and verbs is a permitted one where the table allows it.
use Rattle.std.proofs.Common.{◌≡◌, ◌⊎◌, inl, inr, ℕ, zero, suc, ◌+◌, arith, ℤ, pos, negsuc, Bool, true, false, ◌||◌, List, [], ◌∷◌, ◌++◌, Option, Some, None, refl, sym, ap, ◌∙◌, subst, cond, IsTrue, is_some, if◌then◌else◌}
use Rattle.std.specs.Prelude.{option_map, int_le, nat_abs, ◌+ℤ◌}
use Rattle.std.specs.Ordering.{int_eq}
use Rattle.spec_value.specs.Datum.{Datum, object, text, Text, fold_case, same_text, is_true}
use Rattle.spec_value.specs.Table.{named, with_name}
use Rattle.spec_value.proofs.Entries.{first_holds, second_holds}
use Rattle.spec_value.proofs.Same.{same_integer, same_texts, integer_itself}
use Rattle.spec_world.specs.World.{World, Header, Object, Slot, Verb, object_at, with_object}
use Rattle.spec_world.specs.Inherit.{slot_of, slot_at, put_slot, with_slot, line_bound, line_onto, line, ancestors}
use Rattle.spec_world.specs.WellFormed.{lists}
use Rattle.spec_world.specs.Agreeing.{ObjectsAgree}
use Rattle.spec_world.specs.Families.{nowhere, next_object, child_of, change_object, change_each, is_below, created, reparented, reparented_each, to_nowhere, lose_child, out_of_place, leave_out, recycled_object, recycled}
use Rattle.spec_world.specs.Members.{with_own_slot, defining, not_defining, lose_slot, property_added, property_deleted, without_verb, with_verb, verb_added, verb_deleted, verb_changed}
use Rattle.spec_world.specs.Whereabouts.{moved}
use Rattle.spec_world.specs.Permissions as act
use Rattle.spec_world.specs.Permissions.{Act, write_slot, write_name, write_bits, write_standing, change_members, change_owner, write_verb, program_verb, have_child, administer, on_slot, in_place, is_wizard, may}
use Rattle.spec_world.proofs.Trees.{same_or_not, some_same, first_of}
use Rattle.spec_world.proofs.SlotTables.{named_with, named_without}
use Rattle.spec_world.proofs.Households.{household, at_each, at_put, change_greatest}
use Rattle.spec_world.proofs.ObjectChanges.{at_change}
use Rattle.spec_world.proofs.NewObjects.{free}
use Rattle.spec_moo.specs.Properties.{BuiltInProperty, own_name, own_owner, own_location, own_contents, programmer_flag, wizard_flag, r_bit, w_bit, f_bit, writing, with_built_in}
use Rattle.spec_rights.specs.Permitted.{Allows, SlotKept, SlotStays, SlotComesOrGoes, VerbKept, VerbsKept, Taken, IsRecycled, LineChanges, SameStanding, SameBits, ObjectKept, Made, Permitted}
use Rattle.spec_rights.specs.Chains.{SameObjects}
use Rattle.spec_rights.proofs.Rearranging.{Shifts, change_ending, Rearranged, EachRearranged, Arranged, moved_arranged, reparented_arranged}

-- ---- objects that are the same

pub same_slot : (w : World) (who o : ℤ) (p : Text) (m : Option Slot) → SlotStays w who o p m m
same_slot w who o p None = tt
same_slot w who o p (Some s) = record { rest = inl refl; owner = inl refl }

-- ---- slots that come and go

stays_so : (m : Option Slot) → SlotComesOrGoes m m
stays_so None = tt
stays_so (Some s) = inl refl

all_may_go : (m : Option Slot) → SlotComesOrGoes m None
all_may_go None = tt
all_may_go (Some s) = tt

comes_clear : (m : Option Slot) (t : Slot) → t.content ≡ None → SlotComesOrGoes m (Some t)
comes_clear None t e = tt
comes_clear (Some s) t e = inr e

shift_is : (m n : Option Slot) → Shifts m n → SlotComesOrGoes m n
shift_is None None k = tt
shift_is None (Some t) k = tt
shift_is (Some s) None k = tt
shift_is (Some s) (Some t) (inl e) = inl (some_same e)
shift_is (Some s) (Some t) (inr e) = inr e

pub same_verbs : (w : World) (who o : ℤ) (n : ℕ) (vs : List Verb) → VerbsKept w who o n vs vs
same_verbs w who o n [] = tt
same_verbs w who o n (v ∷ vs) = inl (record { rest = inl refl; owner = inl refl; program = inl refl }, same_verbs w who o (suc n) vs)

-- an object is below itself
pub own_line : (w : World) (h : ObjectsAgree w) (o : ℤ) (x : Object) → object_at w o ≡ Some x → is_below w o o ≡ true
unfolding ancestors line
own_line w h o x e = go (line_bound w) (bound o w.greatest (first_holds (int_le (pos 0) o) _ (h.numbers o x e)) (second_holds (int_le (pos 0) o) _ (h.numbers o x e)))
  where
    bound : (q g : ℤ) → IsTrue (int_le (pos 0) q) → IsTrue (int_le q g) → (m : ℕ) × (nat_abs (g +ℤ pos 1) ≡ suc m)
    bound (pos q) (pos g) a b = (g, omega arith)
    bound (pos q) (negsuc g) a b = cc
    bound (negsuc q) g a b = cc

    go : (n : ℕ) → (m : ℕ) × (n ≡ suc m) → IsTrue (lists (line n w o) o)
    go n (m, s) = subst (λ k. IsTrue (lists (line k w o) o)) (sym s) (subst (λ z. IsTrue (lists (line_onto (line m w) o z) o)) (sym e) (first_of (int_eq o o) _ (integer_itself o)))

module _ (begun : ℤ → Type 0) (w : World) (who : ℤ) where
  pub same_object : (u : World) (o : ℤ) (x : Object) → ObjectKept begun w who u o x x
  same_object u o x =
      record {
        name = inl refl;
        standing = inl (refl, refl, refl);
        player = inl refl;
        bits = inl (refl, refl, refl);
        parent = inl refl;
        location = inl refl;
        defines = inl refl;
        slots = λ p. inl (same_slot w who o p (slot_of (Some x) p));
        verbs = same_verbs w who o 0 x.verbs;
      }

  -- ---- an object for each that was there

  pub each_for_each : (u : World) (f : ℤ → Object → Object) → ((q : ℤ) → object_at u q ≡ option_map (f q) (object_at w q))
      → ((q : ℤ) (x : Object) → object_at w q ≡ Some x → ObjectKept begun w who u q x (f q x)) → u.greatest ≡ w.greatest → (u.ending ≡ w.ending) ⊎ Allows w who administer
      → Permitted begun w who u
  each_for_each u f there each great ends =
      record { kept = keeps; gone = stays; new = none; greatest = inl great; ending = ends }
    where
      keeps : (o : ℤ) (x y : Object) → object_at w o ≡ Some x → object_at u o ≡ Some y → ObjectKept begun w who u o x y
      keeps o x y e d =
          let is : f o x ≡ y = some_same (sym (ap (option_map (f o)) e) ∙ sym (there o) ∙ d) in
          subst (λ z. ObjectKept begun w who u o x z) is (each o x e)

      stays : (o : ℤ) (x : Object) → object_at w o ≡ Some x → object_at u o ≡ None → Taken begun w who o
      stays o x e d = let clash : Some (f o x) ≡ None = sym (ap (option_map (f o)) e) ∙ sym (there o) ∙ d in absurd (cc (clash))

      none : (o : ℤ) (y : Object) → object_at w o ≡ None → object_at u o ≡ Some y → Made w who o y
      none o y e d = let clash : None ≡ Some y = sym (ap (option_map (f o)) e) ∙ sym (there o) ∙ d in absurd (cc (clash))

  -- links, the queue and the ending flag aside
  pub nothing_changed : (u : World) → u.objects ≡ w.objects → u.greatest ≡ w.greatest → (u.ending ≡ w.ending) ⊎ Allows w who administer → Permitted begun w who u
  nothing_changed u e great ends = each_for_each u (λ q x. x) (λ q. ap (λ es. object_at (record w { objects = es }) q) e ∙ itself (object_at w q)) (λ q x d. same_object u q x) great ends
    where
      itself : (m : Option Object) → m ≡ option_map (λ x. x) m
      itself None = refl
      itself (Some x) = refl

  -- one object, in a world with the same objects
  pub one_changed : (v : World) (o : ℤ) (f : Object → Object) → SameObjects w v
      → ((x : Object) → object_at w o ≡ Some x → ObjectKept begun w who (change_object v o f) o x (f x)) → Permitted begun w who (change_object v o f)
  one_changed v o f (same, g, ends) each =
      each_for_each (change_object v o f) (λ q y. cond (int_eq q o) (f y) y)
      (λ q. at_change v o q f ∙ ap (λ es. option_map (λ y. cond (int_eq q o) (f y) y) (object_at (record w { objects = es }) q)) same) (λ q x e. go q x e (int_eq q o) refl)
      (change_greatest v o f ∙ g) (inl (change_ending v o f ∙ ends))
    where
      go : (q : ℤ) (x : Object) → object_at w q ≡ Some x → (b : Bool) → int_eq q o ≡ b → ObjectKept begun w who (change_object v o f) q x (cond b (f x) x)
      go q x e false s = same_object (change_object v o f) q x
      go q x e true s =
          let is : q ≡ o = same_integer q o s in
          subst (λ z. ObjectKept begun w who (change_object v o f) z x (f x)) (sym is) (each x (ap (object_at w) (sym is) ∙ e))

  -- ---- headers

  pub new_header : (u : World) (o : ℤ) (x : Object) (h : Header) → (h.name ≡ x.header.name) ⊎ Allows w who (write_name o)
      → SameStanding x.header h ⊎ Allows w who (write_standing o) → (h.is_player ≡ x.header.is_player) ⊎ Allows w who administer
      → SameBits x.header h ⊎ Allows w who (write_bits o) → h.parent ≡ x.header.parent → h.location ≡ x.header.location
      → ObjectKept begun w who u o x (record x { header = h })
  new_header u o x h name standing player bits up at =
      record {
        name = name;
        standing = standing;
        player = player;
        bits = bits;
        parent = inl up;
        location = inl at;
        defines = inl refl;
        slots = λ p. inl (same_slot w who o p (slot_of (Some x) p));
        verbs = same_verbs w who o 0 x.verbs;
      }

  pub built_in_kept : (u : World) (o : ℤ) (x y : Object) (b : BuiltInProperty) (v : Datum) → with_built_in x b v ≡ Some y → Allows w who (writing o b)
      → ObjectKept begun w who u o x y
  built_in_kept u o x y own_name (text t) e k =
      subst (λ z. ObjectKept begun w who u o x z) (some_same e) (new_header u o x (record (x.header) { name = t }) (inr k) (inl (refl, refl, refl)) (inl refl) (inl (refl, refl, refl)) refl refl)
  built_in_kept u o x y own_owner (object q) e k =
      subst (λ z. ObjectKept begun w who u o x z) (some_same e) (new_header u o x (record (x.header) { owner = q }) (inl refl) (inr k) (inl refl) (inl (refl, refl, refl)) refl refl)
  built_in_kept u o x y programmer_flag v e k =
      subst (λ z. ObjectKept begun w who u o x z) (some_same e) (new_header u o x (record (x.header) { is_programmer = is_true v }) (inl refl) (inr k) (inl refl) (inl (refl, refl, refl)) refl refl)
  built_in_kept u o x y wizard_flag v e k =
      subst (λ z. ObjectKept begun w who u o x z) (some_same e) (new_header u o x (record (x.header) { is_wizard = is_true v }) (inl refl) (inr k) (inl refl) (inl (refl, refl, refl)) refl refl)
  built_in_kept u o x y r_bit v e k =
      subst (λ z. ObjectKept begun w who u o x z) (some_same e) (new_header u o x (record (x.header) { readable = is_true v }) (inl refl) (inl (refl, refl, refl)) (inl refl) (inr k) refl refl)
  built_in_kept u o x y w_bit v e k =
      subst (λ z. ObjectKept begun w who u o x z) (some_same e) (new_header u o x (record (x.header) { writable = is_true v }) (inl refl) (inl (refl, refl, refl)) (inl refl) (inr k) refl refl)
  built_in_kept u o x y f_bit v e k =
      subst (λ z. ObjectKept begun w who u o x z) (some_same e) (new_header u o x (record (x.header) { fertile = is_true v }) (inl refl) (inl (refl, refl, refl)) (inl refl) (inr k) refl refl)
  built_in_kept u o x y own_location v e k = subst (λ z. ObjectKept begun w who u o x z) (some_same e) (same_object u o x)
  built_in_kept u o x y own_contents v e k = subst (λ z. ObjectKept begun w who u o x z) (some_same e) (same_object u o x)
  built_in_kept u o x y own_name v e k = cc
  built_in_kept u o x y own_owner v e k = cc

  pub built_in_written : (o : ℤ) (x y : Object) (b : BuiltInProperty) (v : Datum) → object_at w o ≡ Some x → with_built_in x b v ≡ Some y → Allows w who (writing o b)
      → Permitted begun w who (with_object w o y)
  built_in_written o x y b v is e k =
      subst (λ z. Permitted begun w who z) same
      (one_changed w o (λ z. y) (refl, refl, refl) (λ z d. subst (λ t. ObjectKept begun w who (change_object w o (λ m. y)) o t y) (some_same (sym is ∙ d)) (built_in_kept (change_object w o (λ m. y)) o x y b v e k)))
    where
      same : change_object w o (λ z. y) ≡ with_object w o y
      same = ap (λ m. Rattle.spec_world.specs.Families.change_at w o (λ z. y) m) is

  pub flag_set : (v : World) (o : ℤ) (flag : Bool) → SameObjects w v → Allows w who administer
      → Permitted begun w who (change_object v o (λ x. record x { header = record (x.header) { is_player = flag } }))
  flag_set v o flag same k =
      one_changed v o (λ x. record x { header = record (x.header) { is_player = flag } }) same
      (λ x e. new_header (change_object v o (λ y. record y { header = record (y.header) { is_player = flag } })) o x (record (x.header) { is_player = flag }) (inl refl) (inl (refl, refl, refl)) (inr k) (inl (refl, refl, refl)) refl refl)

  -- ---- slots

  same_place : (o : ℤ) (p q : Text) → fold_case q ≡ fold_case p → slot_at w o q ≡ slot_at w o p
  same_place o p q e = go (object_at w o)
    where
      go : (m : Option Object) → slot_of m q ≡ slot_of m p
      go None = refl
      go (Some x) = ap (named x.slots) e

  may_write : (o : ℤ) (p q : Text) → fold_case q ≡ fold_case p → Allows w who (write_slot o p) → Allows w who (write_slot o q)
  unfolding may
  may_write o p q e k = ap (λ m. is_wizard w who || on_slot m (λ s. act.owns_or who s.owner s.writable)) (same_place o p q e) ∙ k

  pub slot_changed : (o : ℤ) (p : Text) (s t : Slot) → slot_at w o p ≡ Some s → SlotKept w who o p s t → Permitted begun w who (with_slot w o p t)
  unfolding with_slot
  slot_changed o p s t at k = go (object_at w o) refl
    where
      with_it : Object → Object
      with_it x = record x { slots = with_name x.slots (fold_case p) t }

      slot : (x : Object) → object_at w o ≡ Some x → (q : Text) → SlotStays w who o q (slot_of (Some x) q) (slot_of (Some (with_it x)) q)
      slot x is q = by (same_text (fold_case q) (fold_case p)) refl
        where
          by : (b : Bool) → same_text (fold_case q) (fold_case p) ≡ b → SlotStays w who o q (slot_of (Some x) q) (slot_of (Some (with_it x)) q)
          by false e =
              subst (λ m. SlotStays w who o q (slot_of (Some x) q) m) (sym (named_with x.slots (fold_case p) (fold_case q) t ∙ ap (λ c. cond c (Some t) (named x.slots (fold_case q))) e))
              (same_slot w who o q (slot_of (Some x) q))
          by true e =
              let same : fold_case q ≡ fold_case p = same_texts (fold_case q) (fold_case p) e in
              let here : slot_of (Some x) q ≡ Some s = ap (named x.slots) same ∙ (sym (ap (λ m. slot_of m p) is) ∙ at) in
              subst (λ m. SlotStays w who o q m (slot_of (Some (with_it x)) q)) (sym here)
              (subst (λ m. SlotStays w who o q (Some s) m) (sym (named_with x.slots (fold_case p) (fold_case q) t ∙ ap (λ c. cond c (Some t) (named x.slots (fold_case q))) e))
              (record { rest = rest k.rest; owner = owner k.owner }))
            where
              folded : fold_case q ≡ fold_case p
              folded = same_texts (fold_case q) (fold_case p) e

              rest : (t ≡ record s { owner = t.owner }) ⊎ Allows w who (write_slot o p) → (t ≡ record s { owner = t.owner }) ⊎ Allows w who (write_slot o q)
              rest (inl i) = inl i
              rest (inr i) = inr (may_write o p q folded i)

              owner : (t.owner ≡ s.owner) ⊎ (Allows w who (write_slot o p) × Allows w who (change_owner s.owner t.owner))
                  → (t.owner ≡ s.owner) ⊎ (Allows w who (write_slot o q) × Allows w who (change_owner s.owner t.owner))
              owner (inl i) = inl i
              owner (inr i) = inr (may_write o p q folded i.0, i.1)

      go : (m : Option Object) → object_at w o ≡ m → Permitted begun w who (put_slot w o p t m)
      go None e = nothing_changed w refl refl (inl refl)
      go (Some x) e =
          subst (λ z. Permitted begun w who z) (ap (λ m. Rattle.spec_world.specs.Families.change_at w o with_it m) e)
          (one_changed w o with_it (refl, refl, refl) (λ y d. record {
            name = inl refl;
            standing = inl (refl, refl, refl);
            player = inl refl;
            bits = inl (refl, refl, refl);
            parent = inl refl;
            location = inl refl;
            defines = inl refl;
            slots = λ q. inl (slot y d q);
            verbs = same_verbs w who o 0 y.verbs;
          }))

  -- ---- properties that come and go

  other_members : (u : World) (o : ℤ) (x y : Object) → y.header ≡ x.header → y.verbs ≡ x.verbs → (y.defines ≡ x.defines) ⊎ Allows w who (change_members o) → LineChanges begun w who o
      → ((p : Text) → SlotComesOrGoes (slot_of (Some x) p) (slot_of (Some y) p)) → ObjectKept begun w who u o x y
  other_members u o x y header verbs defines line comes =
      record {
        name = inl (ap (λ (h : Header). h.name) header);
        standing = inl (ap (λ (h : Header). h.owner) header, ap (λ (h : Header). h.is_programmer) header, ap (λ (h : Header). h.is_wizard) header);
        player = inl (ap (λ (h : Header). h.is_player) header);
        bits = inl (ap (λ (h : Header). h.readable) header, ap (λ (h : Header). h.writable) header, ap (λ (h : Header). h.fertile) header);
        parent = inl (ap (λ (h : Header). h.parent) header);
        location = inl (ap (λ (h : Header). h.location) header);
        defines = defines;
        slots = λ p. inr (line, comes p);
        verbs = subst (λ vs. VerbsKept w who o 0 x.verbs vs) (sym verbs) (same_verbs w who o 0 x.verbs);
      }

  module _ (h : ObjectsAgree w) (o : ℤ) (allowed : Allows w who (change_members o)) where
    here : (x : Object) → object_at w o ≡ Some x → LineChanges begun w who o
    here x e = (o, own_line w h o x e, inl allowed)

    by_line : (u : World) (own heir : Object → Object) → ((x : Object) → (own x).header ≡ x.header) → ((x : Object) → (own x).verbs ≡ x.verbs)
        → ((x : Object) → (heir x).header ≡ x.header) → ((x : Object) → (heir x).verbs ≡ x.verbs) → ((x : Object) → (heir x).defines ≡ x.defines)
        → ((x : Object) → object_at w o ≡ Some x → (k : Text) → SlotComesOrGoes (slot_of (Some x) k) (slot_of (Some (own x)) k))
        → ((x : Object) (k : Text) → SlotComesOrGoes (slot_of (Some x) k) (slot_of (Some (heir x)) k)) → (q : ℤ) (x : Object) → object_at w q ≡ Some x
        → ObjectKept begun w who u q x (if int_eq q o then own x else (if is_below w o q then heir x else x))
    by_line u own heir oh ov hh hv hd os hs q x e = go (int_eq q o) refl (is_below w o q) refl
      where
        go : (a : Bool) → int_eq q o ≡ a → (b : Bool) → is_below w o q ≡ b → ObjectKept begun w who u q x (if a then own x else (if b then heir x else x))
        go true s b l =
            let is : q ≡ o = same_integer q o s in
            let at : object_at w o ≡ Some x = ap (object_at w) (sym is) ∙ e in
            subst (λ z. ObjectKept begun w who u z x (own x)) (sym is) (other_members u o x (own x) (oh x) (ov x) (inr allowed) (here x at) (os x at))
        go false s true l = other_members u q x (heir x) (hh x) (hv x) (inl (hd x)) (o, l, inl allowed) (hs x)
        go false s false l = same_object u q x

    -- a slot that is put under a name, where there was none or it is clear, and one that goes
    put_comes : (x : Object) (p : Text) (t : Slot) → ((k : Text) → fold_case k ≡ fold_case p → SlotComesOrGoes (slot_of (Some x) k) (Some t)) → (k : Text)
        → SlotComesOrGoes (slot_of (Some x) k) (slot_of (Some (with_own_slot x p t)) k)
    put_comes x p t here k =
        subst (SlotComesOrGoes (slot_of (Some x) k)) (sym (named_with x.slots (fold_case p) (fold_case k) t)) (go (same_text (fold_case k) (fold_case p)) refl)
      where
        go : (b : Bool) → same_text (fold_case k) (fold_case p) ≡ b → SlotComesOrGoes (slot_of (Some x) k) (cond b (Some t) (slot_of (Some x) k))
        go true e = here k (same_texts (fold_case k) (fold_case p) e)
        go false e = stays_so (slot_of (Some x) k)

    lost_goes : (x : Object) (p k : Text) → SlotComesOrGoes (slot_of (Some x) k) (slot_of (Some (lose_slot x p)) k)
    lost_goes x p k = subst (SlotComesOrGoes (slot_of (Some x) k)) (sym (named_without x.slots (fold_case p) (fold_case k))) (go (same_text (fold_case p) (fold_case k)))
      where
        go : (b : Bool) → SlotComesOrGoes (slot_of (Some x) k) (cond b None (slot_of (Some x) k))
        go true = all_may_go (slot_of (Some x) k)
        go false = stays_so (slot_of (Some x) k)

    pub property_comes : (p : Text) (s : Slot) → slot_at w o p ≡ None → Permitted begun w who (property_added w o p s)
    unfolding property_added
    property_comes p s none =
        each_for_each (change_each w f) f (λ q. at_each w q f)
        (λ q x e. by_line (change_each w f) (λ z. defining z p s) (λ z. with_own_slot z p (Rattle.spec_world.specs.Families.heir_slot z.header.owner s)) (λ z. refl) (λ z. refl) (λ z. refl) (λ z. refl) (λ z. refl)
        (λ z at. put_comes z p s (λ k same. new z at k same)) (λ z. put_comes z p (Rattle.spec_world.specs.Families.heir_slot z.header.owner s) (λ k same. comes_clear (slot_of (Some z) k) _ refl)) q x e) refl (inl refl)
      where
        f : ℤ → Object → Object
        f = λ d x. if int_eq d o then defining x p s else (if is_below w o d then with_own_slot x p (Rattle.spec_world.specs.Families.heir_slot x.header.owner s) else x)

        new : (z : Object) → object_at w o ≡ Some z → (k : Text) → fold_case k ≡ fold_case p → SlotComesOrGoes (slot_of (Some z) k) (Some s)
        new z at k same =
            let absent : slot_of (Some z) k ≡ None = ap (named z.slots) same ∙ (sym (ap (λ m. slot_of m p) at) ∙ none) in
            subst (λ m. SlotComesOrGoes m (Some s)) (sym absent) tt

    pub property_goes : (p : Text) → Permitted begun w who (property_deleted w o p)
    unfolding property_deleted
    property_goes p =
        each_for_each (change_each w f) f (λ q. at_each w q f)
        (λ q x e. by_line (change_each w f) (λ z. lose_slot (not_defining z p) p) (λ z. lose_slot z p) (λ z. refl) (λ z. refl) (λ z. refl) (λ z. refl) (λ z. refl)
        (λ z at k. lost_goes z p k) (λ z k. lost_goes z p k) q x e) refl (inl refl)
      where
        f : ℤ → Object → Object
        f = λ d x. if int_eq d o then lose_slot (not_defining x p) p else (if is_below w o d then lose_slot x p else x)

  -- ---- verbs

  pub other_verbs : (o : ℤ) (f : List Verb → List Verb) → ((vs : List Verb) → VerbsKept w who o 0 vs (f vs))
      → Permitted begun w who (change_object w o (λ x. record x { verbs = f x.verbs }))
  other_verbs o f each =
      one_changed w o (λ x. record x { verbs = f x.verbs }) (refl, refl, refl)
      (λ x e. record {
        name = inl refl;
        standing = inl (refl, refl, refl);
        player = inl refl;
        bits = inl (refl, refl, refl);
        parent = inl refl;
        location = inl refl;
        defines = inl refl;
        slots = λ p. inl (same_slot w who o p (slot_of (Some x) p));
        verbs = each x.verbs;
      })

  one_more : (o : ℤ) (n : ℕ) (vs : List Verb) (v : Verb) → Allows w who (change_members o) → Allows w who (change_owner who v.owner) → VerbsKept w who o n vs (vs ++ v ∷ [])
  one_more o n [] v k i = (k, (i, tt))
  one_more o n (u ∷ vs) v k i = inl (record { rest = inl refl; owner = inl refl; program = inl refl }, one_more o (suc n) vs v k i)

  pub verb_comes : (o : ℤ) (v : Verb) → Allows w who (change_members o) → Allows w who (change_owner who v.owner) → Permitted begun w who (verb_added w o v)
  unfolding verb_added
  verb_comes o v k i = other_verbs o (λ vs. vs ++ v ∷ []) (λ vs. one_more o 0 vs v k i)

  one_less : (o : ℤ) (n : ℕ) (vs : List Verb) (k : ℕ) → Allows w who (change_members o) → VerbsKept w who o n vs (without_verb vs k)
  one_less o n [] k a = tt
  one_less o n (v ∷ []) zero a = (a, tt)
  one_less o n (v ∷ u ∷ vs) zero a = inr (a, same_verbs w who o (suc n) (u ∷ vs))
  one_less o n (v ∷ vs) (suc k) a = inl (record { rest = inl refl; owner = inl refl; program = inl refl }, one_less o (suc n) vs k a)

  pub verb_goes : (o : ℤ) (n : ℕ) → Allows w who (change_members o) → Permitted begun w who (verb_deleted w o n)
  unfolding verb_deleted
  verb_goes o n a = other_verbs o (λ vs. without_verb vs n) (λ vs. one_less o 0 vs n a)

  one_other : (o : ℤ) (n : ℕ) (vs : List Verb) (k : ℕ) (f : Verb → Verb) → ((v : Verb) → in_place vs k ≡ Some v → VerbKept w who o (n + k) v (f v))
      → VerbsKept w who o n vs (with_verb vs k f)
  one_other o n [] k f each = tt
  one_other o n (v ∷ vs) zero f each = inl (subst (λ m. VerbKept w who o m v (f v)) (first n) (each v refl), same_verbs w who o (suc n) vs)
    where
      first : (n : ℕ) → n + 0 ≡ n
      first n = omega arith
  one_other o n (v ∷ vs) (suc k) f each =
      inl (record { rest = inl refl; owner = inl refl; program = inl refl }, one_other o (suc n) vs k f (λ u e. subst (λ m. VerbKept w who o m u (f u)) (place n k) (each u e)))
    where
      place : (n k : ℕ) → n + suc k ≡ suc n + k
      place n k = omega arith

  pub verb_changes : (o : ℤ) (n : ℕ) (f : Verb → Verb) → ((x : Object) (v : Verb) → object_at w o ≡ Some x → in_place x.verbs n ≡ Some v → VerbKept w who o n v (f v))
      → Permitted begun w who (verb_changed w o n f)
  unfolding verb_changed
  verb_changes o n f each =
      one_changed w o (λ x. record x { verbs = with_verb x.verbs n f }) (refl, refl, refl)
      (λ x e. record {
        name = inl refl;
        standing = inl (refl, refl, refl);
        player = inl refl;
        bits = inl (refl, refl, refl);
        parent = inl refl;
        location = inl refl;
        defines = inl refl;
        slots = λ p. inl (same_slot w who o p (slot_of (Some x) p));
        verbs = one_other o 0 x.verbs n f (λ v d. subst (λ m. VerbKept w who o m v (f v)) (place n) (each x v e d));
      })
    where
      place : (k : ℕ) → k ≡ 0 + k
      place k = omega arith

  -- ---- a new object

  pub object_made : (h : ObjectsAgree w) (p owner : ℤ) → IsTrue (int_le (next_object w) (pos 999999)) → (p ≡ nowhere) ⊎ IsTrue (is_some (object_at w p))
      → Allows w who (have_child p) → Allows w who (change_owner who owner) → Permitted begun w who (created w p owner)
  unfolding created
  object_made h p owner room at_p allowed own =
      record { kept = keeps; gone = stays; new = made; greatest = inr (change_greatest (with_object (record w { greatest = next_object w }) (next_object w) (child_of w p owner)) p _); ending = inl (change_ending (with_object (record w { greatest = next_object w }) (next_object w) (child_of w p owner)) p _) }
    where
      u : World
      u = created w p owner

      nobody : object_at w (next_object w) ≡ None
      nobody = free w p owner (household w h) room at_p

      there : (q : ℤ)
          → object_at u q
          ≡ option_map (λ y. cond (int_eq q p) (record y { children = y.children ++ next_object w ∷ [] }) y) (cond (int_eq q (next_object w)) (Some (child_of w p owner)) (object_at w q))
      there q =
          at_change (with_object (record w { greatest = next_object w }) (next_object w) (child_of w p owner)) p q _
          ∙ ap (option_map (λ y. cond (int_eq q p) (record y { children = y.children ++ next_object w ∷ [] }) y)) (at_put (record w { greatest = next_object w }) (next_object w) q (child_of w p owner))

      old : (q : ℤ) (x : Object) → object_at w q ≡ Some x → int_eq q (next_object w) ≡ false
      old q x e = go (same_or_not q (next_object w))
        where
          go : (q ≡ next_object w) ⊎ (int_eq q (next_object w) ≡ false) → int_eq q (next_object w) ≡ false
          go (inr s) = s
          go (inl s) = let clash : None ≡ Some x = sym nobody ∙ ap (object_at w) (sym s) ∙ e in absurd (cc (clash))

      still : (q : ℤ) (x : Object) → object_at w q ≡ Some x → object_at u q ≡ Some (cond (int_eq q p) (record x { children = x.children ++ next_object w ∷ [] }) x)
      still q x e =
          there q ∙ ap (λ b. option_map (λ y. cond (int_eq q p) (record y { children = y.children ++ next_object w ∷ [] }) y) (cond b (Some (child_of w p owner)) (object_at w q))) (old q x e)
          ∙ ap (option_map (λ y. cond (int_eq q p) (record y { children = y.children ++ next_object w ∷ [] }) y)) e

      keeps : (o : ℤ) (x y : Object) → object_at w o ≡ Some x → object_at u o ≡ Some y → ObjectKept begun w who u o x y
      keeps o x y e d = subst (λ z. ObjectKept begun w who u o x z) (some_same (sym (still o x e) ∙ d)) (go (int_eq o p))
        where
          go : (b : Bool) → ObjectKept begun w who u o x (cond b (record x { children = x.children ++ next_object w ∷ [] }) x)
          go false = same_object u o x
          go true =
              record {
                name = inl refl;
                standing = inl (refl, refl, refl);
                player = inl refl;
                bits = inl (refl, refl, refl);
                parent = inl refl;
                location = inl refl;
                defines = inl refl;
                slots = λ q. inl (same_slot w who o q (slot_of (Some x) q));
                verbs = same_verbs w who o 0 x.verbs;
              }

      stays : (o : ℤ) (x : Object) → object_at w o ≡ Some x → object_at u o ≡ None → Taken begun w who o
      stays o x e d = let clash = sym (still o x e) ∙ d in absurd (cc (clash))

      made : (o : ℤ) (y : Object) → object_at w o ≡ None → object_at u o ≡ Some y → Made w who o y
      made o y e d = go (int_eq o (next_object w)) refl (sym (there o) ∙ d)
        where
          child : (b : Bool) → Made w who (next_object w) (cond b (record (child_of w p owner) { children = [] ++ next_object w ∷ [] }) (child_of w p owner))
          child true = record { number = refl; owner = own; parent = allowed; header = refl; verbs = refl }
          child false = record { number = refl; owner = own; parent = allowed; header = refl; verbs = refl }

          go : (b : Bool) → int_eq o (next_object w) ≡ b
              → option_map (λ y. cond (int_eq o p) (record y { children = y.children ++ next_object w ∷ [] }) y) (cond b (Some (child_of w p owner)) (object_at w o)) ≡ Some y
              → Made w who o y
          go true s i =
              subst (λ z. Made w who z y) (sym (same_integer o (next_object w) s)) (subst (λ z. Made w who (next_object w) z) (some_same i) (child (int_eq o p)))
          go false s i =
              let clash : None ≡ Some y = sym (ap (option_map (λ y. cond (int_eq o p) (record y { children = y.children ++ next_object w ∷ [] }) y)) e) ∙ i in
              absurd (cc (clash))

  -- ---- objects that are moved or hang elsewhere

  pub rearranged_kept : (hung placed : ℤ → ℤ → Type 0) (heir : ℤ → Type 0) (u : World) (o : ℤ) (x y : Object) → Rearranged hung placed heir o x y
      → (hung o y.header.parent → (Allows w who (act.change_object o) × Allows w who (have_child y.header.parent)) ⊎ IsRecycled begun w who u x.header.parent)
      → (placed o y.header.location
      → Taken begun w who o ⊎ ((y.header.location ≡ nowhere) × IsRecycled begun w who u x.header.location))
      → (heir o → LineChanges begun w who o) → ObjectKept begun w who u o x y
  rearranged_kept hung placed heir u o x y r up at line =
      record {
        name = inl (ap (λ (z : Object). z.header.name) r.rest);
        standing = inl (ap (λ (z : Object). z.header.owner) r.rest, ap (λ (z : Object). z.header.is_programmer) r.rest, ap (λ (z : Object). z.header.is_wizard) r.rest);
        player = inl (ap (λ (z : Object). z.header.is_player) r.rest);
        bits = inl (ap (λ (z : Object). z.header.readable) r.rest, ap (λ (z : Object). z.header.writable) r.rest, ap (λ (z : Object). z.header.fertile) r.rest);
        parent = parent r.parent;
        location = location r.location;
        defines = inl (ap (λ (z : Object). z.defines) r.rest);
        slots = slots r.slots;
        verbs = subst (λ vs. VerbsKept w who o 0 x.verbs vs) (sym (ap (λ (z : Object). z.verbs) r.rest)) (same_verbs w who o 0 x.verbs);
      }
    where
      parent : (y.header.parent ≡ x.header.parent) ⊎ hung o y.header.parent
          → (y.header.parent ≡ x.header.parent) ⊎ ((Allows w who (act.change_object o) × Allows w who (have_child y.header.parent)) ⊎ IsRecycled begun w who u x.header.parent)
      parent (inl e) = inl e
      parent (inr k) = inr (up k)

      location : (y.header.location ≡ x.header.location) ⊎ placed o y.header.location
          → (y.header.location ≡ x.header.location) ⊎ (Taken begun w who o ⊎ ((y.header.location ≡ nowhere) × IsRecycled begun w who u x.header.location))
      location (inl e) = inl e
      location (inr k) = inr (at k)

      slots : (y.slots ≡ x.slots) ⊎ (heir o × ((k : Text) → Shifts (named x.slots k) (named y.slots k))) → (p : Text)
          → SlotStays w who o p (slot_of (Some x) p) (slot_of (Some y) p) ⊎ (LineChanges begun w who o × SlotComesOrGoes (slot_of (Some x) p) (slot_of (Some y) p))
      slots (inl e) p = inl (subst (λ es. SlotStays w who o p (slot_of (Some x) p) (named es (fold_case p))) (sym e) (same_slot w who o p (slot_of (Some x) p)))
      slots (inr (k, f)) p = inr (line k, shift_is (slot_of (Some x) p) (slot_of (Some y) p) (f (fold_case p)))

  arranged_permitted : (hung placed : ℤ → ℤ → Type 0) (heir : ℤ → Type 0) (u : World) → Arranged hung placed heir w u
      → ((o : ℤ) (x y : Object) → object_at w o ≡ Some x → Rearranged hung placed heir o x y → ObjectKept begun w who u o x y) → Permitted begun w who u
  arranged_permitted hung placed heir u a each =
      record { kept = keeps; gone = stays; new = none; greatest = inl a.greatest; ending = inl a.ending }
    where
      keeps : (o : ℤ) (x y : Object) → object_at w o ≡ Some x → object_at u o ≡ Some y → ObjectKept begun w who u o x y
      keeps o x y e d =
          each o x y e (subst (λ m. EachRearranged hung placed heir o (Some x) m) d (subst (λ m. EachRearranged hung placed heir o m (object_at u o)) e (a.objects o)))

      stays : (o : ℤ) (x : Object) → object_at w o ≡ Some x → object_at u o ≡ None → Taken begun w who o
      stays o x e d = absurd (subst (λ m. EachRearranged hung placed heir o (Some x) m) d (subst (λ m. EachRearranged hung placed heir o m (object_at u o)) e (a.objects o)))

      none : (o : ℤ) (y : Object) → object_at w o ≡ None → object_at u o ≡ Some y → Made w who o y
      none o y e d = absurd (subst (λ m. EachRearranged hung placed heir o None m) d (subst (λ m. EachRearranged hung placed heir o m (object_at u o)) e (a.objects o)))

  pub object_moved : (what place : ℤ) → Taken begun w who what → Permitted begun w who (moved w what place)
  object_moved what place taken =
      arranged_permitted (λ q p. ⊥) (λ q p. q ≡ what) (λ q. ⊥) (moved w what place) (moved_arranged (λ q p. ⊥) (λ q p. q ≡ what) (λ q. ⊥) w what place refl)
      (λ o x y e r. rearranged_kept (λ q p. ⊥) (λ q p. q ≡ what) (λ q. ⊥) (moved w what place) o x y r (λ k. absurd k) (λ k. inl (subst (Taken begun w who) (sym k) taken)) (λ k. absurd k))

  pub object_hung : (o p : ℤ) → Allows w who (act.change_object o) → Allows w who (have_child p) → Permitted begun w who (reparented w o p)
  object_hung o p allowed below =
      arranged_permitted hung (λ q z. ⊥) heir (reparented w o p) (reparented_arranged hung (λ q z. ⊥) heir w o p (refl, refl) (λ q k. k))
      (λ q x y e r. rearranged_kept hung (λ q z. ⊥) heir (reparented w o p) q x y r
      (λ k. inl (subst (λ z. Allows w who (act.change_object z)) (sym k.0) allowed, subst (λ z. Allows w who (have_child z)) (sym k.1) below))
      (λ k. absurd k) (λ k. (o, k, inr (inl allowed))))
    where
      hung : ℤ → ℤ → Type 0
      hung q z = (q ≡ o) × (z ≡ p)

      heir : ℤ → Type 0
      heir q = is_below w o q ≡ true
