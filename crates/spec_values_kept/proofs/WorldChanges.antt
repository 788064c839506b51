-- Changes of a world of values by values leave a world of values.
use Rattle.std.proofs.Common.{◌≡◌, ◌<◌, ◌^◌, ℕ, zero, suc, length, ap, sym, subst, ℤ, Bool, true, false, List, [], ◌∷◌, ◌++◌, Option, Some, None, IsTrue, refl, if◌then◌else◌}
use Rattle.std.specs.Ordering.{int_eq, nat_cmp}
use Rattle.std.specs.Cmp.Lexicographic.{slice_cmp}
use Rattle.spec_value.specs.Datum.{Datum, object, text, Text, fold_case, ErrorCode, of_list}
use Rattle.spec_value.specs.Answer.{Answer, raises}
use Rattle.spec_value.specs.Table.{Named, Numbered, at, with, without, named, with_name}
use Rattle.spec_world.specs.World.{World, Object, Slot, Verb, Task, Link, object_at, with_object}
use Rattle.spec_world.specs.Naming.{location_of}
use Rattle.spec_world.specs.Inherit.{ancestors, slot_of, slot_at, content_of, or_else, first_value, property_value, put_slot, with_slot}
use Rattle.spec_world.specs.Families.{nowhere, change_at, change_object, changed_each, change_each, heir_slot, heir_slots, slots_at, slots_named, added_slot, with_slots, child_of, next_object, add_child, lose_child, created, is_below, parent_of, heir_of, kept_names, with_heirs, reparented, reparented_each, to_nowhere, out_of_place, recycled_object, recycled, leave_out}
use Rattle.spec_world.specs.WellFormed.{count, has_name}
use Rattle.spec_world.specs.Whereabouts.{moved}
use Rattle.spec_world.specs.Members.{with_own_slot, defining, property_added, not_defining, lose_slot, property_deleted, without_verb, with_verb, verb_added, verb_deleted, verb_changed}
use Rattle.spec_world.specs.Links.{connection_among, connection_of, open_link, close_link}
use Rattle.spec_world.specs.VerbsSought.{Sought, first_passing, own_first, found_or, first_on, find_verb}
use Rattle.spec_world.specs.Permissions as act
use Rattle.spec_world.specs.Permissions.{may}
use Rattle.spec_moo.specs.Properties.{objects_listed, BuiltInProperty, own_name, own_owner, own_location, own_contents, programmer_flag, wizard_flag, r_bit, w_bit, f_bit, built_in, built_in_value, writing, found, read_slot, read_valid, read_object, read, with_built_in, Written, wrote, refused, write_built_in, write_slot, write_valid, write_object, write}
use Rattle.spec_values_kept.specs.Values.{items_nest_within, items_are_short, InRange, IsPrinted, AreData, IsKept, Each, IfThere, AnswerKept}
use Rattle.spec_values_kept.specs.WorldValues.{SlotHolds, VerbHolds, ObjectHolds, TaskHolds, LinkHolds, NumberedHolds, WorldHolds}
use Rattle.spec_values_kept.specs.UnderWay.{ContentsFew}
use Rattle.spec_values_kept.proofs.Tables.{each_more, each_filtered, each_put, each_found, numbered_put, number_there, numbered_there, numbered_without}
use Rattle.spec_values_kept.proofs.Nesting.{list_kept}
use Rattle.spec_values_kept.proofs.ValuesGiven.{truth_value, onto_data}

-- ---- objects

pub object_there : (w : World) (o : ℤ) (x : Object) → WorldHolds w → object_at w o ≡ Some x → InRange o × ObjectHolds x
object_there w o x h e = number_there ObjectHolds w.objects o x h.0 e

pub objects_there : (w : World) (o : ℤ) → WorldHolds w → IfThere ObjectHolds (object_at w o)
objects_there w o h = numbered_there ObjectHolds w.objects o h.0

pub object_put : (w : World) (o : ℤ) (x : Object) → InRange o → ObjectHolds x → WorldHolds w → WorldHolds (with_object w o x)
object_put w o x i one h = (numbered_put ObjectHolds w.objects o x i one h.0, h.1)

pub change_holds : (w : World) (o : ℤ) (f : Object → Object) → ((x : Object) → ObjectHolds x → ObjectHolds (f x)) → WorldHolds w → WorldHolds (change_object w o f)
change_holds w o f one h = go (object_at w o) refl
  where
    go : (m : Option Object) → object_at w o ≡ m → WorldHolds (change_at w o f m)
    go None e = h
    go (Some x) e = let k = object_there w o x h e in object_put w o (f x) k.0 (one x k.1) h

each_changed : (f : ℤ → Object → Object) → ((d : ℤ) (x : Object) → ObjectHolds x → ObjectHolds (f d x)) → (es : Numbered Object)
    → Each (NumberedHolds ObjectHolds) es → Each (NumberedHolds ObjectHolds) (changed_each f es)
each_changed f one [] h = tt
each_changed f one (e ∷ es) h = (((h.0).0, one e.0 e.1 (h.0).1), each_changed f one es h.1)

pub each_holds : (w : World) (f : ℤ → Object → Object) → ((d : ℤ) (x : Object) → ObjectHolds x → ObjectHolds (f d x)) → WorldHolds w → WorldHolds (change_each w f)
each_holds w f one h = (each_changed f one w.objects h.0, h.1)

holds_if : (b : Bool) (x y : Object) → ObjectHolds x → ObjectHolds y → ObjectHolds (if b then x else y)
holds_if true x y h k = h
holds_if false x y h k = k

pub place_in_range : (w : World) (o : ℤ) → WorldHolds w → InRange (location_of (object_at w o))
place_in_range w o h = go (object_at w o) (objects_there w o h)
  where
    go : (m : Option Object) → IfThere ObjectHolds m → InRange (location_of m)
    go None k = refl
    go (Some x) k = (((k.0).1).1).1

-- ---- slots

abbrev pub SlotsHold : Named Slot → Type 0
SlotsHold ss = Each (λ e. SlotHolds e.1) ss

slot_named : (ss : Named Slot) (p : Text) → SlotsHold ss → IfThere SlotHolds (named ss p)
slot_named ss p h = each_found (slice_cmp nat_cmp) SlotHolds ss p h

slot_put : (ss : Named Slot) (p : Text) (s : Slot) → SlotHolds s → SlotsHold ss → SlotsHold (with_name ss p s)
slot_put ss p s one h = each_put (slice_cmp nat_cmp) (λ e. SlotHolds e.1) p s ss one (λ e k. one) h

pub slot_there : (w : World) (o : ℤ) (p : Text) → WorldHolds w → IfThere SlotHolds (slot_at w o p)
slot_there w o p h = go (object_at w o) (objects_there w o h)
  where
    go : (m : Option Object) → IfThere ObjectHolds m → IfThere SlotHolds (slot_of m p)
    go None k = tt
    go (Some x) k = slot_named x.slots (fold_case p) (((((k.1).1).1).1).0)

-- an object with other slots
other_slots : (x : Object) (ss : Named Slot) → SlotsHold ss → ObjectHolds x → ObjectHolds (record x { slots = ss })
other_slots x ss i h = (h.0, ((h.1).0, (((h.1).1).0, ((((h.1).1).1).0, (i, ((((h.1).1).1).1).1)))))

slots_of_object : (x : Object) → ObjectHolds x → SlotsHold x.slots
slots_of_object x h = ((((h.1).1).1).1).0

pub slot_holds : (w : World) (o : ℤ) (p : Text) (s : Slot) → SlotHolds s → WorldHolds w → WorldHolds (with_slot w o p s)
unfolding with_slot
slot_holds w o p s one h = go (object_at w o) refl
  where
    go : (m : Option Object) → object_at w o ≡ m → WorldHolds (put_slot w o p s m)
    go None e = h
    go (Some x) e =
        let k = object_there w o x h e in
        object_put w o (record x { slots = with_name x.slots (fold_case p) s }) k.0 (other_slots x _ (slot_put x.slots (fold_case p) s one (slots_of_object x k.1)) k.1) h

content_there : (m : Option Slot) → IfThere SlotHolds m → IfThere IsKept (content_of m)
content_there None h = tt
content_there (Some s) h = h.1

one_there : (a b : Option Datum) → IfThere IsKept a → IfThere IsKept b → IfThere IsKept (or_else a b)
one_there None b h k = k
one_there (Some v) b h k = h

first_there : (w : World) (os : List ℤ) (p : Text) → WorldHolds w → IfThere IsKept (first_value w os p)
unfolding first_value
first_there w [] p h = tt
first_there w (o ∷ os) p h = one_there (content_of (slot_at w o p)) (first_value w os p) (content_there (slot_at w o p) (slot_there w o p h)) (first_there w os p h)

pub property_there : (w : World) (o : ℤ) (p : Text) → WorldHolds w → IfThere IsKept (property_value w o p)
unfolding property_value
property_there w o p h = first_there w (ancestors w o) p h

-- ---- verbs that are sought

abbrev pub SoughtHolds : Sought → Type 0
SoughtHolds f = InRange f.definer × VerbHolds f.verb

passing_holds : (o : ℤ) (test : Verb → Bool) (vs : List Verb) → InRange o → Each VerbHolds vs → IfThere SoughtHolds (first_passing o test vs)
passing_holds o test [] i h = tt
passing_holds o test (v ∷ vs) i h = go (test v) (passing_holds o test vs i h.1)
  where
    go : (b : Bool) → IfThere SoughtHolds (first_passing o test vs) → IfThere SoughtHolds (if b then Some (record { definer = o; verb = v }) else first_passing o test vs)
    go true later = (i, h.0)
    go false later = later

pub verbs_of_object : (x : Object) → ObjectHolds x → Each VerbHolds x.verbs
verbs_of_object x h = ((((h.1).1).1).1).1

pub sought_on : (w : World) (test : Verb → Bool) (os : List ℤ) → WorldHolds w → IfThere SoughtHolds (first_on w test os)
unfolding first_on
sought_on w test [] h = tt
sought_on w test (o ∷ os) h = go (object_at w o) refl (sought_on w test os h)
  where
    found_one : (m n : Option Sought) → IfThere SoughtHolds m → IfThere SoughtHolds n → IfThere SoughtHolds (found_or m n)
    found_one None n i k = k
    found_one (Some f) n i k = i

    go : (m : Option Object) → object_at w o ≡ m → IfThere SoughtHolds (first_on w test os) → IfThere SoughtHolds (found_or (own_first o test m) (first_on w test os))
    go None e later = later
    go (Some x) e later = let k = object_there w o x h e in found_one _ (first_on w test os) (passing_holds o test x.verbs k.0 (verbs_of_object x k.1)) later

pub verb_sought : (w : World) (o : ℤ) (word : Text) → WorldHolds w → IfThere SoughtHolds (find_verb w o word)
unfolding find_verb
verb_sought w o word h = sought_on w _ (ancestors w o) h

-- ---- properties that are read

pub listed_objects : (os : List ℤ) → Each InRange os → AreData (of_list (objects_listed os))
listed_objects [] h = refl
listed_objects (o ∷ os) h = onto_data (object o) (of_list (objects_listed os)) h.0 (listed_objects os h.1)

objects_nest : (n : ℕ) (os : List ℤ) → IsTrue (items_nest_within n (of_list (objects_listed os)))
objects_nest n [] = refl
objects_nest n (o ∷ os) = objects_nest n os

objects_are_short : (os : List ℤ) → IsTrue (items_are_short (of_list (objects_listed os)))
objects_are_short [] = refl
objects_are_short (o ∷ os) = objects_are_short os

objects_counted : (os : List ℤ) → count (of_list (objects_listed os)) ≡ length os
objects_counted [] = refl
objects_counted (o ∷ os) = ap suc (objects_counted os)

built_in_gives : (x : Object) (b : BuiltInProperty) → ObjectHolds x → length x.contents < 2 ^ 31 → IsKept (built_in_value x b)
built_in_gives x own_name h l = (h.0).0
built_in_gives x own_owner h l = ((h.0).1).0
built_in_gives x own_location h l = (((h.0).1).1).1
built_in_gives x own_contents h l =
    list_kept (of_list (objects_listed x.contents)) (objects_nest 65535 x.contents) (subst (λ n. n < 2 ^ 31) (sym (objects_counted x.contents)) l) (objects_are_short x.contents)
    (listed_objects x.contents ((h.1).1).0)
built_in_gives x programmer_flag h l = truth_value x.header.is_programmer
built_in_gives x wizard_flag h l = truth_value x.header.is_wizard
built_in_gives x r_bit h l = truth_value x.header.readable
built_in_gives x w_bit h l = truth_value x.header.writable
built_in_gives x f_bit h l = truth_value x.header.fertile

pub read_gives : (w : World) (who : ℤ) (a b : Datum) → WorldHolds w → ContentsFew w → AnswerKept (read w who a b)
unfolding read
read_gives w who (object o) (text p) h few = go (object_at w o) refl (objects_there w o h)
  where
    there : (m : Option Datum) → IfThere IsKept m → AnswerKept (found m)
    there None k = tt
    there (Some v) k = k

    allowed_if : (b : Bool) (a : Answer) (e : ErrorCode) → AnswerKept a → AnswerKept (if b then a else raises e)
    allowed_if true a e k = k
    allowed_if false a e k = tt

    slot : (m : Option Slot) → AnswerKept (read_slot w who o p m)
    slot None = tt
    slot (Some s) = allowed_if (may w who (act.read_slot o p)) _ _ (there (property_value w o p) (property_there w o p h))

    own : (x : Object) (m : Option BuiltInProperty) → ObjectHolds x → length x.contents < 2 ^ 31 → AnswerKept (read_valid w who o p x m)
    own x (Some b) k l = built_in_gives x b k l
    own x None k l = slot (slot_at w o p)

    go : (m : Option Object) → object_at w o ≡ m → IfThere ObjectHolds m → AnswerKept (read_object w who o p m)
    go None e k = tt
    go (Some x) e k = own x (built_in p) k (few o x e)
read_gives w who a b h few = tt

-- ---- properties that are written

abbrev pub WrittenHolds : Written → Type 0
WrittenHolds (wrote u) = WorldHolds u
WrittenHolds (refused e) = Unit {0}

written_own : (x : Object) (b : BuiltInProperty) (v : Datum) → IsKept v → ObjectHolds x → IfThere ObjectHolds (with_built_in x b v)
written_own x own_name (text t) k h = ((k, (h.0).1), h.1)
written_own x own_name v k h = tt
written_own x own_owner (object o) k h = (((h.0).0, (k, ((h.0).1).1)), h.1)
written_own x own_owner v k h = tt
written_own x programmer_flag v k h = h
written_own x wizard_flag v k h = h
written_own x r_bit v k h = h
written_own x w_bit v k h = h
written_own x f_bit v k h = h
written_own x b v k h = h

pub write_holds : (w : World) (who : ℤ) (a b v : Datum) → IsKept v → WorldHolds w → WrittenHolds (write w who a b v)
unfolding write
write_holds w who (object o) (text p) v i h = go (object_at w o) refl
  where
    allowed_if : (b : Bool) (u : World) (e : ErrorCode) → WorldHolds u → WrittenHolds (if b then wrote u else refused e)
    allowed_if true u e k = k
    allowed_if false u e k = tt

    own : (allowed : Bool) (m : Option Object) → InRange o → IfThere ObjectHolds m → WrittenHolds (write_built_in w o allowed m)
    own allowed None j k = tt
    own allowed (Some x) j k = allowed_if allowed _ _ (object_put w o x j k h)

    slot : (m : Option Slot) → IfThere SlotHolds m → WrittenHolds (write_slot w who o p v m)
    slot None k = tt
    slot (Some s) k = allowed_if (may w who (act.write_slot o p)) _ _ (slot_holds w o p (record s { content = Some v }) (k.0, i) h)

    there : (x : Object) (m : Option BuiltInProperty) → InRange o → ObjectHolds x → WrittenHolds (write_valid w who o p v x m)
    there x None j k = slot (slot_at w o p) (slot_there w o p h)
    there x (Some b) j k = own (may w who (writing o b)) (with_built_in x b v) j (written_own x b v i k)

    go : (m : Option Object) → object_at w o ≡ m → WrittenHolds (write_object w who o p v m)
    go None e = tt
    go (Some x) e = let k = object_there w o x h e in there x (built_in p) k.0 k.1
write_holds w who a b v i h = tt

-- ---- families

owner_if : (b : Bool) (m n : ℤ) → InRange m → InRange n → InRange (if b then m else n)
owner_if true m n h k = h
owner_if false m n h k = k

heir_holds : (owner : ℤ) (s : Slot) → InRange owner → SlotHolds s → SlotHolds (heir_slot owner s)
heir_holds owner s i h = (owner_if s.changeable owner s.owner i h.0, tt)

heirs_hold : (owner : ℤ) (ss : Named Slot) → InRange owner → SlotsHold ss → SlotsHold (heir_slots owner ss)
heirs_hold owner [] i h = tt
heirs_hold owner (e ∷ es) i h = (heir_holds owner e.1 i h.0, heirs_hold owner es i h.1)

slots_there : (w : World) (o : ℤ) → WorldHolds w → SlotsHold (slots_at (object_at w o))
slots_there w o h = go (object_at w o) (objects_there w o h)
  where
    go : (m : Option Object) → IfThere ObjectHolds m → SlotsHold (slots_at m)
    go None k = tt
    go (Some x) k = slots_of_object x k

named_hold : (test : Text → Bool) (ss : Named Slot) → SlotsHold ss → SlotsHold (slots_named test ss)
named_hold test [] h = tt
named_hold test (e ∷ es) h = go (test e.0) (named_hold test es h.1)
  where
    go : (b : Bool) → SlotsHold (slots_named test es) → SlotsHold (if b then e ∷ slots_named test es else slots_named test es)
    go true later = (h.0, later)
    go false later = later

added_holds : (ss : Named Slot) (p : Text) (s : Slot) (m : Option Slot) → SlotHolds s → SlotsHold ss → SlotsHold (added_slot ss p s m)
added_holds ss p s None one h = slot_put ss p s one h
added_holds ss p s (Some t) one h = h

together_hold : (ss ts : Named Slot) → SlotsHold ss → SlotsHold ts → SlotsHold (with_slots ss ts)
together_hold ss [] h k = h
together_hold ss (e ∷ es) h k = together_hold (added_slot ss e.0 e.1 (named ss e.0)) es (added_holds ss e.0 e.1 (named ss e.0) k.0 h) k.1

more_children : (x : Object) (o : ℤ) → InRange o → ObjectHolds x → ObjectHolds (record x { children = x.children ++ o ∷ [] })
more_children x o i h = (h.0, (each_more InRange x.children o (h.1).0 i, (h.1).1))

fewer_children : (x : Object) (o : ℤ) → ObjectHolds x → ObjectHolds (record x { children = leave_out o x.children })
fewer_children x o h = (h.0, (each_filtered InRange _ x.children (h.1).0, (h.1).1))

pub child_added : (w : World) (parent o : ℤ) → InRange o → WorldHolds w → WorldHolds (add_child w parent o)
child_added w parent o i h = change_holds w parent _ (λ x k. more_children x o i k) h

child_lost : (w : World) (parent o : ℤ) → WorldHolds w → WorldHolds (lose_child w parent o)
child_lost w parent o h = change_holds w parent _ (λ x k. fewer_children x o k) h

pub created_holds : (w : World) (parent owner : ℤ) → InRange parent → InRange owner → InRange (next_object w) → WorldHolds w → WorldHolds (created w parent owner)
unfolding created
created_holds w parent owner i j k h =
    child_added (with_object (record w { greatest = next_object w }) (next_object w) (child_of w parent owner)) parent (next_object w) k
    (object_put (record w { greatest = next_object w }) (next_object w) (child_of w parent owner) k
    ((refl, (j, (i, refl))), (tt, (tt, (tt, (heirs_hold owner (slots_at (object_at w parent)) j (slots_there w parent h), tt)))))
    (h.0, ((h.1).0, (((h.1).1).0, ((((h.1).1).1).0, k)))))

heir_object : (w : World) (o parent d : ℤ) (x : Object) → WorldHolds w → ObjectHolds x → ObjectHolds (heir_of w o parent d x)
heir_object w o parent d x h k =
    other_slots x _
    (together_hold (slots_named (has_name (kept_names w o parent d)) x.slots) (heir_slots x.header.owner (slots_at (object_at w parent)))
    (named_hold _ x.slots (slots_of_object x k)) (heirs_hold x.header.owner (slots_at (object_at w parent)) ((k.0).1).0 (slots_there w parent h))) k

other_parent : (x : Object) (parent : ℤ) → InRange parent → ObjectHolds x → ObjectHolds (record x { header = record (x.header) { parent = parent } })
other_parent x parent i h = (((h.0).0, (((h.0).1).0, (i, (((h.0).1).1).1))), h.1)

other_place : (x : Object) (place : ℤ) → InRange place → ObjectHolds x → ObjectHolds (record x { header = record (x.header) { location = place } })
other_place x place i h = (((h.0).0, (((h.0).1).0, ((((h.0).1).1).0, i))), h.1)

pub reparented_holds : (w : World) (o parent : ℤ) → InRange o → InRange parent → WorldHolds w → WorldHolds (reparented w o parent)
unfolding reparented
reparented_holds w o parent i j h =
    child_added (change_object (lose_child (with_heirs w o parent) (parent_of (object_at w o)) o) o (λ x. record x { header = record (x.header) { parent = parent } })) parent o i
    (change_holds (lose_child (with_heirs w o parent) (parent_of (object_at w o)) o) o _ (λ x k. other_parent x parent j k)
    (child_lost (with_heirs w o parent) (parent_of (object_at w o)) o
    (each_holds w (λ d x. if is_below w o d then heir_of w o parent d x else x) (λ d x k. holds_if (is_below w o d) _ _ (heir_object w o parent d x h k) k) h)))

each_reparented : (w : World) (cs : List ℤ) (parent : ℤ) → Each InRange cs → InRange parent → WorldHolds w → WorldHolds (reparented_each w cs parent)
each_reparented w [] parent i j h = h
each_reparented w (c ∷ cs) parent i j h = each_reparented (reparented w c parent) cs parent i.1 j (reparented_holds w c parent i.0 j h)

all_to_nowhere : (w : World) (cs : List ℤ) → WorldHolds w → WorldHolds (to_nowhere w cs)
all_to_nowhere w [] h = h
all_to_nowhere w (c ∷ cs) h =
    all_to_nowhere (change_object w c (λ x. record x { header = record (x.header) { location = nowhere } })) cs
    (change_holds w c _ (λ x k. other_place x nowhere refl k) h)

fewer_contents : (x : Object) (o : ℤ) → ObjectHolds x → ObjectHolds (record x { contents = leave_out o x.contents })
fewer_contents x o h = (h.0, ((h.1).0, (each_filtered InRange _ x.contents ((h.1).1).0, ((h.1).1).1)))

place_left : (w : World) (place o : ℤ) → WorldHolds w → WorldHolds (out_of_place w place o)
place_left w place o h = change_holds w place _ (λ x k. fewer_contents x o k) h

pub recycled_holds : (w : World) (o : ℤ) → WorldHolds w → WorldHolds (recycled w o)
unfolding recycled
recycled_holds w o h = go (object_at w o) refl
  where
    gone : (u : World) → WorldHolds u → WorldHolds (record u { objects = without u.objects o })
    gone u k = (numbered_without ObjectHolds u.objects o k.0, k.1)

    go : (m : Option Object) → object_at w o ≡ m → WorldHolds (recycled_object w o m)
    go None e = h
    go (Some x) e =
        let k = (object_there w o x h e).1 in
        let u : World = reparented_each w x.children x.header.parent in
        gone (out_of_place (lose_child (to_nowhere u x.contents) x.header.parent o) x.header.location o)
        (place_left (lose_child (to_nowhere u x.contents) x.header.parent o) x.header.location o
        (child_lost (to_nowhere u x.contents) x.header.parent o
        (all_to_nowhere u x.contents (each_reparented w x.children x.header.parent (k.1).0 (((k.0).1).1).0 h))))

more_contents : (x : Object) (o : ℤ) → InRange o → ObjectHolds x → ObjectHolds (record x { contents = x.contents ++ o ∷ [] })
more_contents x o i h = (h.0, ((h.1).0, (each_more InRange x.contents o ((h.1).1).0 i, ((h.1).1).1)))

pub moved_holds : (w : World) (what place : ℤ) → InRange what → InRange place → WorldHolds w → WorldHolds (moved w what place)
unfolding moved
moved_holds w what place i j h =
    let u : World = out_of_place w (location_of (object_at w what)) what in
    change_holds (change_object u what (λ x. record x { header = record (x.header) { location = place } })) place _ (λ x k. more_contents x what i k)
    (change_holds u what _ (λ x k. other_place x place j k) (place_left w (location_of (object_at w what)) what h))

-- ---- properties and verbs that come and go

own_slot : (x : Object) (p : Text) (s : Slot) → SlotHolds s → ObjectHolds x → ObjectHolds (with_own_slot x p s)
own_slot x p s one h = other_slots x _ (slot_put x.slots (fold_case p) s one (slots_of_object x h)) h

defined : (x : Object) (p : Text) (s : Slot) → IsPrinted p → SlotHolds s → ObjectHolds x → ObjectHolds (defining x p s)
defined x p s i one h =
    own_slot (record x { defines = x.defines ++ p ∷ [] }) p s one
    (h.0, ((h.1).0, (((h.1).1).0, (each_more IsPrinted x.defines p (((h.1).1).1).0 i, (((h.1).1).1).1))))

pub property_added_holds : (w : World) (o : ℤ) (p : Text) (s : Slot) → IsPrinted p → SlotHolds s → WorldHolds w → WorldHolds (property_added w o p s)
unfolding property_added
property_added_holds w o p s i one h =
    each_holds w _
    (λ d x k. holds_if (int_eq d o) _ _ (defined x p s i one k) (holds_if (is_below w o d) _ _ (own_slot x p (heir_slot x.header.owner s) (heir_holds x.header.owner s ((k.0).1).0 one) k) k)) h

slot_lost : (x : Object) (p : Text) → ObjectHolds x → ObjectHolds (lose_slot x p)
slot_lost x p h = other_slots x _ (each_filtered (λ e. SlotHolds e.1) _ x.slots (slots_of_object x h)) h

undefined : (x : Object) (p : Text) → ObjectHolds x → ObjectHolds (not_defining x p)
undefined x p h = (h.0, ((h.1).0, (((h.1).1).0, (each_filtered IsPrinted _ x.defines (((h.1).1).1).0, (((h.1).1).1).1))))

pub property_deleted_holds : (w : World) (o : ℤ) (p : Text) → WorldHolds w → WorldHolds (property_deleted w o p)
unfolding property_deleted
property_deleted_holds w o p h =
    each_holds w _ (λ d x k. holds_if (int_eq d o) _ _ (slot_lost (not_defining x p) p (undefined x p k)) (holds_if (is_below w o d) _ _ (slot_lost x p k) k)) h

other_verbs : (x : Object) (vs : List Verb) → Each VerbHolds vs → ObjectHolds x → ObjectHolds (record x { verbs = vs })
other_verbs x vs i h = (h.0, ((h.1).0, (((h.1).1).0, ((((h.1).1).1).0, (((((h.1).1).1).1).0, i)))))

one_without : (vs : List Verb) (n : ℕ) → Each VerbHolds vs → Each VerbHolds (without_verb vs n)
one_without [] n h = tt
one_without (v ∷ vs) zero h = h.1
one_without (v ∷ vs) (suc n) h = (h.0, one_without vs n h.1)

one_with : (vs : List Verb) (n : ℕ) (f : Verb → Verb) → ((v : Verb) → VerbHolds v → VerbHolds (f v)) → Each VerbHolds vs → Each VerbHolds (with_verb vs n f)
one_with [] n f one h = tt
one_with (v ∷ vs) zero f one h = (one v h.0, h.1)
one_with (v ∷ vs) (suc n) f one h = (h.0, one_with vs n f one h.1)

pub verb_added_holds : (w : World) (o : ℤ) (v : Verb) → VerbHolds v → WorldHolds w → WorldHolds (verb_added w o v)
unfolding verb_added
verb_added_holds w o v one h = change_holds w o _ (λ x k. other_verbs x (x.verbs ++ v ∷ []) (each_more VerbHolds x.verbs v (verbs_of_object x k) one) k) h

pub verb_deleted_holds : (w : World) (o : ℤ) (n : ℕ) → WorldHolds w → WorldHolds (verb_deleted w o n)
unfolding verb_deleted
verb_deleted_holds w o n h = change_holds w o _ (λ x k. other_verbs x (without_verb x.verbs n) (one_without x.verbs n (verbs_of_object x k)) k) h

pub verb_changed_holds : (w : World) (o : ℤ) (n : ℕ) (f : Verb → Verb) → ((v : Verb) → VerbHolds v → VerbHolds (f v)) → WorldHolds w → WorldHolds (verb_changed w o n f)
unfolding verb_changed
verb_changed_holds w o n f one h = change_holds w o _ (λ x k. other_verbs x (with_verb x.verbs n f) (one_with x.verbs n f one (verbs_of_object x k)) k) h

-- ---- tasks and links

pub task_put : (w : World) (i : ℤ) (t : Task) → InRange i → TaskHolds t → WorldHolds w → WorldHolds (record w { tasks = with w.tasks i t })
task_put w i t j one h = (h.0, (numbered_put TaskHolds w.tasks i t j one (h.1).0, (h.1).1))

pub task_there : (w : World) (i : ℤ) (t : Task) → WorldHolds w → at w.tasks i ≡ Some t → InRange i × TaskHolds t
task_there w i t h e = number_there TaskHolds w.tasks i t (h.1).0 e

pub task_gone : (w : World) (i : ℤ) → WorldHolds w → WorldHolds (record w { tasks = without w.tasks i })
task_gone w i h = (h.0, (numbered_without TaskHolds w.tasks i (h.1).0, (h.1).1))

pub link_put_holds : (w : World) (c : ℤ) (k : Link) → InRange c → LinkHolds k → WorldHolds w → WorldHolds (open_link w c k)
link_put_holds w c k i one h = (h.0, ((h.1).0, (numbered_put LinkHolds w.links c k i one ((h.1).1).0, ((h.1).1).1)))

pub link_there : (w : World) (c : ℤ) (k : Link) → WorldHolds w → at w.links c ≡ Some k → InRange c × LinkHolds k
link_there w c k h e = number_there LinkHolds w.links c k ((h.1).1).0 e

pub link_gone : (w : World) (c : ℤ) → WorldHolds w → WorldHolds (close_link w c)
unfolding close_link
link_gone w c h = (h.0, (each_filtered (NumberedHolds TaskHolds) _ w.tasks (h.1).0, (numbered_without LinkHolds w.links c ((h.1).1).0, ((h.1).1).1)))

among_in_range : (es : Numbered Link) (o : ℤ) → Each (NumberedHolds LinkHolds) es → IfThere InRange (connection_among es o)
among_in_range [] o h = tt
among_in_range (e ∷ es) o h = go (int_eq (e.1).person o) (among_in_range es o h.1)
  where
    go : (b : Bool) → IfThere InRange (connection_among es o) → IfThere InRange (if b then Some e.0 else connection_among es o)
    go true later = (h.0).0
    go false later = later

pub connection_in_range : (w : World) (o : ℤ) → WorldHolds w → IfThere InRange (connection_of w o)
connection_in_range w o h = among_in_range w.links o ((h.1).1).0
