-- Changes of a world that leave its programs and its waiting tasks as they were, or bring others that fit.
use Rattle.std.proofs.Common.{◌≡◌, ℤ, Bool, true, false, cond, List, [], ◌∷◌, Option, Some, None, IsTrue, refl, subst, if◌then◌else◌, Ordering, Less, Equal, Greater, is_eq}
use Rattle.std.specs.List.{list_all}
use Rattle.std.specs.Ordering.{int_cmp, nat_cmp}
use Rattle.std.specs.Cmp.Lexicographic.{slice_cmp}
use Rattle.std.specs.FinMap.{put}
use Rattle.std.specs.FinMap.Entries.{by_order}
use Rattle.spec_value.specs.Datum.{Datum, object, text, Text, ErrorCode}
use Rattle.spec_value.specs.Table.{Named, at, with, with_name}
use Rattle.spec_value.proofs.Entries.{first_holds, second_holds, both_hold}
use Rattle.spec_program.specs.Trees.{program_fits}
use Rattle.spec_world.specs.World.{World, Object, Slot, Verb, Task, object_at, with_object}
use Rattle.spec_world.specs.WellFormed.{is_variable}
use Rattle.spec_world.specs.Inherit.{ancestors, slot_at, put_slot, with_slot}
use Rattle.spec_world.specs.Permissions as act
use Rattle.spec_world.specs.Permissions.{may}
use Rattle.spec_moo.specs.Properties.{BuiltInProperty, own_name, own_owner, programmer_flag, wizard_flag, r_bit, w_bit, f_bit, built_in, writing, with_built_in, Written, wrote, refused, write_built_in, write_slot, write_valid, write_object, write}
use Rattle.spec_world.specs.VerbsSought.{Sought, first_passing, own_first, found_or, first_on, find_verb}
use Rattle.spec_holding.proofs.HeldValues.{same_some}
use Rattle.spec_holding.specs.UnderWay.{EntriesFit, are_programmed, TasksHold, WorldHolds}

-- ---- tables

-- a test of an entry that its key does not spoil
put_keeps : {K X : Type 0} (R : K → K → Ordering) (P : K × X → Bool) (k : K) (x : X) (es : List (K × X)) → ((j : K) → IsTrue (P (j, x)))
    → IsTrue (list_all P es) → IsTrue (list_all P (put R k x es))
put_keeps R P k x [] one h = both_hold (P (k, x)) true (one k) refl
put_keeps R P k x (e ∷ es) one h = go (R k e.0) (put_keeps R P k x es one (second_holds (P e) _ h))
  where
    go : (r : Ordering) → IsTrue (list_all P (put R k x es)) → IsTrue (list_all P (by_order r ((k, x) ∷ e ∷ es) ((e.0, x) ∷ es) (e ∷ put R k x es)))
    go Less later = both_hold (P (k, x)) _ (one k) h
    go Equal later = both_hold (P (e.0, x)) _ (one e.0) (second_holds (P e) _ h)
    go Greater later = both_hold (P e) _ (first_holds (P e) _ h) later

-- ---- variables

pub still_variables : (vars : Named Datum) (x : Text) (v : Datum) → IsTrue (is_variable x) → IsTrue (list_all (λ e. is_variable e.0) vars)
    → IsTrue (list_all (λ e. is_variable e.0) (with_name vars x v))
still_variables [] x v one h = both_hold (is_variable x) true one refl
still_variables (e ∷ es) x v one h = go (slice_cmp nat_cmp x e.0) (still_variables es x v one (second_holds (is_variable e.0) _ h))
  where
    go : (r : Ordering) → IsTrue (list_all (λ y. is_variable y.0) (with_name es x v))
        → IsTrue (list_all (λ y. is_variable y.0) (by_order r ((x, v) ∷ e ∷ es) ((e.0, v) ∷ es) (e ∷ with_name es x v)))
    go Less later = both_hold (is_variable x) _ one h
    go Equal later = both_hold (is_variable e.0) _ (first_holds (is_variable e.0) _ h) (second_holds (is_variable e.0) _ h)
    go Greater later = both_hold (is_variable e.0) _ (first_holds (is_variable e.0) _ h) later

-- ---- tasks

pub task_put : (ts : List (ℤ × Task)) (i : ℤ) (t : Task) → EntriesFit t.entries → TasksHold ts → TasksHold (with ts i t)
task_put [] i t one h = (one, tt)
task_put (e ∷ es) i t one h = go (int_cmp i e.0) (task_put es i t one h.1)
  where
    go : (r : Ordering) → TasksHold (with es i t) → TasksHold (by_order r ((i, t) ∷ e ∷ es) ((e.0, t) ∷ es) (e ∷ with es i t))
    go Less later = (one, h)
    go Equal later = (one, h.1)
    go Greater later = (h.0, later)

-- ---- objects and their verbs

objects_there : (es : List (ℤ × Object)) (o : ℤ) (x : Object) → IsTrue (list_all (λ e. are_programmed e.1) es) → at es o ≡ Some x → IsTrue (are_programmed x)
objects_there [] o x h e = cc
objects_there (y ∷ ys) o x h e = go (is_eq (int_cmp o y.0)) e (objects_there ys o x (second_holds (are_programmed y.1) _ h))
  where
    go : (b : Bool) → cond b (Some y.1) (at ys o) ≡ Some x → (at ys o ≡ Some x → IsTrue (are_programmed x)) → IsTrue (are_programmed x)
    go true i later = subst (λ (z : Object). IsTrue (are_programmed z)) (same_some _ x i) (first_holds (are_programmed y.1) _ h)
    go false i later = later i

pub object_programmed : (w : World) (o : ℤ) (x : Object) → WorldHolds w → object_at w o ≡ Some x → IsTrue (are_programmed x)
object_programmed w o x h e = objects_there w.objects o x h.0 e

abbrev pub SoughtFits : Option Sought → Type 0
SoughtFits None = Unit {0}
SoughtFits (Some f) = IsTrue (program_fits [] (f.verb).program)

passing_fits : (o : ℤ) (test : Verb → Bool) (vs : List Verb) → IsTrue (list_all (λ v. program_fits [] v.program) vs) → SoughtFits (first_passing o test vs)
passing_fits o test [] h = tt
passing_fits o test (v ∷ vs) h = go (test v) (passing_fits o test vs (second_holds (program_fits [] v.program) _ h))
  where
    go : (b : Bool) → SoughtFits (first_passing o test vs) → SoughtFits (if b then Some (record { definer = o; verb = v }) else first_passing o test vs)
    go true later = first_holds (program_fits [] v.program) _ h
    go false later = later

pub first_fits : (w : World) (test : Verb → Bool) (os : List ℤ) → WorldHolds w → SoughtFits (first_on w test os)
unfolding first_on
first_fits w test [] h = tt
first_fits w test (o ∷ os) h = go (object_at w o) refl (first_fits w test os h)
  where
    found : (m n : Option Sought) → SoughtFits m → SoughtFits n → SoughtFits (found_or m n)
    found None n i k = k
    found (Some f) n i k = i

    go : (m : Option Object) → object_at w o ≡ m → SoughtFits (first_on w test os) → SoughtFits (found_or (own_first o test m) (first_on w test os))
    go None e later = later
    go (Some x) e later = found _ _ (passing_fits o test x.verbs (object_programmed w o x h e)) later

pub verb_fits : (w : World) (o : ℤ) (word : Text) → WorldHolds w → SoughtFits (find_verb w o word)
unfolding find_verb
verb_fits w o word h = first_fits w _ (ancestors w o) h

-- ---- properties that are written

pub object_put : (w : World) (o : ℤ) (x : Object) → IsTrue (are_programmed x) → WorldHolds w → WorldHolds (with_object w o x)
object_put w o x one h = (put_keeps int_cmp (λ e. are_programmed e.1) o x w.objects (λ j. one) h.0, h.1)

abbrev pub WrittenHolds : Written → Type 0
WrittenHolds (wrote u) = WorldHolds u
WrittenHolds (refused e) = Unit {0}

abbrev ProgrammedSome : Option Object → Type 0
ProgrammedSome None = Unit {0}
ProgrammedSome (Some x) = IsTrue (are_programmed x)

built_in_programmed : (x : Object) (b : BuiltInProperty) (v : Datum) → IsTrue (are_programmed x) → ProgrammedSome (with_built_in x b v)
built_in_programmed x own_name (text t) h = h
built_in_programmed x own_name v h = tt
built_in_programmed x own_owner (object o) h = h
built_in_programmed x own_owner v h = tt
built_in_programmed x programmer_flag v h = h
built_in_programmed x wizard_flag v h = h
built_in_programmed x r_bit v h = h
built_in_programmed x w_bit v h = h
built_in_programmed x f_bit v h = h
built_in_programmed x b v h = h

pub slot_holds : (w : World) (o : ℤ) (p : Text) (s : Slot) → WorldHolds w → WorldHolds (with_slot w o p s)
unfolding with_slot
slot_holds w o p s h = go (object_at w o) refl
  where
    go : (m : Option Object) → object_at w o ≡ m → WorldHolds (put_slot w o p s m)
    go None e = h
    go (Some x) e = object_put w o _ (object_programmed w o x h e) h

pub write_holds : (w : World) (who : ℤ) (a b v : Datum) → WorldHolds w → WrittenHolds (write w who a b v)
unfolding write
write_holds w who (object o) (text p) v h = go (object_at w o) refl
  where
    allowed_if : (b : Bool) (u : World) (e : ErrorCode) → WorldHolds u → WrittenHolds (if b then wrote u else refused e)
    allowed_if true u e k = k
    allowed_if false u e k = tt

    own : (allowed : Bool) (m : Option Object) → ProgrammedSome m → WrittenHolds (write_built_in w o allowed m)
    own allowed None k = tt
    own allowed (Some x) k = allowed_if allowed _ _ (object_put w o x k h)

    slot : (m : Option Slot) → WrittenHolds (write_slot w who o p v m)
    slot None = tt
    slot (Some s) = allowed_if (may w who (act.write_slot o p)) _ _ (slot_holds w o p _ h)

    there : (x : Object) (m : Option BuiltInProperty) → IsTrue (are_programmed x) → WrittenHolds (write_valid w who o p v x m)
    there x None k = slot (slot_at w o p)
    there x (Some b) k = own (may w who (writing o b)) (with_built_in x b v) (built_in_programmed x b v k)

    go : (m : Option Object) → object_at w o ≡ m → WrittenHolds (write_object w who o p v m)
    go None e = tt
    go (Some x) e = there x (built_in p) (object_programmed w o x h e)
write_holds w who a b v h = tt
