-- Changes of objects, properties, verbs and links keep the programs of a world, and what its waiting tasks hold.
use Rattle.std.proofs.Common.{◌≡◌, ℕ, zero, suc, ℤ, Bool, true, false, not, List, [], ◌∷◌, ◌++◌, filter, Option, Some, None, IsTrue, refl, subst, cond, is_eq, if◌then◌else◌}
use Rattle.std.specs.List.{list_all}
use Rattle.std.specs.Ordering.{int_cmp, int_eq}
use Rattle.spec_value.specs.Datum.{Text}
use Rattle.spec_value.specs.Table.{at, without}
use Rattle.spec_value.proofs.Entries.{first_holds, second_holds, both_hold}
use Rattle.spec_program.specs.Trees.{program_fits}
use Rattle.spec_world.specs.World.{World, Object, Slot, Verb, Task, object_at}
use Rattle.spec_world.specs.Naming.{location_of}
use Rattle.spec_world.specs.Families.{nowhere, change_at, change_object, changed_each, change_each, heir_of, is_below, parent_of, next_object, child_of, created, reparented, reparented_each, to_nowhere, lose_child, out_of_place, recycled_object, recycled}
use Rattle.spec_world.specs.Whereabouts.{moved}
use Rattle.spec_world.specs.Members.{property_added, property_deleted, without_verb, with_verb, verb_added, verb_deleted, verb_changed}
use Rattle.spec_world.specs.Links.{close_link}
use Rattle.spec_holding.specs.UnderWay.{EntriesFit, are_programmed, TasksHold, WorldHolds}
use Rattle.spec_holding.proofs.HeldValues.{same_some}
use Rattle.spec_holding.proofs.WorldsHold.{object_programmed, object_put}

-- ---- objects

pub change_holds : (w : World) (o : ℤ) (f : Object → Object) → ((x : Object) → IsTrue (are_programmed x) → IsTrue (are_programmed (f x))) → WorldHolds w
    → WorldHolds (change_object w o f)
change_holds w o f one h = go (object_at w o) refl
  where
    go : (m : Option Object) → object_at w o ≡ m → WorldHolds (change_at w o f m)
    go None e = h
    go (Some x) e = object_put w o (f x) (one x (object_programmed w o x h e)) h

each_programmed : (f : ℤ → Object → Object) → ((d : ℤ) (x : Object) → IsTrue (are_programmed x) → IsTrue (are_programmed (f d x))) → (es : List (ℤ × Object))
    → IsTrue (list_all (λ e. are_programmed e.1) es) → IsTrue (list_all (λ e. are_programmed e.1) (changed_each f es))
each_programmed f one [] h = refl
each_programmed f one (e ∷ es) h =
    both_hold (are_programmed (f e.0 e.1)) _ (one e.0 e.1 (first_holds (are_programmed e.1) _ h)) (each_programmed f one es (second_holds (are_programmed e.1) _ h))

each_holds : (w : World) (f : ℤ → Object → Object) → ((d : ℤ) (x : Object) → IsTrue (are_programmed x) → IsTrue (are_programmed (f d x))) → WorldHolds w
    → WorldHolds (change_each w f)
each_holds w f one h = (each_programmed f one w.objects h.0, h.1)

programmed_if : (b : Bool) (x y : Object) → IsTrue (are_programmed x) → IsTrue (are_programmed y) → IsTrue (are_programmed (if b then x else y))
programmed_if true x y h k = h
programmed_if false x y h k = k

filter_holds : {X : Type 0} (p q : X → Bool) (xs : List X) → IsTrue (list_all p xs) → IsTrue (list_all p (filter q xs))
filter_holds p q [] h = refl
filter_holds p q (x ∷ xs) h = go (q x) (filter_holds p q xs (second_holds (p x) _ h))
  where
    go : (b : Bool) → IsTrue (list_all p (filter q xs)) → IsTrue (list_all p (if b then x ∷ filter q xs else filter q xs))
    go true later = both_hold (p x) _ (first_holds (p x) _ h) later
    go false later = later

pub tasks_left : (q : ℤ × Task → Bool) (ts : List (ℤ × Task)) → TasksHold ts → TasksHold (filter q ts)
tasks_left q [] h = tt
tasks_left q (t ∷ ts) h = go (q t) (tasks_left q ts h.1)
  where
    go : (b : Bool) → TasksHold (filter q ts) → TasksHold (if b then t ∷ filter q ts else filter q ts)
    go true later = (h.0, later)
    go false later = later

pub entries_there : (ts : List (ℤ × Task)) (i : ℤ) (t : Task) → TasksHold ts → at ts i ≡ Some t → EntriesFit t.entries
entries_there [] i t h e = cc
entries_there (u ∷ us) i t h e = go (is_eq (int_cmp i u.0)) e (entries_there us i t h.1)
  where
    go : (b : Bool) → cond b (Some u.1) (at us i) ≡ Some t → (at us i ≡ Some t → EntriesFit t.entries) → EntriesFit t.entries
    go true k later = subst (λ (x : Task). EntriesFit x.entries) (same_some _ t k) h.0
    go false k later = later k

-- ---- families

pub created_holds : (w : World) (parent owner : ℤ) → WorldHolds w → WorldHolds (created w parent owner)
unfolding created
created_holds w parent owner h =
    change_holds _ parent _ (λ x k. k) (object_put (record w { greatest = next_object w }) (next_object w) (child_of w parent owner) refl h)

pub reparented_holds : (w : World) (o parent : ℤ) → WorldHolds w → WorldHolds (reparented w o parent)
unfolding reparented
reparented_holds w o parent h =
    change_holds _ parent _ (λ x k. k) (change_holds _ o _ (λ x k. k) (change_holds _ (parent_of (object_at w o)) _ (λ x k. k)
    (each_holds w (λ d x. if is_below w o d then heir_of w o parent d x else x) (λ d x k. programmed_if (is_below w o d) _ _ k k) h)))

each_reparented : (w : World) (cs : List ℤ) (parent : ℤ) → WorldHolds w → WorldHolds (reparented_each w cs parent)
each_reparented w [] parent h = h
each_reparented w (c ∷ cs) parent h = each_reparented (reparented w c parent) cs parent (reparented_holds w c parent h)

all_to_nowhere : (w : World) (cs : List ℤ) → WorldHolds w → WorldHolds (to_nowhere w cs)
all_to_nowhere w [] h = h
all_to_nowhere w (c ∷ cs) h =
    all_to_nowhere (change_object w c (λ x. record x { header = record (x.header) { location = nowhere } })) cs (change_holds w c _ (λ x k. k) h)

-- all that an object stood in is without it
let_go : (w : World) (o : ℤ) (x : Object) → WorldHolds w
    → WorldHolds (out_of_place (lose_child (to_nowhere (reparented_each w x.children x.header.parent) x.contents) x.header.parent o) x.header.location o)
let_go w o x h =
    change_holds (lose_child (to_nowhere (reparented_each w x.children x.header.parent) x.contents) x.header.parent o) x.header.location _ (λ y k. k)
    (change_holds (to_nowhere (reparented_each w x.children x.header.parent) x.contents) x.header.parent _ (λ y k. k)
    (all_to_nowhere (reparented_each w x.children x.header.parent) x.contents (each_reparented w x.children x.header.parent h)))

object_left : (w : World) (o : ℤ) → WorldHolds w → WorldHolds (record w { objects = without w.objects o })
object_left w o h = (filter_holds (λ (e : ℤ × Object). are_programmed e.1) (λ (e : ℤ × Object). not (int_eq o e.0)) w.objects h.0, h.1)

pub recycled_holds : (w : World) (o : ℤ) → WorldHolds w → WorldHolds (recycled w o)
unfolding recycled
recycled_holds w o h = go (object_at w o)
  where
    go : (m : Option Object) → WorldHolds (recycled_object w o m)
    go None = h
    go (Some x) = object_left (out_of_place (lose_child (to_nowhere (reparented_each w x.children x.header.parent) x.contents) x.header.parent o) x.header.location o) o (let_go w o x h)

pub moved_holds : (w : World) (what there : ℤ) → WorldHolds w → WorldHolds (moved w what there)
unfolding moved
moved_holds w what there h =
    change_holds _ there _ (λ x k. k) (change_holds _ what _ (λ x k. k) (change_holds w (location_of (object_at w what)) _ (λ x k. k) h))

-- ---- properties and verbs

pub property_added_holds : (w : World) (o : ℤ) (p : Text) (s : Slot) → WorldHolds w → WorldHolds (property_added w o p s)
unfolding property_added
property_added_holds w o p s h = each_holds w _ (λ d x k. programmed_if (int_eq d o) _ _ k (programmed_if (is_below w o d) _ _ k k)) h

pub property_deleted_holds : (w : World) (o : ℤ) (p : Text) → WorldHolds w → WorldHolds (property_deleted w o p)
unfolding property_deleted
property_deleted_holds w o p h = each_holds w _ (λ d x k. programmed_if (int_eq d o) _ _ k (programmed_if (is_below w o d) _ _ k k)) h

abbrev Programmed : List Verb → Type 0
Programmed vs = IsTrue (list_all (λ v. program_fits [] v.program) vs)

one_verb_more : (vs : List Verb) (v : Verb) → Programmed vs → IsTrue (program_fits [] v.program) → Programmed (vs ++ v ∷ [])
one_verb_more [] v h k = both_hold (program_fits [] v.program) true k refl
one_verb_more (u ∷ us) v h k =
    both_hold (program_fits [] u.program) _ (first_holds (program_fits [] u.program) _ h) (one_verb_more us v (second_holds (program_fits [] u.program) _ h) k)

one_verb_less : (vs : List Verb) (n : ℕ) → Programmed vs → Programmed (without_verb vs n)
one_verb_less [] n h = h
one_verb_less (u ∷ us) zero h = second_holds (program_fits [] u.program) _ h
one_verb_less (u ∷ us) (suc n) h =
    both_hold (program_fits [] u.program) _ (first_holds (program_fits [] u.program) _ h) (one_verb_less us n (second_holds (program_fits [] u.program) _ h))

another_verb : (vs : List Verb) (n : ℕ) (f : Verb → Verb) → ((v : Verb) → IsTrue (program_fits [] v.program) → IsTrue (program_fits [] (f v).program)) → Programmed vs
    → Programmed (with_verb vs n f)
another_verb [] n f one h = h
another_verb (u ∷ us) zero f one h =
    both_hold (program_fits [] (f u).program) _ (one u (first_holds (program_fits [] u.program) _ h)) (second_holds (program_fits [] u.program) _ h)
another_verb (u ∷ us) (suc n) f one h =
    both_hold (program_fits [] u.program) _ (first_holds (program_fits [] u.program) _ h) (another_verb us n f one (second_holds (program_fits [] u.program) _ h))

pub verb_added_holds : (w : World) (o : ℤ) (v : Verb) → IsTrue (program_fits [] v.program) → WorldHolds w → WorldHolds (verb_added w o v)
unfolding verb_added
verb_added_holds w o v fits h = change_holds w o _ (λ x k. one_verb_more x.verbs v k fits) h

pub verb_deleted_holds : (w : World) (o : ℤ) (n : ℕ) → WorldHolds w → WorldHolds (verb_deleted w o n)
unfolding verb_deleted
verb_deleted_holds w o n h = change_holds w o _ (λ x k. one_verb_less x.verbs n k) h

pub verb_changed_holds : (w : World) (o : ℤ) (n : ℕ) (f : Verb → Verb)
    → ((v : Verb) → IsTrue (program_fits [] v.program) → IsTrue (program_fits [] (f v).program)) → WorldHolds w → WorldHolds (verb_changed w o n f)
unfolding verb_changed
verb_changed_holds w o n f one h = change_holds w o _ (λ x k. another_verb x.verbs n f one k) h

-- ---- links

pub link_closed_holds : (w : World) (c : ℤ) → WorldHolds w → WorldHolds (close_link w c)
unfolding close_link
link_closed_holds w c h = (h.0, tasks_left _ w.tasks h.1)
