-- What a world within its bounds keeps nests no deeper than its readers read.
use Rattle.std.proofs.Common.{ℕ, suc, max, ◌-◌, ◌≤◌, nat_le, Bool, true, ◌&&◌, List, [], ◌∷◌, Option, Some, None, IsTrue, refl, arith, le-leb, leb-true}
use Rattle.std.specs.List.{list_all}
use Rattle.spec_value.specs.Datum.{Datum, integer, object, text, error, list, Data, no_data, item, of_list}
use Rattle.spec_value.specs.Answer.{weight_limit}
use Rattle.spec_value.proofs.Entries.{first_holds, second_holds, both_hold}
use Rattle.spec_world.specs.World.{World, Object, PrepositionPart, no_preposition, any_preposition, preposition_set, Verb, Entry, frame_entry, native_entry, Waiting, forked, timed, idle, reading_on, Task}
use Rattle.spec_world.specs.Checkpoint.{values_held}
use Rattle.spec_fixture.specs.Fixture.{fixture}
use Rattle.spec_moo.specs.Steps.{play}
use Rattle.spec_holding.proofs.WholeWorlds.{stays_whole}
use Rattle.spec_checkpoint.specs.Holding.{is_number}
use Rattle.spec_values_kept.specs.Values.{nests_within, items_nest_within}
use Rattle.spec_values_kept.specs.Nodes.{program_nodes}
use Rattle.spec_values_kept.specs.Whole.{is_preposition, verb_within, content_within, object_within, task_within, link_within, is_within, content_nests, entry_nests, waiting_nests, world_nests}
use Rattle.spec_values_kept.specs.Whole as nesting
use Rattle.spec_values_kept.proofs.WholeWorlds.{stays_of_values, fixture_within}
use Rattle.spec_values_kept.proofs.WorldsNest.{stays_nesting}
use Rattle.moo_value.specs.Depth.{depth, data_depth}
use Rattle.line_fields.specs.Values.{nests_no_deeper}
use Rattle.object_lines.specs.Readable.{is_content_read, is_preposition_read, is_object_in_reach}
use Rattle.task_lines.specs.Tasks.{entry_nests as entry_is_read, waiting_nests as wait_is_read, task_nests}
use Rattle.checkpoint.specs.Readable.{is_in_reach, IsReadable}
use Rattle.checkpoint.proofs.FixtureReads.{fixture_reads}
use Rattle.readable_worlds.specs.Staying.{StaysReadable, FixtureStays}

mutual
  as_deep : (n : ℕ) (v : Datum) → IsTrue (nests_within n v) → depth v ≤ n
  as_deep n (integer z) h = omega arith
  as_deep n (object z) h = omega arith
  as_deep n (text t) h = omega arith
  as_deep n (error e) h = omega arith
  as_deep n (list xs) h =
      let l : 1 ≤ n = leb-true 1 n (first_holds (nat_le 1 n) (items_nest_within (n - 1) xs) h) in
      let m : data_depth xs ≤ n - 1 = items_as_deep (n - 1) xs (second_holds (nat_le 1 n) (items_nest_within (n - 1) xs) h) in omega (arith, l, m)

  items_as_deep : (n : ℕ) (xs : Data) → IsTrue (items_nest_within n xs) → data_depth xs ≤ n
  items_as_deep n no_data h = omega arith
  items_as_deep n (item x xs) h =
      let l : depth x ≤ n = as_deep n x (first_holds (nests_within n x) (items_nest_within n xs) h) in
      let m : data_depth xs ≤ n = items_as_deep n xs (second_holds (nests_within n x) (items_nest_within n xs) h) in omega (arith, l, m)

-- a list deeper than a value that is kept is read
read_so : (v : Datum) → IsTrue (nests_within (suc weight_limit) v) → IsTrue (nests_no_deeper v)
read_so v h = let l : depth v ≤ 65537 = as_deep (suc weight_limit) v h in le-leb (depth v) 100000 (omega (arith, l))

module _ {X : Type 0} (p q : X → Bool) (one : (x : X) → IsTrue (p x) → IsTrue (q x)) where
  all_so : (xs : List X) → IsTrue (list_all p xs) → IsTrue (list_all q xs)
  all_so [] h = refl
  all_so (x ∷ xs) h = both_hold (q x) (list_all q xs) (one x (first_holds (p x) _ h)) (all_so xs (second_holds (p x) _ h))

module _ {X : Type 0} (p r q : X → Bool) (one : (x : X) → IsTrue (p x) → IsTrue (r x) → IsTrue (q x)) where
  all_by_both : (xs : List X) → IsTrue (list_all p xs) → IsTrue (list_all r xs) → IsTrue (list_all q xs)
  all_by_both [] h k = refl
  all_by_both (x ∷ xs) h k =
      both_hold (q x) (list_all q xs) (one x (first_holds (p x) _ h) (first_holds (r x) _ k)) (all_by_both xs (second_holds (p x) _ h) (second_holds (r x) _ k))

-- ---- objects

content_read : (o : Option Datum) → IsTrue (content_nests (suc weight_limit) o) → IsTrue (is_content_read o)
content_read None h = refl
content_read (Some v) h = read_so v h

preposition_read : (p : PrepositionPart) → IsTrue (is_preposition p) → IsTrue (is_preposition_read p)
preposition_read no_preposition h = refl
preposition_read any_preposition h = refl
preposition_read (preposition_set n) h = h

object_read : (x : Object) → IsTrue (list_all (λ s. content_nests (suc weight_limit) (s.1).content) x.slots) → IsTrue (object_within x) → IsTrue (is_object_in_reach x)
object_read x h k =
    both_hold (list_all (λ s. is_content_read (s.1).content) x.slots) (list_all (λ v. is_preposition_read v.preposition) x.verbs)
    (all_so (λ s. content_nests (suc weight_limit) (s.1).content) (λ s. is_content_read (s.1).content) (λ s i. content_read (s.1).content i) x.slots h)
    (all_so verb_within (λ v. is_preposition_read v.preposition) (λ v i. preposition_read v.preposition (second_holds (is_number (program_nodes v.program)) (is_preposition v.preposition) i)) x.verbs
    (second_holds (list_all (λ e. content_within (e.1).content) x.slots) (list_all verb_within x.verbs) k))

-- ---- tasks

entry_read : (e : Entry) → IsTrue (entry_nests (suc weight_limit) e) → IsTrue (entry_is_read e)
entry_read (frame_entry f) h =
    both_hold (list_all (λ e. nests_no_deeper e.1) f.variables) (list_all nests_no_deeper (values_held f.pieces))
    (all_so (λ e. nests_within (suc weight_limit) e.1) (λ e. nests_no_deeper e.1) (λ e i. read_so e.1 i) f.variables (first_holds (list_all (λ e. nests_within (suc weight_limit) e.1) f.variables) _ h))
    (all_so (λ v. nests_within (suc weight_limit) v) nests_no_deeper read_so (values_held f.pieces) (second_holds (list_all (λ e. nests_within (suc weight_limit) e.1) f.variables) _ h))
entry_read (native_entry n) h = read_so (list (of_list n.arguments)) h

wait_read : (w : Waiting) → IsTrue (waiting_nests (suc weight_limit) w) → IsTrue (wait_is_read w)
wait_read (forked due) h = refl
wait_read (timed due v) h = read_so v h
wait_read idle h = refl
wait_read (reading_on c) h = refl

task_read : (t : Task) → IsTrue (nesting.task_nests (suc weight_limit) t) → IsTrue (task_nests t)
task_read t h =
    both_hold (wait_is_read t.waiting) (list_all entry_is_read t.entries) (wait_read t.waiting (first_holds (waiting_nests (suc weight_limit) t.waiting) _ h))
    (all_so (λ e. entry_nests (suc weight_limit) e) entry_is_read entry_read t.entries (second_holds (waiting_nests (suc weight_limit) t.waiting) _ h))

-- ---- worlds

in_reach : (w : World) → IsTrue (is_within w) → IsTrue (world_nests (suc weight_limit) w) → IsTrue (is_in_reach w)
in_reach w h k =
    let slots : Bool = list_all (λ e. list_all (λ s. content_nests (suc weight_limit) (s.1).content) (e.1).slots) w.objects in
    let tasks : Bool = list_all (λ e. nesting.task_nests (suc weight_limit) e.1) w.tasks in
    both_hold (list_all (λ e. is_object_in_reach e.1) w.objects) (list_all (λ e. task_nests e.1) w.tasks)
    (all_by_both (λ e. list_all (λ s. content_nests (suc weight_limit) (s.1).content) (e.1).slots) (λ e. object_within e.1) (λ e. is_object_in_reach e.1) (λ e i j. object_read e.1 i j) w.objects
    (first_holds slots tasks k) (first_holds (list_all (λ e. object_within e.1) w.objects) (list_all (λ e. task_within e.1) w.tasks && list_all (λ e. link_within e.1) w.links) h))
    (all_so (λ e. nesting.task_nests (suc weight_limit) e.1) (λ e. task_nests e.1) (λ e i. task_read e.1 i) w.tasks (second_holds slots tasks k))

pub stays_readable : StaysReadable
stays_readable w ss h k r =
    let whole = stays_whole w ss h.sound.well_formed h.sound.spelled r in
    let values = stays_of_values w ss h.sound.well_formed h.holds k r in
    let nests = stays_nesting w ss h.sound.well_formed h.holds k r in
    (record { sound = record { well_formed = whole.0; spelled = whole.1 }; holds = values.0; reach = in_reach (play w ss).0 values.1 nests.1 }, values.1)

pub fixture_stays : FixtureStays
fixture_stays ss r = (stays_readable fixture ss fixture_reads fixture_within r).0
