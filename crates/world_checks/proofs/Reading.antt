-- The connections on which tasks read, and all that is asked of tasks.
use Rattle.std.proofs.Common.{◌≡◌, ◌∙◌, ap, refl, sym, subst, ℕ, suc, ◌≤◌, ℤ, pos, negsuc, List, [], ◌∷◌, ◌++◌, map, Option, Some, None, IsTrue, is_some, All, leb-true, arith}
use Rattle.std.proofs.lemmas.Bool.{lt-ltb}
use Rattle.std.specs.List.{list_all}
use Rattle.std.specs.Prelude.{slice_get, int_le}
use Rattle.spec_value.proofs.Entries.{first_holds, second_holds, both_hold}
use Rattle.std.specs.Option.{option_and_then}
use Rattle.std.specs.Ordering.{int_cmp}
use Rattle.std.specs.List.Sorted.{IsStrictlySortedBy}
use Rattle.spec_value.specs.Table.{Numbered, at, is_numbered}
use Rattle.spec_world.specs.World.{World, Link, Waiting, forked, timed, idle, reading_on, Task}
use Rattle.spec_world.specs.WellFormed.{once, is_connection, waiting_fits, wait_fits, read_by, links_read}
use Rattle.spec_world.specs.Agreeing.{LinksAgree}
use Rattle.world_checks.specs.Marks.{may_mark}
use Rattle.spec_world.specs.Listings.{waiting_ids}
use Rattle.moo_task.specs.Waits.{read_on}
use Rattle.world_checks.proofs.Numbered.{numbered_from, numbers_rise, of_each, found_there}
use Rattle.world_checks.specs.DraftChecksTasks.{before, all_read, TaskFits, TaskFitsAt, TasksAreSound}

one_read : (why : Waiting) (cs : List ℤ) → before (read_on why) cs ≡ read_by why ++ cs
one_read (forked m) cs = refl
one_read (timed m v) cs = refl
one_read idle cs = refl
one_read (reading_on c) cs = refl

read_so : (w : World) (es : Numbered Task) → ((n : ℕ) (e : ℤ × Task) → slice_get es n ≡ Some e → at w.tasks e.0 ≡ Some e.1)
    → all_read w (map (λ e. e.0) es) ≡ links_read es
unfolding links_read
read_so w [] found = refl
read_so w (e ∷ es) found =
    ap (λ (o : Option Task). before (option_and_then (λ t. read_on t.waiting) o) (all_read w (map (λ e. e.0) es))) (found 0 e refl)
    ∙ one_read (e.1).waiting (all_read w (map (λ e. e.0) es))
    ∙ ap (λ cs. read_by (e.1).waiting ++ cs) (read_so w es (λ n f is. found (suc n) f is))

pub tasks_sound : (w : World) (ids cs : List ℤ) → ids ≡ waiting_ids w → IsStrictlySortedBy int_cmp ids → All (TaskFitsAt w) ids → cs ≡ all_read w ids → IsTrue (once cs)
    → TasksAreSound w
tasks_sound w ids cs are rises fit read once_each =
    let order : IsTrue (is_numbered w.tasks) = numbered_from w.tasks (subst (IsStrictlySortedBy int_cmp) are rises) in
    let each : (i : ℤ) (t : Task) → at w.tasks i ≡ Some t → TaskFits w i t = λ i t is. of_each (TaskFitsAt w) w.tasks (subst (All (TaskFitsAt w)) are fit) i t is t is in
    let reads : cs ≡ links_read w.tasks = read ∙ ap (all_read w) are ∙ read_so w w.tasks (λ n e is. found_there w.tasks n e order is) in
    record {
      tasks_in_order = order;
      task_ids = λ i t is. (each i t is).id;
      task_entries = λ i t is. (each i t is).entries;
      task_waits = λ i t is. (each i t is).wait;
      task_places = λ i t is. (each i t is).places;
      readers = subst (λ ds. IsTrue (once ds)) reads once_each;
    }

-- ---- and the other way round

pub ids_rise : (w : World) (ids : List ℤ) → TasksAreSound w → ids ≡ waiting_ids w → IsStrictlySortedBy int_cmp ids
ids_rise w ids tasks are = subst (IsStrictlySortedBy int_cmp) (sym are) (numbers_rise w.tasks tasks.tasks_in_order)

pub each_fits : (w : World) → TasksAreSound w → (i : ℤ) → TaskFitsAt w i
each_fits w tasks i t is = record { id = tasks.task_ids i t is; entries = tasks.task_entries i t is; wait = tasks.task_waits i t is; places = tasks.task_places i t is }

marked_connection : (c : ℤ) → IsTrue (is_connection c) → IsTrue (may_mark c)
marked_connection (pos c) h = let most : c ≤ 999999 = leb-true c 999999 (second_holds (int_le (pos 1) (pos c)) _ h) in lt-ltb c 1048576 (omega (arith, most))
marked_connection (negsuc c) h = absurd (cc (first_holds (int_le (pos 1) (negsuc c)) (int_le (negsuc c) (pos 999999)) h))

module _ (w : World) (links : LinksAgree w) where
  marked_link : (c : ℤ) → IsTrue (is_some (at w.links c)) → IsTrue (may_mark c)
  marked_link c h = go (at w.links c) refl h
    where
      go : (o : Option Link) → at w.links c ≡ o → IsTrue (is_some o) → IsTrue (may_mark c)
      go None e h = cc
      go (Some k) e h = marked_connection c (first_holds (is_connection c) _ (links.links c k e))

  marked_by : (t : Task) (why : Waiting) (cs : List ℤ) → IsTrue (waiting_fits w t why) → IsTrue (list_all may_mark cs) → IsTrue (list_all may_mark (read_by why ++ cs))
  marked_by t (forked m) cs h all = all
  marked_by t (timed m v) cs h all = all
  marked_by t idle cs h all = all
  marked_by t (reading_on c) cs h all = both_hold (may_mark c) _ (marked_link c h) all

  marked_readers : (es : Numbered Task) → ((n : ℕ) (e : ℤ × Task) → slice_get es n ≡ Some e → IsTrue (wait_fits w e.0 e.1)) → IsTrue (list_all may_mark (links_read es))
  unfolding links_read
  marked_readers [] h = refl
  marked_readers (e ∷ es) h = marked_by e.1 (e.1).waiting (links_read es) (h 0 e refl) (marked_readers es (λ n d is. h (suc n) d is))

  -- the connections on which tasks read stand once, and can be marked
  pub readers_once : TasksAreSound w → (ids cs : List ℤ) → ids ≡ waiting_ids w → cs ≡ all_read w ids → IsTrue (once cs) × IsTrue (list_all may_mark cs)
  readers_once tasks ids cs are read =
      let reads : cs ≡ links_read w.tasks = read ∙ ap (all_read w) are ∙ read_so w w.tasks (λ n e is. found_there w.tasks n e tasks.tasks_in_order is) in
      let marked : IsTrue (list_all may_mark (links_read w.tasks)) =
      marked_readers w.tasks (λ n e is. tasks.task_waits e.0 e.1 (found_there w.tasks n e tasks.tasks_in_order is)) in (
        subst (λ (ds : List ℤ). IsTrue (once ds)) (sym reads) tasks.readers,
        subst (λ (ds : List ℤ). IsTrue (list_all may_mark ds)) (sym reads) marked,
      )
