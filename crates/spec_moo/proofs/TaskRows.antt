-- Built-in functions over tasks, links and the server keep what a world's objects, links and tasks agree on.
use Rattle.spec_moo.proofs.NativeWorlds.{in_agreeing, tested, there, of_choice, SomeKeeps, group_keeps, closed_scene}
use Rattle.std.proofs.Common.{◌≡◌, ℕ, zero, suc, ◌≤◌, ◌+◌, ◌-◌, ◌*◌, ℤ, pos, negsuc, Bool, true, false, not, ◌&&◌, List, [], ◌∷◌, Option, Some, None, refl, sym, ap, ◌∙◌, subst, arith, IsTrue, is_some, is_none, if◌then◌else◌, le-leb, leb-true}
use Rattle.std.specs.Prelude.{min, int_le}
use Rattle.std.specs.Ordering.{int_eq}
use Rattle.spec_value.specs.Datum.{Datum, integer, object, text, Text, invalid_argument, limit_exceeded}
use Rattle.spec_value.specs.Table.{at, with, without}
use Rattle.spec_world.specs.World.{Task, Waiting, forked, timed, idle, reading_on}
use Rattle.spec_world.specs.Permissions.{act_as, control_task, administer, may}
use Rattle.spec_world.specs.WellFormed.{is_moment, TaskStands, FramesStand}
use Rattle.spec_world.specs.Links.{connection_of, reader_of}
use Rattle.spec_value.proofs.Entries.{both_hold}
use Rattle.spec_world.proofs.WorldsKept.{task_put, tasks_left, ending_set, connection_open}
use Rattle.spec_moo.specs.Scene.{Scene, has_ids, next_id, id_taken, named_or_next, with_own_id, moment_after}
use Rattle.spec_moo.specs.Linking.{has_lines, line_told}
use Rattle.spec_moo.specs.NativeEffect.{Caller, NativeEffect, waits}
use Rattle.spec_moo.specs.Natives.Rows.{is_valid, answers_with, zero_value}
use Rattle.spec_moo.specs.Natives.Tasks.{notify_row, waits_with_id, reads_on, read_row, suspend_row, task_programmer, is_suspended, resumes, resume_row, is_own_id, kills, kill_task_row, task_id_row, raise_row, set_task_perms_row, random_up_to, random_row, boot_player_row, dump_database_row, shutdown_row, task_rows, tasks}
use Rattle.spec_moo.specs.Worlds.{IdFits, SceneAgrees, NativeKeeps}

-- the world's next number stays this one
module _ (fixed : ℕ) where
  -- ---- ids

  pub id_in_range : (s : Scene) → SceneAgrees fixed s → has_ids s ≡ true
      → IsTrue (int_le (pos 1) (next_id s) && int_le (next_id s) (pos ((s.world.next - 1) * 64)))
  id_in_range s h has =
      let few : suc s.ids_used ≤ 64 = leb-true (suc s.ids_used) 64 has in
      let one = h.number in let before = h.before in
      both_hold (int_le (pos 1) (next_id s)) _ (le-leb 1 ((s.number - 1) * 64 + suc s.ids_used) (omega arith))
      (le-leb ((s.number - 1) * 64 + suc s.ids_used) ((s.world.next - 1) * 64) (omega arith))

  pub taken : (s : Scene) (own : Option ℤ) → SceneAgrees fixed s → has_ids s ≡ true → IdFits s.world own
      → SceneAgrees fixed (record (id_taken s) { task = own })
  taken s own h has fits =
      let few : suc s.ids_used ≤ 64 = leb-true (suc s.ids_used) 64 has in
      record {
        world = h.world;
        number = h.number;
        before = h.before;
        moment = h.moment;
        ids = few;
        own = fits;
        next = h.next;
      }

  own_id : (s : Scene) (r : ℤ × Scene) → with_own_id s ≡ Some r → SceneAgrees fixed s → SceneAgrees fixed r.1 × (r.1.world ≡ s.world)
  own_id s r e h = go s.task refl e
    where
      some : (a b : ℤ × Scene) → Some a ≡ Some b → a ≡ b
      some a b k = ap (λ o. or a o) k
        where
          or : ℤ × Scene → Option (ℤ × Scene) → ℤ × Scene
          or d None = d
          or d (Some x) = x

      go : (own : Option ℤ) → s.task ≡ own → named_or_next s own ≡ Some r → SceneAgrees fixed r.1 × (r.1.world ≡ s.world)
      go (Some i) k is = let same : (i, s) ≡ r = some (i, s) r is in (subst (λ (x : ℤ × Scene). SceneAgrees fixed x.1) same h, ap (λ (x : ℤ × Scene). x.1.world) (sym same))
      go None k is = by (has_ids s) refl is
        where
          next : ℤ × Scene
          next = (next_id s, record (id_taken s) { task = Some (next_id s) })

          by : (b : Bool) → has_ids s ≡ b → (if b then Some (next_id s, record (id_taken s) { task = Some (next_id s) }) else None) ≡ Some r
              → SceneAgrees fixed r.1 × (r.1.world ≡ s.world)
          by true has m =
              let same : next ≡ r = some next r m in
              (subst (λ (x : ℤ × Scene). SceneAgrees fixed x.1) same (taken s (Some (next_id s)) h has (id_in_range s h has)), ap (λ (x : ℤ × Scene). x.1.world) (sym same))
          by false has m = cc

  waits_keep : (s : Scene) (f : ℤ × Scene → NativeEffect) → SceneAgrees fixed s
      → ((r : ℤ × Scene) → SceneAgrees fixed r.1 → r.1.world ≡ s.world → NativeKeeps fixed (f r)) → NativeKeeps fixed (waits_with_id s f)
  waits_keep s f h more = there fixed s limit_exceeded (with_own_id s) f h (λ r e. let k = own_id s r e h in more r k.0 k.1)

  pub later_moment : (s : Scene) (n : ℕ) → IsTrue (is_moment (moment_after s n))
  later_moment s n = le-leb (min (s.moment + n) 2147483647) 2147483647 (omega arith)

  -- ---- `notify`, `read`, `suspend`

  told_keeps : (s : Scene) (t : Text) (m : Option ℤ) → SceneAgrees fixed s → SceneAgrees fixed (line_told s t m)
  told_keeps s t None h = h
  told_keeps s t (Some c) h = record { world = h.world; number = h.number; before = h.before; moment = h.moment; ids = h.ids; own = h.own; next = h.next }

  notify_keeps : (s : Scene) (c : Caller) (args : List Datum) → SceneAgrees fixed s → NativeKeeps fixed (notify_row s c args)
  notify_keeps s c (object o ∷ text t ∷ []) h =
      tested fixed (may s.world c.call.programmer (act_as o)) _ _ h (λ k1. tested fixed (has_lines s (connection_of s.world o)) _ _ h (λ k2. told_keeps s t (connection_of s.world o) h))
  notify_keeps s c _ h = h

  read_keeps : (s : Scene) (c : Caller) (args : List Datum) → SceneAgrees fixed s → NativeKeeps fixed (read_row s c args)
  read_keeps s c args h =
      tested fixed (may s.world c.call.programmer (act_as c.player)) _ _ h (λ k1. there fixed s invalid_argument (connection_of s.world c.player) (reads_on s) h (λ k e.
      tested fixed (is_none (reader_of s.world k)) _ _ h (λ d.
      waits_keep s (λ r. waits r.1 (reading_on k)) h (λ r g same.
      (g, (subst (λ w. IsTrue (is_some (at w.links k))) (sym same) (connection_open s.world.links k c.player e), ap (λ w. reader_of w k) same ∙ none (reader_of s.world k) d))))))
    where
      none : (m : Option ℤ) → is_none m ≡ true → m ≡ None
      none None k = refl
      none (Some z) k = cc

  suspend_keeps : (s : Scene) (c : Caller) (args : List Datum) → SceneAgrees fixed s → NativeKeeps fixed (suspend_row s c args)
  suspend_keeps s c [] h = waits_keep s (λ r. waits r.1 idle) h (λ r g same. (g, tt))
  suspend_keeps s c (integer (pos n) ∷ []) h = waits_keep s (λ r. waits r.1 (timed (moment_after s n) zero_value)) h (λ r g same. (g, later_moment s n))
  suspend_keeps s c (integer (negsuc n) ∷ []) h = h
  suspend_keeps s c _ h = h

  -- ---- `resume` and `kill_task`

  resumes_keep : (s : Scene) (c : Caller) (i : ℤ) (v : Datum) → SceneAgrees fixed s → NativeKeeps fixed (resumes s c i v)
  resumes_keep s c i v h =
      there fixed s invalid_argument (at s.world.tasks i) _ h (λ t e.
      tested fixed (may s.world c.call.programmer (control_task (task_programmer t))) _ _ h (λ k1.
      tested fixed (is_suspended t.waiting) _ _ h (λ k2.
      in_agreeing fixed s (record (s.world) { tasks = with s.world.tasks i (record t { waiting = timed s.moment v }) }) h
      (task_put s.world i (record t { waiting = timed s.moment v }) h.world (h.world.queue.task_ids i t e) h.moment (stands t t.waiting k2 (h.world.queue.task_places i t e)) (h.world.queue.task_entries i t e) (λ d l. cc))
      refl)))
    where
      stands : (t : Task) (why : Waiting) → is_suspended why ≡ true → TaskStands t why → FramesStand t.entries
      stands t (timed m u) k f = f
      stands t idle k f = f
      stands t (forked m) k f = cc
      stands t (reading_on d) k f = cc

  resume_keeps : (s : Scene) (c : Caller) (args : List Datum) → SceneAgrees fixed s → NativeKeeps fixed (resume_row s c args)
  resume_keeps s c (integer i ∷ []) h = resumes_keep s c i zero_value h
  resume_keeps s c (integer i ∷ v ∷ []) h = resumes_keep s c i v h
  resume_keeps s c _ h = h

  kills_keep : (s : Scene) (c : Caller) (i : ℤ) → SceneAgrees fixed s → NativeKeeps fixed (kills s c i)
  kills_keep s c i h =
      there fixed s invalid_argument (at s.world.tasks i) _ h (λ t e.
      tested fixed (may s.world c.call.programmer (control_task (task_programmer t))) _ _ h (λ k.
      in_agreeing fixed s (record (s.world) { tasks = without s.world.tasks i }) h (tasks_left s.world (λ (m : ℤ × Task). not (int_eq i m.0)) h.world) refl))

  kill_task_keeps : (s : Scene) (c : Caller) (args : List Datum) → SceneAgrees fixed s → NativeKeeps fixed (kill_task_row s c args)
  kill_task_keeps s c (integer i ∷ []) h = of_choice fixed (is_own_id i s.task) _ _ (λ e. h) (λ e. kills_keep s c i h)
  kill_task_keeps s c _ h = h

  -- ---- what a task knows of itself, and the rest

  task_id_keeps : (s : Scene) (c : Caller) (args : List Datum) → SceneAgrees fixed s → NativeKeeps fixed (task_id_row s c args)
  task_id_keeps s c args h = waits_keep s (λ r. answers_with r.1 (integer r.0)) h (λ r g same. g)

  raise_keeps : (s : Scene) (c : Caller) (args : List Datum) → SceneAgrees fixed s → NativeKeeps fixed (raise_row s c args)
  raise_keeps s c (v ∷ []) h = h
  raise_keeps s c (v ∷ text m ∷ []) h = h
  raise_keeps s c (v ∷ text m ∷ x ∷ []) h = h
  raise_keeps s c _ h = h

  perms_keep : (s : Scene) (c : Caller) (args : List Datum) → SceneAgrees fixed s → NativeKeeps fixed (set_task_perms_row s c args)
  perms_keep s c (object o ∷ []) h = tested fixed (is_valid s o) _ _ h (λ k1. tested fixed (may s.world c.call.programmer (act_as o)) _ _ h (λ k2. h))
  perms_keep s c _ h = h

  random_up_to_keeps : (s : Scene) (n : ℕ) → SceneAgrees fixed s → NativeKeeps fixed (random_up_to s n)
  random_up_to_keeps s zero h = h
  random_up_to_keeps s (suc m) h = record { world = h.world; number = h.number; before = h.before; moment = h.moment; ids = h.ids; own = h.own; next = h.next }

  random_keeps : (s : Scene) (c : Caller) (args : List Datum) → SceneAgrees fixed s → NativeKeeps fixed (random_row s c args)
  random_keeps s c [] h = random_up_to_keeps s 2147483647 h
  random_keeps s c (integer (pos m) ∷ []) h = random_up_to_keeps s m h
  random_keeps s c (integer (negsuc m) ∷ []) h = random_up_to_keeps s 0 h
  random_keeps s c _ h = h

  boot_keeps : (s : Scene) (c : Caller) (args : List Datum) → SceneAgrees fixed s → NativeKeeps fixed (boot_player_row s c args)
  boot_keeps s c (object o ∷ []) h = tested fixed (is_valid s o) _ _ h (λ k1. tested fixed (may s.world c.call.programmer (act_as o)) _ _ h (λ k2. closed_scene fixed s o h))
  boot_keeps s c _ h = h

  dump_keeps : (s : Scene) (c : Caller) (args : List Datum) → SceneAgrees fixed s → NativeKeeps fixed (dump_database_row s c args)
  dump_keeps s c args h =
      tested fixed (may s.world c.call.programmer administer) _ _ h (λ k. record { world = h.world; number = h.number; before = h.before; moment = h.moment; ids = h.ids; own = h.own; next = h.next })

  shutdown_keeps : (s : Scene) (c : Caller) (args : List Datum) → SceneAgrees fixed s → NativeKeeps fixed (shutdown_row s c args)
  shutdown_keeps s c args h = tested fixed (may s.world c.call.programmer administer) _ _ h (λ k. in_agreeing fixed s (record (s.world) { ending = true }) h (ending_set s.world true h.world) refl)

  -- ---- the group

  pub tasks_group : (s : Scene) (c : Caller) (name : Text) (args : List Datum) → SceneAgrees fixed s → SomeKeeps fixed (tasks s c name args)
  tasks_group =
      group_keeps fixed task_rows
      (notify_keeps, (read_keeps, (suspend_keeps, (resume_keeps, (kill_task_keeps, ((λ s c args h. h), (task_id_keeps, ((λ s c args h. h), (raise_keeps, (perms_keep, ((λ s c args h. h), (random_keeps, ((λ s c args h. h), ((λ s c args h. h), (boot_keeps, (dump_keeps, (shutdown_keeps, tt)))))))))))))))))
