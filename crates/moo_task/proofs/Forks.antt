-- Forks: who is refused, and the task that is queued.
use Rattle.std.proofs.Common.{◌≡◌, ◌∙◌, ap, sym, refl, arith, cond, ℕ, suc, ◌<◌, ℤ, pos, negsuc, ◌≤ℤ◌, ◌<ℤ◌, true, false, List, [], ◌∷◌, length, Option, Some, None}
use Rattle.std.specs.Prelude.{slice_set, unsigned_abs}
use Rattle.std.proofs.lemmas.Int.{ints}
use Rattle.spec_value.specs.Datum.{Datum, integer, object, text, error, list, Text, ErrorCode, type_mismatch, invalid_argument, limit_exceeded}
use Rattle.spec_value.specs.Table.{Named}
use Rattle.spec_program.specs.Tree.{Program}
use Rattle.spec_world.specs.World.{World, Call, Task}
use Rattle.spec_moo.specs.Scene.{Scene, has_ids, next_id, moment_after, id_taken, enqueued}
use Rattle.spec_moo.specs.Pending.{Pending}
use Rattle.spec_moo.specs.Effect.{Effect, ends, sets_named, erring}
use Rattle.spec_moo.specs.Effects.Forks.{with_named, forked_task as task_forked, fork_in, fork_after}
use Rattle.moo_code.specs.Instruction.{start_fork, skipped}
use Rattle.moo_code.specs.Performing.{performed}
use Rattle.moo_code.specs.Machine.{Kept, Step, on, seen, place_for, does, out_of}
use Rattle.moo_code.specs.Names.{names_of}
use Rattle.moo_code.specs.Slots.{variables_with}
use Rattle.moo_program.specs.Meaning.{some_name_at, name_at}
use Rattle.moo_task.specs.declared.moo_machine.verb.State.{State}
use Rattle.moo_task.specs.Shown.{Around, kept, here, performs_of, fails_of}
use Rattle.moo_task.proofs.InSlots.{slot_is_given}
use Rattle.moo_task.specs.Deeds.{scene_of}
use Rattle.moo_task.specs.Frames.{kept_of}
use Rattle.moo_task.specs.Performing.{HasNames}
use Rattle.moo_task.specs.declared.deeds.Deeds.{Deeds}
use Rattle.moo_task.specs.declared.running.Running.{Running}
use Rattle.moo_task.proofs.Performing.{name_there}
use Rattle.moo_task.specs.Keeping.{forked_task}
use Rattle.moo_task.specs.Copying.{forked_kept}
use Rattle.moo_task.specs.Queueing.{with_task}
use Rattle.moo_task.specs.Forking.{IsNoInteger, in_scene, around_in, forks, fork_shown, goes_on, request_shown}
use Rattle.moo_task.specs.declared.moo_forks.fork.Fork.TheVariants.{Started}
use Rattle.moo_task.specs.declared.moo_forks.fork.Request.TheVariants.{Granted}

-- ---- the variable

pub one_named : (a : Around) (slots : List (Option Datum)) (names slot : ℕ) (v : Datum) → HasNames a names → slot < names → slot < length slots
    → with_named (some_name_at (names_of a.program) (Some slot)) v (variables_with a.program a.further slots)
    ≡ variables_with a.program a.further (slice_set slots slot (Some v))
one_named a slots names slot v h few small =
    sym (slot_is_given a slots slot (name_at (names_of a.program) slot) v (name_there a names slot h few) small)

-- ---- the seconds

module _ (s : Scene) (p : Pending) (x : Option Text) (body : Program) where
  no_integer : (v : Datum) → IsNoInteger v → fork_in s p x body v ≡ erring s type_mismatch
  no_integer (integer n) h = absurd h
  no_integer (object o) h = refl
  no_integer (text t) h = refl
  no_integer (error e) h = refl
  no_integer (list xs) h = refl

  in_past : (z : ℤ) → z <ℤ pos 0 → fork_in s p x body (integer z) ≡ erring s invalid_argument
  in_past (pos n) h = absurd (omega (arith, ints, h))
  in_past (negsuc n) h = refl

  no_id : (z : ℤ) → pos 0 ≤ℤ z → has_ids s ≡ false → fork_in s p x body (integer z) ≡ erring s limit_exceeded
  no_id (pos n) h e = ap (λ b. cond b (fork_after s p x body n) (erring s limit_exceeded)) e
  no_id (negsuc n) h e = absurd (omega (arith, ints, h))

  one_id : (z : ℤ) → pos 0 ≤ℤ z → has_ids s ≡ true → fork_in s p x body (integer z) ≡ fork_after s p x body (unsigned_abs z)
  one_id (pos n) h e = ap (λ b. cond b (fork_after s p x body n) (erring s limit_exceeded)) e
  one_id (negsuc n) h e = absurd (omega (arith, ints, h))

-- first the variable, and then on
named_first : (a : Around) (t : ℕ) (w u : Scene) (k : Kept) (to : ℕ → ℕ) (x : Option Text) (v : Datum)
    → does a.player t a.outer (out_of a.player t a.outer) w k skipped to (sets_named x v (ends u))
    ≡ on u (record k { variables = with_named x v k.variables; place = to 0 }) a.outer t
unfolding does
named_first a t w u k to None v = refl
named_first a t w u k to (Some x) v = refl

-- ---- the operand and a tick are taken

module _ (a : Around) (c : Call) (s : State) (d : Deeds) (w : World) (x : Option Text) (body : Program) (v : Datum) (below : List Datum) (u : ℕ)
    (taken : s.operands ≡ v ∷ below) (paid : s.ticks ≡ suc u) where
  abbrev after : State
  after = record s { operands = below; ticks = u }

  abbrev now : Scene
  now = here (in_scene a d w) after

  abbrev under : Pending
  under = seen a.player (kept (in_scene a d w) c s) a.outer

  abbrev does_after : Effect → Step
  does_after e = does a.player u a.outer (out_of a.player u a.outer) now (kept (in_scene a d w) c after) skipped (place_for (suc s.place) []) e

  forks_so : performs_of (in_scene a d w) c (start_fork x body) [] s ≡ does_after (fork_in now under x body v)
  unfolding performed
  forks_so = rw (taken, paid) refl

  refused : (e : ErrorCode) → fork_in now under x body v ≡ erring now e
      → performs_of (in_scene a d w) c (start_fork x body) [] s ≡ fails_of (in_scene a d w) c skipped (suc s.place) e after
  unfolding does
  refused e h = forks_so ∙ ap does_after h

  pub fork_of_no_integer : IsNoInteger v → performs_of (in_scene a d w) c (start_fork x body) [] s ≡ fails_of (in_scene a d w) c skipped (suc s.place) type_mismatch after
  fork_of_no_integer h = refused type_mismatch (no_integer now under x body v h)

  pub fork_in_past : (z : ℤ) → v ≡ integer z → z <ℤ pos 0
      → performs_of (in_scene a d w) c (start_fork x body) [] s ≡ fails_of (in_scene a d w) c skipped (suc s.place) invalid_argument after
  fork_in_past z e h = refused invalid_argument (ap (fork_in now under x body) e ∙ in_past now under x body z h)

  pub fork_without_id : (z : ℤ) → v ≡ integer z → pos 0 ≤ℤ z → has_ids (scene_of d w u) ≡ false
      → performs_of (in_scene a d w) c (start_fork x body) [] s ≡ fails_of (in_scene a d w) c skipped (suc s.place) limit_exceeded after
  fork_without_id z e h none = refused limit_exceeded (ap (fork_in now under x body) e ∙ no_id now under x body z h none)

  pub fork_granted : (z id : ℤ) (due : ℕ) → v ≡ integer z → pos 0 ≤ℤ z → has_ids (scene_of d w u) ≡ true → id ≡ next_id (scene_of d w u)
      → due ≡ moment_after (scene_of d w u) (unsigned_abs z)
      → performs_of (in_scene a d w) c (start_fork x body) [] s ≡ request_shown (Granted id due) (in_scene a d w) c x body after
  fork_granted z id due is h some next moment =
      let vars : Named Datum = variables_with a.program a.further s.slots.items in
      let queued = λ (i : ℤ) (m : ℕ). enqueued (id_taken now) i (task_forked under m (with_named x (integer i) vars) body) in
      forks_so ∙ ap (λ y. does_after (fork_in now under x body y)) is ∙ ap does_after (one_id now under x body z h some)
      ∙ ap (λ i. does_after (sets_named x (integer i) (ends (queued i (moment_after now (unsigned_abs z)))))) (sym next)
      ∙ ap (λ m. does_after (sets_named x (integer id) (ends (queued id m)))) (sym moment)
      ∙ named_first a u now (queued id due) (kept (in_scene a d w) c after) (place_for (suc s.place) []) x (integer id)

-- ---- the task is made and queued

pub fork_starts : (r : Running) (s t : State) (d e : Deeds) (w : World) (x : Option Text) (body : Program) (id : ℤ) (due n : ℕ) (task : Task)
    → forks x body d w r ≡ request_shown (Granted id due) (in_scene (around_in r d w) d w) r.frame.call x body s
    → with_named x (integer id) (variables_with r.frame.program r.frame.further s.slots.items) ≡ variables_with r.frame.program r.frame.further t.slots.items
    → t ≡ record s { slots = t.slots } → n ≡ suc s.place
    → task ≡ forked_task r.player due (forked_kept (kept_of (record (r.frame) { state = t })) body)
    → enqueued (id_taken (scene_of d w s.ticks)) id task ≡ scene_of e (with_task w id task) s.ticks
    → forks x body d w r ≡ fork_shown (Started id task) e w (record r { frame = record (r.frame) { state = record t { place = n } } })
fork_starts r s t d e w x body id due n task asked named same next made queued =
    let a : Around = in_scene (around_in r d w) d w in
    let vars : Named Datum = variables_with r.frame.program r.frame.further t.slots.items in
    let behind : Kept = record (kept a r.frame.call s) { variables = vars; place = suc s.place } in
    let ticks : s.ticks ≡ t.ticks = sym (ap (λ (z : State). z.ticks) same) in
    let operands : s.operands ≡ t.operands = sym (ap (λ (z : State). z.operands) same) in
    asked ∙ ap (λ vs. goes_on a r.frame.call id due body vs s) named
    ∙ ap (λ z. on (enqueued (id_taken (scene_of d w s.ticks)) id z) behind a.outer s.ticks) (sym made)
    ∙ ap (λ z. on z behind a.outer s.ticks) queued
    ∙ (λ i. on (scene_of e (with_task w id task) (ticks i)) (record behind { place = sym next i; operands = operands i }) a.outer (ticks i))
