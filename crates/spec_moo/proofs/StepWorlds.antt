-- A step, and a list of steps, keep what a world's objects, links and tasks agree on.
use Rattle.std.proofs.Common.{◌≡◌, ◌⊎◌, inl, inr, ℕ, zero, suc, ◌≤◌, ◌==◌, max, ℤ, pos, negsuc, Bool, true, false, not, ◌&&◌, ◌||◌, List, [], ◌∷◌, map, length, Option, Some, None, refl, sym, ap, ◌∙◌, subst, arith, IsTrue, if◌then◌else◌, leb-true}
use Rattle.std.specs.Prelude.{nat_abs, neg_ℤ, ◌-ℤ◌, int_le, nat_le, nat_lt, codes}
use Rattle.std.specs.Ordering.{int_eq}
use Rattle.std.specs.List.{list_all}
use Rattle.spec_value.specs.Datum.{Datum, object, text, Data, no_data, item, of_list, Text, same_text}
use Rattle.spec_value.specs.Table.{Numbered, at, with}
use Rattle.spec_program.specs.ReadPrograms.{Parsed, program, faulty, parsed_lines}
use Rattle.spec_program.specs.Construct.{Construct, of_expr, of_target, of_default, of_statement, of_program, Piece}
use Rattle.spec_program.specs.Place.{is_call, Linked}
use Rattle.spec_world.specs.World.{World, Object, Link, Programming, Entry, frame_entry, native_entry, Task, Waiting, forked, timed, idle, reading_on, object_at}
use Rattle.spec_world.specs.WellFormed.{on_object, passes, lists, is_connection, link_fits, is_moment, fork_fits, at_beginning, waiting_fits, TaskStands, FramesStand, read_by, links_read}
use Rattle.spec_world.specs.Agreeing.{EntriesHold, Agrees}
use Rattle.spec_world.specs.Links.{connection_object, connection_of, reader_of, open_link, close_link}
use Rattle.spec_world.specs.VerbsSought.{Sought}
use Rattle.spec_world.specs.CommandLines as line
use Rattle.spec_world.specs.CommandLines.{Parts, Request, other_form, Command, nothing_said, programming, calls_verb, calls_huh, not_understood, command_said}
use Rattle.spec_world.specs.Naming.{name_object, location_of}
use Rattle.spec_value.proofs.Entries.{first_holds, second_holds, both_hold}
use Rattle.spec_value.proofs.Same.{same_integer, integer_itself}
use Rattle.spec_world.proofs.Trees.{either, first_of, second_of}
use Rattle.spec_world.proofs.WorldsKept.{well_formed_agrees, agrees_is_well_formed, task_put, tasks_left, next_raised, link_put, IsFree, link_closed_keeps, none_among, closed_is_free, none_reads, person_found}
use Rattle.spec_moo.specs.Scene.{Scene, in_world, has_ids, next_id, id_taken, enqueued}
use Rattle.spec_moo.specs.Linking.{connection_closed, link_closed}
use Rattle.spec_moo.specs.Pending.{hand, Pending, Stop, done, raised, out_of_ticks, waiting, killed, going_on}
use Rattle.spec_moo.specs.Segment.{segment}
use Rattle.spec_moo.specs.Standing.{LooksAt}
use Rattle.spec_moo.specs.Natives.Properties.{as_texts}
use Rattle.spec_world.specs.Step as step
use Rattle.spec_world.specs.Step.{Event, line_of, ready_task, Step}
use Rattle.spec_world.specs.Outcome.{Outcome, ended}
use Rattle.spec_moo.specs.Steps.Outcomes.{opening_scene, comes_to, idle_with}
use Rattle.spec_moo.specs.Steps.Running.{told_on, waiting_task, put_by, after_stop, Ran, run, begun, system_task, on_system, beginning_of, begun_again, gone_on}
use Rattle.spec_moo.specs.Steps.Programming.{with_link, programmable, begins, opens, requested, with_line, written, ends_with, ends_at, ends, goes_on, collected}
use Rattle.spec_moo.specs.Steps.Events.{foreground_ticks, queued_ticks, nothing_runs, words_value, user_task, greeted, logged_in, is_player, is_open_for, may_log_in, login_value, after_login, login_with, login, opened_link, command_call, command_start, command_run, player_line, without_task, resumed, with_own_task, line_for, line_read, line_taken, line_on, told_gone, gone, closed_link, is_due, ready_run, ready_at, event_of, event}
use Rattle.spec_moo.specs.Steps.Events as events
use Rattle.spec_moo.specs.Steps.{numbered, play1, play}
use Rattle.spec_world.specs.Step.{event_in_range, in_range}
use Rattle.spec_moo.specs.Worlds.{IsUnderWay, IdFits, SceneAgrees, MayWait, StopKeeps, StepsKeep, ListsKeep, NextFollows, StaysWellFormed, PlayGoesOn}
use Rattle.spec_moo.proofs.NativeWorlds.{in_agreeing, closed_scene}
use Rattle.spec_moo.proofs.PropertyRows.{changed_verb}
use Rattle.spec_moo.proofs.TaskRows.{id_in_range, taken}
use Rattle.spec_moo.proofs.SegmentWorlds.{segments_keep}

-- the world's next number stays this one
module _ (fixed : ℕ) where
  -- ---- the objects of connections

  connection_of_object : (m n : ℕ) → connection_object (pos m) ≡ connection_object (pos n) → pos m ≡ pos n
  connection_of_object zero zero e = refl
  connection_of_object zero (suc n) e = let h : 3 ≡ nat_abs (connection_object (pos (suc n))) = ap nat_abs e in ap pos (omega (arith, h))
  connection_of_object (suc m) zero e = let h : nat_abs (connection_object (pos (suc m))) ≡ 3 = ap nat_abs e in ap pos (omega (arith, h))
  connection_of_object (suc m) (suc n) e = let h : nat_abs (connection_object (pos (suc m))) ≡ nat_abs (connection_object (pos (suc n))) = ap nat_abs e in ap pos (omega (arith, h))

  connection_below : (m : ℕ) → IsTrue (int_le (pos 0) (connection_object (pos m))) → ⊥
  connection_below zero e = cc
  connection_below (suc m) e = cc

  -- what a step leads to: a world that agrees, with this next number
  abbrev Then : World → Type 0
  Then w = Agrees w × (w.next ≡ fixed)

  out : (s : Scene) → SceneAgrees fixed s → Then s.world
  out s h = (h.world, h.next)

  -- ---- what is told and queued

  told_keeps : (s : Scene) (c : Option ℤ) (ts : List Text) → SceneAgrees fixed s → SceneAgrees fixed (told_on s c ts)
  told_keeps s None ts h = h
  told_keeps s (Some c) ts h = record { world = h.world; number = h.number; before = h.before; moment = h.moment; ids = h.ids; own = h.own; next = h.next }

  same_id : (w : World) (ts : Numbered Task) (i : Option ℤ) → IdFits w i → IdFits (record w { tasks = ts }) i
  same_id w ts None k = tt
  same_id w ts (Some i) k = k

  queued_keeps : (s : Scene) (i : ℤ) (t : Task) → SceneAgrees fixed s → Agrees (record (s.world) { tasks = with s.world.tasks i t })
      → SceneAgrees fixed (enqueued s i t)
  queued_keeps s i t h w = record { world = w; number = h.number; before = h.before; moment = h.moment; ids = h.ids; own = same_id s.world (with s.world.tasks i t) s.task h.own; next = h.next }

  waits_apart : (w : World) (why : Waiting) → MayWait w why → (c : ℤ) → IsTrue (lists (read_by why) c) → lists (links_read w.tasks) c ≡ false
  waits_apart w (forked m) h c l = cc
  waits_apart w (timed m v) h c l = cc
  waits_apart w idle h c l = cc
  waits_apart w (reading_on d) h c l = go (either (int_eq c d) false l)
    where
      go : IsTrue (int_eq c d) ⊎ IsTrue false → lists (links_read w.tasks) c ≡ false
      go (inl e) = subst (λ z. lists (links_read w.tasks) z ≡ false) (sym (same_integer c d e)) (none_reads w.tasks d h.1)
      go (inr e) = cc

  put_keeps : (s : Scene) (i : Option ℤ) (player : ℤ) (why : Waiting) (es : List Entry) → IdFits s.world i → SceneAgrees fixed s
      → MayWait s.world why → FramesStand es → EntriesHold es → SceneAgrees fixed (put_by s i (waiting_task player why es))
  put_keeps s None player why es id h may stands holds = h
  put_keeps s (Some i) player why es id h may stands holds =
      queued_keeps s i (waiting_task player why es) h (task_put s.world i (waiting_task player why es) h.world id (waits why may) (places why may) holds (waits_apart s.world why may))
    where
      waits : (why : Waiting) → MayWait s.world why → IsTrue (waiting_fits s.world (waiting_task player why es) why)
      waits (forked m) k = absurd k
      waits (timed m v) k = k
      waits idle k = refl
      waits (reading_on c) k = k.0

      places : (why : Waiting) → MayWait s.world why → TaskStands (waiting_task player why es) why
      places (forked m) k = absurd k
      places (timed m v) k = stands
      places idle k = stands
      places (reading_on c) k = stands

  -- ---- a task under way

  stop_keeps : (player : ℤ) (s : Scene) (why : Stop) → StopKeeps fixed s why → SceneAgrees fixed (after_stop player s why)
  stop_keeps player s (waiting why es) h = put_keeps s s.task player why es h.0.own h.0 h.1.0 h.1.1.0 h.1.1.1
  stop_keeps player s (done v) h = told_keeps s (connection_of s.world player) [] h
  stop_keeps player s (raised f) h = told_keeps s (connection_of s.world player) _ h
  stop_keeps player s (out_of_ticks ts) h = told_keeps s (connection_of s.world player) _ h
  stop_keeps player s killed h = told_keeps s (connection_of s.world player) [] h

  run_keeps : (s : Scene) (p : Pending) → SceneAgrees fixed s → IsUnderWay p → SceneAgrees fixed (run s p).scene
  run_keeps s p h k = stop_keeps p.player (segment s.ticks_left s p).scene (segment s.ticks_left s p).stop (segments_keep fixed s.ticks_left s p h k)

  -- a task that waited stands at its call, and a fork at its beginning
  abbrev GoesOn : Option Pending → Type 0
  GoesOn None = Unit {0}
  GoesOn (Some p) = IsUnderWay p

  call_hands : (r c : Construct) (v : Datum) (ps : List Piece) → IsTrue (is_call c) → Linked c ps r → LooksAt r ps (hand v)
  call_hands r (of_expr e) v ps is h = (e, h)
  call_hands r (of_target t) v ps is h = cc
  call_hands r (of_default x e) v ps is h = cc
  call_hands r (of_statement t) v ps is h = cc
  call_hands r (of_program q) v ps is h = cc

  handed_on : (player : ℤ) (v : Datum) (es : List Entry) → FramesStand es → EntriesHold es → GoesOn (going_on player (hand v) es)
  handed_on player v [] h k = tt
  handed_on player v (frame_entry g ∷ es) h k = ((call_hands (of_program g.program) (h.0).0 v g.pieces (h.0).1 (h.0).2, h.1), k)
  handed_on player v (native_entry n ∷ es) h k = tt

  fork_begins : (t : Task) → IsTrue (fork_fits t.entries) → GoesOn (begun_again t (beginning_of t.entries))
  fork_begins t h = go t.entries h
    where
      empty : (ps : List Piece) → IsTrue (at_beginning ps) → ps ≡ []
      empty [] k = refl
      empty (p ∷ ps) k = cc

      go : (es : List Entry) → IsTrue (fork_fits es) → GoesOn (begun_again (record t { entries = es }) (beginning_of es))
      go [] k = cc
      go (frame_entry f ∷ []) k = ((subst (λ ps. Linked (of_program f.program) ps (of_program f.program)) (sym (empty f.pieces k)) refl, tt), (refl, (omega arith, refl)))
      go (frame_entry f ∷ e ∷ es) k = cc
      go (native_entry n ∷ es) k = cc

  goes_on_standing : (w : World) (t : Task) (why : Waiting) (v : Datum) → IsTrue (waiting_fits w t why) → TaskStands t why → EntriesHold t.entries
      → GoesOn (gone_on t why v)
  goes_on_standing w t (forked m) v h k holds = fork_begins t (second_holds (is_moment m) _ h)
  goes_on_standing w t (timed m u) v h k holds = handed_on t.player u t.entries k holds
  goes_on_standing w t idle v h k holds = handed_on t.player v t.entries k holds
  goes_on_standing w t (reading_on c) v h k holds = handed_on t.player v t.entries k holds

  resumed_keeps : (s : Scene) (o : Option Pending) → SceneAgrees fixed s → GoesOn o → Then (resumed s o).0
  resumed_keeps s None h k = out _ h
  resumed_keeps s (Some p) h k = out _ (run_keeps s p h k)

  -- ---- the beginning of a step

  record Opens (w : World) (s : Step) : Type 0 where
    world : Agrees w
    number : 1 ≤ s.number
    before : suc s.number ≤ w.next
    moment : IsTrue (is_moment s.moment)
    next : w.next ≡ fixed

  opened : (w : World) (s : Step) (ticks : ℕ) → Opens w s → SceneAgrees fixed (opening_scene w s ticks)
  opened w s ticks o = record { world = o.world; number = o.number; before = o.before; moment = o.moment; ids = omega arith; own = tt; next = o.next }

  own_task : (s : Scene) (i : ℤ) (t : Task) → at s.world.tasks i ≡ Some t → SceneAgrees fixed s → SceneAgrees fixed (with_own_task s i)
  own_task s i t e h =
      record {
        world = tasks_left s.world (λ (m : ℤ × Task). not (int_eq i m.0)) h.world;
        number = h.number;
        before = h.before;
        moment = h.moment;
        ids = h.ids;
        own = h.world.queue.task_ids i t e;
        next = h.next;
      }

  -- ---- login

  closed_objects : (s : Scene) (who : ℤ) → (q : ℤ) → object_at (link_closed s who).world q ≡ object_at s.world q
  unfolding close_link
  closed_objects s who q = go (connection_of s.world who)
    where
      go : (m : Option ℤ) → object_at (connection_closed s m).world q ≡ object_at s.world q
      go None = refl
      go (Some c) = refl

  closed_free : (s : Scene) (who : ℤ) → SceneAgrees fixed s → lists (map (λ e. (e.1).person) (link_closed s who).world.links) who ≡ false
  closed_free s who h = go (connection_of s.world who) refl
    where
      go : (m : Option ℤ) → connection_of s.world who ≡ m → lists (map (λ e. (e.1).person) (connection_closed s m).world.links) who ≡ false
      go None e = none_among s.world.links who e
      go (Some c) e = closed_is_free s.world c who h.world e

  linked_keeps : (s : Scene) (c : ℤ) (k : Link) → SceneAgrees fixed s → IsTrue (link_fits s.world c k) → IsFree s.world c k
      → SceneAgrees fixed (in_world s (open_link s.world c k))
  linked_keeps s c k h fits alone = in_agreeing fixed s (open_link s.world c k) h (link_put s.world c k h.world fits alone) refl

  greeted_keeps : (s : Scene) (who : ℤ) (f : Option Sought) → SceneAgrees fixed s → SceneAgrees fixed (greeted s who f)
  greeted_keeps s who None h = h
  greeted_keeps s who (Some f) h = go (has_ids s) refl
    where
      go : (b : Bool) → has_ids s ≡ b → SceneAgrees fixed (if b then enqueued (id_taken s) (next_id s) (user_task s who f) else s)
      go false e = h
      go true e =
          queued_keeps (id_taken s) (next_id s) (user_task s who f) (taken fixed s s.task h e h.own)
          (task_put s.world (next_id s) (user_task s who f) h.world (id_in_range fixed s h e) (both_hold (is_moment s.moment) true h.moment refl) tt (refl, (omega arith, refl)) (λ c l. cc))

  logged_in_keeps : (s : Scene) (c who : ℤ) → SceneAgrees fixed s → IsTrue (is_connection c) → IsTrue (is_player (object_at s.world who))
      → SceneAgrees fixed (logged_in s c who)
  logged_in_keeps s c who h ranged player =
      let t : Scene = link_closed s who in
      let k : Link = record { person = who; programming = None } in
      let there = linked_keeps t c k (closed_scene fixed s who h)
      (both_hold (is_connection c) _ ranged (second_of (int_eq who (neg_ℤ (pos 3) -ℤ c)) _ (sym (as_player (object_at t.world who)) ∙ ap is_player (closed_objects s who who) ∙ player)))
      (inl (closed_free s who h)) in
      let u : Scene = told_on (in_world t (open_link t.world c k)) (Some c) (codes "*** Connected ***" ∷ []) in
      greeted_keeps u who (on_system u (codes "user_connected")) (told_keeps (in_world t (open_link t.world c k)) (Some c) (codes "*** Connected ***" ∷ []) there)
    where
      as_player : (m : Option Object) → is_player m ≡ passes m (λ x. x.header.is_player)
      as_player None = refl
      as_player (Some x) = refl

  login_value_keeps : (s : Scene) (c : ℤ) (why : Stop) → SceneAgrees fixed s → SceneAgrees fixed (login_value s c why)
  login_value_keeps s c (done (object who)) h = go (may_log_in s c who) refl
    where
      go : (b : Bool) → may_log_in s c who ≡ b → SceneAgrees fixed (if b then logged_in s c who else s)
      go false e = h
      go true e = logged_in_keeps s c who h (ranged (at s.world.links c) refl (second_holds (is_player (object_at s.world who)) _ e)) (first_holds (is_player (object_at s.world who)) _ e)
        where
          ranged : (m : Option Link) → at s.world.links c ≡ m → IsTrue (is_open_for m (connection_object c)) → IsTrue (is_connection c)
          ranged None i k = cc
          ranged (Some l) i k = first_holds (is_connection c) _ (h.world.links.links c l i)
  login_value_keeps s c why h = h

  login_keeps : (s : Scene) (c : ℤ) (argstr : Text) (args : Data) → SceneAgrees fixed s → Then (login s c argstr args).0
  login_keeps s c argstr args h = go (on_system s (codes "do_login_command"))
    where
      go : (o : Option Sought) → Then (login_with s c argstr args o).0
      go None = out _ h
      go (Some f) =
          let r : Ran = run s (system_task (connection_object c) (codes "do_login_command") argstr args f) in
          out _ (login_value_keeps r.scene c r.stop (run_keeps s (system_task (connection_object c) (codes "do_login_command") argstr args f) h ((refl, tt), (refl, (omega arith, refl)))))

  -- ---- `.program`

  -- a link with the person that it has
  relinked : (s : Scene) (c : ℤ) (k l : Link) → at s.world.links c ≡ Some k → l.person ≡ k.person → SceneAgrees fixed s → SceneAgrees fixed (with_link s c l)
  relinked s c k l e same h =
      linked_keeps s c l h
      (subst (λ z. IsTrue (is_connection c && (int_eq z (neg_ℤ (pos 3) -ℤ c) || on_object s.world z (λ x. x.header.is_player)))) (sym same) (h.world.links.links c k e))
      (inr (k, e, same))

  requested_keeps : (s : Scene) (c : ℤ) (k : Link) (r : Request) → at s.world.links c ≡ Some k → SceneAgrees fixed s → Then (requested s c k.person r).0
  requested_keeps s c k other_form e h = out _ h
  requested_keeps s c k (line.program_verb t v) e h = go (name_object s.world k.person t) (object_at s.world (name_object s.world k.person t))
    where
      on : (o : ℤ) (n : Option ℕ) → Then (begins s c k.person o v n).0
      on o None = out _ h
      on o (Some n) = out _ (relinked s c k (record { person = k.person; programming = Some (record { object = o; verb = v; lines = Some [] }) }) e refl h)

      go : (o : ℤ) (m : Option Object) → Then (opens s c k.person o v m).0
      go o None = out _ h
      go o (Some x) = on o (programmable s.world k.person o v)

  collected_keeps : (s : Scene) (c : ℤ) (k : Link) (g : Programming) (t : Text) → at s.world.links c ≡ Some k → SceneAgrees fixed s
      → Then (collected s c k g t).0
  collected_keeps s c k g t e h = go (same_text t (codes "."))
    where
      u : Scene
      u = with_link s c (record k { programming = None })

      unlinked : SceneAgrees fixed u
      unlinked = relinked s c k (record k { programming = None }) e refl h

      write : (n : ℕ) (r : Parsed) → Then (written u c g.object n r).0
      write n (program p) = out _ (changed_verb fixed u g.object n (λ v. record v { program = p }) unlinked)
      write n (faulty f) = out _ unlinked

      lines : (n : ℕ) (ts : Option (List Text)) → Then (ends_with u c g.object n ts).0
      lines n None = out _ unlinked
      lines n (Some ts) = write n (parsed_lines ts)

      at_verb : (n : Option ℕ) → Then (ends_at u c g n).0
      at_verb None = out _ unlinked
      at_verb (Some n) = lines n g.lines

      go : (b : Bool) → Then (if b then ends s c k g else goes_on s c k g t).0
      go true = at_verb (programmable s.world k.person g.object g.verb)
      go false = out _ (relinked s c k (record k { programming = Some (record g { lines = with_line g.lines t }) }) e refl h)

  -- ---- commands and lines

  command_keeps : (s : Scene) (c : ℤ) (k : Link) (m : Command) → at s.world.links c ≡ Some k → SceneAgrees fixed s → Then (command_run s c k.person m).0
  command_keeps s c k nothing_said e h = out _ h
  command_keeps s c k (programming r) e h = requested_keeps s c k r e h
  command_keeps s c k (calls_verb p n m) e h =
      out _ (run_keeps s (begun k.person (command_call k.person m.this p.verb m.sought) p.verb (command_start p n) (of_list (as_texts p.args)) (m.sought).verb.program) h ((refl, tt), (refl, (omega arith, refl))))
  command_keeps s c k (calls_huh p n f) e h =
      out _ (run_keeps s (begun k.person (command_call k.person (location_of (object_at s.world k.person)) (codes "huh") f) p.verb (command_start p n) (of_list (as_texts p.args)) (f.verb).program) h ((refl, tt), (refl, (omega arith, refl))))
  command_keeps s c k not_understood e h = out _ h

  line_for_keeps : (s : Scene) (c : ℤ) (k : Link) (t : Text) → at s.world.links c ≡ Some k → SceneAgrees fixed s → Then (line_for s c k t).0
  line_for_keeps s c k t e h = go (int_eq k.person (connection_object c))
    where
      go : (b : Bool) → Then (if b then login s c t (words_value t) else player_line s c k.person t).0
      go true = login_keeps s c t (words_value t) h
      go false = command_keeps s c k (command_said s.world k.person t) e h

  read_keeps : (s : Scene) (i : ℤ) (v : Datum) (m : Option Task) → at s.world.tasks i ≡ m → SceneAgrees fixed s → Then (events.read_by s i v m).0
  read_keeps s i v None e h = out _ h
  read_keeps s i v (Some t) e h =
      resumed_keeps (with_own_task s i) (gone_on t t.waiting v) (own_task s i t e h) (goes_on_standing s.world t t.waiting v (h.world.queue.task_waits i t e) (h.world.queue.task_places i t e) (h.world.queue.task_entries i t e))

  line_taken_keeps : (s : Scene) (c : ℤ) (k : Link) (t : Text) (g : Option Programming) → at s.world.links c ≡ Some k → SceneAgrees fixed s
      → Then (line_taken s c k t g).0
  line_taken_keeps s c k t (Some g) e h = collected_keeps s c k g t e h
  line_taken_keeps s c k t None e h = go (reader_of s.world c)
    where
      go : (r : Option ℤ) → Then (line_read s c k t r).0
      go (Some i) = read_keeps s i (text t) (at s.world.tasks i) refl h
      go None = line_for_keeps s c k t e h

  -- ---- links that come and go

  -- nobody has the object of a connection that is not open
  unknown_person : (w : World) (c : ℤ) → Agrees w → at w.links c ≡ None → IsTrue (is_connection c)
      → lists (map (λ e. (e.1).person) w.links) (connection_object c) ≡ false
  unknown_person w c h none ranged = go (lists (map (λ e. (e.1).person) w.links) (connection_object c)) refl
    where
      one_connection : (m n : ℤ) → IsTrue (is_connection m) → IsTrue (is_connection n) → connection_object m ≡ connection_object n → m ≡ n
      one_connection (pos m) (pos n) a b e = connection_of_object m n e
      one_connection (negsuc m) n a b e = absurd (cc (a))
      one_connection (pos m) (negsuc n) a b e = absurd (cc (b))

      below_zero : (m : ℤ) → IsTrue (is_connection m) → IsTrue (int_le (pos 0) (connection_object m)) → ⊥
      below_zero (pos m) a e = connection_below m e
      below_zero (negsuc m) a e = absurd (cc (a))

      go : (b : Bool) → lists (map (λ e. (e.1).person) w.links) (connection_object c) ≡ b
          → lists (map (λ e. (e.1).person) w.links) (connection_object c) ≡ false
      go false e = e
      go true e =
          let f = person_found w.links (connection_object c) h.links.links_in_order e in
          let fits = h.links.links f.0 f.1.0 f.1.1 in
          absurd (by f.0 f.1.0 f.1.1 f.1.2 (first_holds (is_connection f.0) _ fits) (either (int_eq f.1.0.person (connection_object f.0)) _ (second_holds (is_connection f.0) _ fits)))
        where
          player : (m : Option Object) (o : ℤ) → object_at w o ≡ m → IsTrue (passes m (λ x. x.header.is_player)) → IsTrue (int_le (pos 0) o)
          player None o i k = cc
          player (Some x) o i k = first_holds (int_le (pos 0) o) _ (h.objects.numbers o x i)

          by : (d : ℤ) (k : Link) → at w.links d ≡ Some k → k.person ≡ connection_object c → IsTrue (is_connection d)
              → IsTrue (int_eq k.person (connection_object d)) ⊎ IsTrue (on_object w k.person (λ x. x.header.is_player)) → ⊥
          by d k there same fits (inl m) =
              let equal : c ≡ d = one_connection c d ranged fits (sym same ∙ same_integer k.person (connection_object d) m) in
              let clash : None ≡ Some k = sym none ∙ ap (at w.links) equal ∙ there in absurd (cc (clash))
          by d k there same fits (inr m) = below_zero c ranged (subst (λ z. IsTrue (int_le (pos 0) z)) same (player (object_at w k.person) k.person refl m))

  opened_keeps : (s : Step) (w : World) (c : ℤ) (o : Option Link) → at w.links c ≡ o → IsTrue (is_connection c) → Opens w s → Then (opened_link s w c o).0
  opened_keeps s w c (Some k) e ranged b = (b.world, b.next)
  opened_keeps s w c None e ranged b =
      let k : Link = record { person = connection_object c; programming = None } in
      let u : World = open_link w c k in
      let there = link_put w c k b.world (both_hold (is_connection c) _ ranged (first_of (int_eq (connection_object c) (neg_ℤ (pos 3) -ℤ c)) _ (integer_itself (connection_object c)))) (inl (unknown_person w c b.world e ranged)) in
      login_keeps (opening_scene u s foreground_ticks) c [] no_data (opened u s foreground_ticks (record { world = there; number = b.number; before = b.before; moment = b.moment; next = b.next }))

  gone_keeps : (s : Scene) (c who : ℤ) → SceneAgrees fixed s → Then (gone s c who).0
  gone_keeps s c who h = go (int_eq who (connection_object c))
    where
      on : (f : Option Sought) → Then (told_gone s who f).0
      on None = out _ h
      on (Some f) = out _ (run_keeps s (system_task who (codes "user_disconnected") [] (item (object who) no_data) f) h ((refl, tt), (refl, (omega arith, refl))))

      go : (b : Bool) → Then (if b then nothing_runs s else told_gone s who (on_system s (codes "user_disconnected"))).0
      go true = out _ h
      go false = on (on_system s (codes "user_disconnected"))

  closed_keeps : (s : Step) (w : World) (c : ℤ) (o : Option Link) → Opens w s → Then (closed_link s w c o).0
  unfolding close_link
  closed_keeps s w c None b = (b.world, b.next)
  closed_keeps s w c (Some k) b =
      gone_keeps (opening_scene (close_link w c) s foreground_ticks) c k.person
      (opened (close_link w c) s foreground_ticks (record { world = link_closed_keeps w c b.world; number = b.number; before = b.before; moment = b.moment; next = b.next }))

  line_on_keeps : (s : Step) (w : World) (c : ℤ) (t : Text) (o : Option Link) → at w.links c ≡ o → Opens w s → Then (line_on s w c t o).0
  line_on_keeps s w c t None e b = (b.world, b.next)
  line_on_keeps s w c t (Some k) e b = line_taken_keeps (opening_scene w s foreground_ticks) c k t k.programming e (opened w s foreground_ticks b)

  ready_keeps : (s : Step) (w : World) (i : ℤ) (o : Option Task) → at w.tasks i ≡ o → Opens w s → Then (ready_at s w i o).0
  ready_keeps s w i None e b = (b.world, b.next)
  ready_keeps s w i (Some t) e b = go (is_due s.moment t.waiting)
    where
      go : (d : Bool) → Then (ready_run s w i t d).0
      go false = (b.world, b.next)
      go true =
          let u : Scene = opening_scene w s queued_ticks in
          resumed_keeps (with_own_task u i) (gone_on t t.waiting _) (own_task u i t e (opened w s queued_ticks b))
          (goes_on_standing w t t.waiting _ (b.world.queue.task_waits i t e) (b.world.queue.task_places i t e) (b.world.queue.task_entries i t e))

  event_keeps : (w : World) (s : Step) (e : Event) → IsTrue (event_in_range e) → Opens w s → Then (event_of w s e).0
  event_keeps w s (step.open_link c) r b = opened_keeps s w c (at w.links c) refl r b
  event_keeps w s (step.close_link c) r b = closed_keeps s w c (at w.links c) b
  event_keeps w s (line_of c t) r b = line_on_keeps s w c t (at w.links c) refl b
  event_keeps w s (ready_task i) r b = ready_keeps s w i (at w.tasks i) refl b

-- ---- steps

step_then : (w : World) (s : Step) → Agrees w → IsTrue (in_range s) → Agrees (play1 w s).0 × ((play1 w s).0.next ≡ max (suc s.number) w.next)
unfolding play1
step_then w s h r =
    go w.ending
  where
    before_event : IsTrue (nat_le 1 s.number && nat_le s.number 33554431 && is_moment s.moment && (length s.key == 32) && list_all (λ b. nat_lt b 256) s.key)
    before_event = first_holds _ (event_in_range s.event) r

    in_event : IsTrue (event_in_range s.event)
    in_event = second_holds _ (event_in_range s.event) r

    with_moment : IsTrue (nat_le 1 s.number && nat_le s.number 33554431 && is_moment s.moment)
    with_moment = first_holds _ (length s.key == 32) (first_holds _ (list_all (λ b. nat_lt b 256) s.key) before_event)

    in_moment : IsTrue (is_moment s.moment)
    in_moment = second_holds _ (is_moment s.moment) with_moment

    numbers : IsTrue (nat_le 1 s.number && nat_le s.number 33554431)
    numbers = first_holds _ (is_moment s.moment) with_moment

    one : 1 ≤ s.number
    one = leb-true 1 s.number (first_holds _ (nat_le s.number 33554431) numbers)

    small : s.number ≤ 33554431
    small = leb-true s.number 33554431 (second_holds (nat_le 1 s.number) _ numbers)

    limit : w.next ≤ 33554432
    limit = leb-true w.next 33554432 (second_holds (nat_le 1 w.next) _ h.queue.next_in_range)

    raised_next : Agrees (numbered s.number w)
    raised_next = next_raised w (max (suc s.number) w.next) (omega arith) (omega (arith, small, limit)) h

    go : (b : Bool)
        → (let r : World × Outcome = if b then (numbered s.number w, idle_with ended) else event (numbered s.number w) s in Agrees (r.0) × ((r.0).next ≡ max (suc s.number) w.next))
    go true = (raised_next, refl)
    go false = event_keeps (max (suc s.number) w.next) (numbered s.number w) s s.event in_event (record { world = raised_next; number = one; before = omega arith; moment = in_moment; next = refl })

pub steps_keep : StepsKeep
steps_keep w s h r = (step_then w s h r).0

pub next_follows : NextFollows
next_follows w s h r = (step_then w s h r).1

pub lists_keep : ListsKeep
unfolding play
lists_keep w [] h r = h
lists_keep w (s ∷ ss) h r = lists_keep (play1 w s).0 ss (steps_keep w s h (first_holds (in_range s) _ r)) (second_holds (in_range s) _ r)

pub play_goes_on : PlayGoesOn
unfolding play
play_goes_on w [] ts = refl
play_goes_on w (s ∷ ss) ts = ap (λ (t : World × List Outcome). (t.0, (play1 w s).1 ∷ t.1)) (play_goes_on (play1 w s).0 ss ts)

pub stays_well_formed : StaysWellFormed
stays_well_formed w ss h r k = agrees_is_well_formed (play w ss).0 (lists_keep w ss (well_formed_agrees w h).0 r) k
