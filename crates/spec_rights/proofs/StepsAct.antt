-- A step changes objects by the turns of one task, or by one program that a player types, or not at all.
use Rattle.std.proofs.Common.{◌≡◌, ◌⊎◌, inl, inr, ℕ, ℤ, Bool, true, false, List, [], ◌∷◌, Option, Some, None, IsTrue, refl, ◌∙◌, if◌then◌else◌, codes}
use Rattle.std.specs.Ordering.{int_eq}
use Rattle.spec_value.specs.Datum.{Datum, object, text, Data, no_data, item, of_list, Text, same_text}
use Rattle.spec_value.specs.Table.{at}
use Rattle.spec_value.proofs.Entries.{second_holds}
use Rattle.spec_program.specs.Tree.{Program}
use Rattle.spec_program.specs.ReadPrograms.{Parsed, program, faulty, parsed_lines}
use Rattle.spec_world.specs.World.{World, Object, Link, Programming, Call, Start, Task, object_at}
use Rattle.spec_world.specs.WellFormed.{is_connection}
use Rattle.spec_world.specs.Agreeing.{Agrees}
use Rattle.spec_world.specs.Permissions.{program_verb, may}
use Rattle.spec_world.specs.Links.{connection_object, connection_of, reader_of, open_link, close_link}
use Rattle.spec_world.specs.Members.{verb_changed}
use Rattle.spec_world.specs.Naming.{location_of, name_object}
use Rattle.spec_world.specs.VerbsSought.{Sought}
use Rattle.spec_world.specs.CommandLines as line
use Rattle.spec_world.specs.CommandLines.{Command, nothing_said, programming, calls_verb, calls_huh, not_understood, command_said}
use Rattle.spec_moo.specs.Scene.{Scene, in_world, has_ids, next_id, id_taken, enqueued}
use Rattle.spec_moo.specs.Linking.{connection_closed, link_closed}
use Rattle.spec_moo.specs.Pending.{Pending, Stop, done, raised, out_of_ticks, waiting, killed}
use Rattle.spec_moo.specs.Segment.{segment}
use Rattle.spec_moo.specs.Natives.Properties.{as_texts}
use Rattle.spec_moo.specs.Worlds.{IsUnderWay}
use Rattle.spec_world.specs.Step as step
use Rattle.spec_world.specs.Step.{Event, line_of, ready_task, Step, in_range, event_in_range}
use Rattle.spec_world.specs.Outcome.{ended}
use Rattle.spec_moo.specs.Steps.Outcomes.{opening_scene, idle_with}
use Rattle.spec_moo.specs.Steps.Running.{Ran, waiting_task, put_by, after_stop, run, told_on, begun, system_call, unnamed, system_task, system, on_system, gone_on}
use Rattle.spec_moo.specs.Steps.Programming.{with_link, programmable_at, programmable, own_place, begins, opens, requested, written, ends_with, ends_at, ends, goes_on, collected}
use Rattle.spec_moo.specs.Steps.Events as events
use Rattle.spec_moo.specs.Steps.Events.{foreground_ticks, queued_ticks, words_value, user_task, greeted, logged_in, may_log_in, login_value, login_with, login, opened_link, nothing_runs, command_call, command_start, command_run, player_line, resumed, with_own_task, line_for, line_read, line_taken, line_on, told_gone, gone, closed_link, is_due, ready_run, ready_at, event_of, event}
use Rattle.spec_moo.specs.Steps.{numbered, play1}
use Rattle.spec_ready.specs.Ready.{IsReady}
use Rattle.spec_ready.proofs.GoingOn.{beginnings_stand}
use Rattle.spec_ready.proofs.Readiness.{links_open, links_close, tasks_leave, going_on_stands}
use Rattle.spec_rights.specs.Permitted.{Allows}
use Rattle.spec_rights.specs.Chains.{SameObjects, RunsATask, TypesAProgram, StepsAct}
use Rattle.spec_rights.proofs.Doing.{closing}
use Rattle.spec_rights.proofs.Steps.{typing, same_verbs, opens_ready}

pub same_twice : (w u v : World) → SameObjects w u → SameObjects u v → SameObjects w v
same_twice w u v (a, b, c) (d, e, f) = (d ∙ a, e ∙ b, f ∙ c)

-- ---- what a task's end does

told_same : (s : Scene) (o : Option ℤ) (ts : List Text) → SameObjects s.world (told_on s o ts).world
told_same s None ts = (refl, refl, refl)
told_same s (Some c) ts = (refl, refl, refl)

stop_same : (player : ℤ) (s : Scene) (why : Stop) → SameObjects s.world (after_stop player s why).world
stop_same player s (waiting why es) = go s.task
  where
    go : (o : Option ℤ) → SameObjects s.world (put_by s o (waiting_task player why es)).world
    go None = (refl, refl, refl)
    go (Some i) = (refl, refl, refl)
stop_same player s (done v) = told_same s (connection_of s.world player) []
stop_same player s (raised f) = told_same s (connection_of s.world player) _
stop_same player s (out_of_ticks ts) = told_same s (connection_of s.world player) _
stop_same player s killed = told_same s (connection_of s.world player) []

unlinked_same : (s : Scene) (who : ℤ) → SameObjects s.world (link_closed s who).world
unlinked_same s who = go (connection_of s.world who)
  where
    go : (m : Option ℤ) → SameObjects s.world (connection_closed s m).world
    go None = (refl, refl, refl)
    go (Some c) = (closing s.world c).0

greeted_same : (s : Scene) (who : ℤ) (f : Option Sought) → SameObjects s.world (greeted s who f).world
greeted_same s who None = (refl, refl, refl)
greeted_same s who (Some f) = go (has_ids s)
  where
    go : (b : Bool) → SameObjects s.world (if b then enqueued (id_taken s) (next_id s) (user_task s who f) else s).world
    go false = (refl, refl, refl)
    go true = (refl, refl, refl)

login_same : (s : Scene) (c : ℤ) (why : Stop) → SameObjects s.world (login_value s c why).world
login_same s c (done (object who)) = go (may_log_in s c who)
  where
    go : (b : Bool) → SameObjects s.world (if b then logged_in s c who else s).world
    go false = (refl, refl, refl)
    go true =
        let t : Scene = link_closed s who in
        let u : Scene = told_on (in_world t (open_link t.world c (record { person = who; programming = None }))) (Some c) (codes "*** Connected ***" ∷ []) in
        same_twice s.world u.world (greeted u who (on_system u (codes "user_connected"))).world (unlinked_same s who) (greeted_same u who (on_system u (codes "user_connected")))
login_same s c why = (refl, refl, refl)

-- ---- from a world on

module _ (w : World) where
  abbrev Acts : World → Type 0
  Acts u = SameObjects w u ⊎ (RunsATask w u ⊎ TypesAProgram w u)

  then_same : (u v : World) → Acts u → SameObjects u v → Acts v
  then_same u v (inl a) k = inl (same_twice w u v a k)
  then_same u v (inr (inl (t, p, (a, (b, (c, d)))))) k = inr (inl (t, p, (a, (b, (c, same_twice (segment t.ticks_left t p).scene.world u v d k)))))
  then_same u v (inr (inr (who, o, n, body, (a, (b, c))))) k = inr (inr (who, o, n, body, (a, (b, same_twice (verb_changed w o n (λ x. record x { program = body })) u v c k))))

  run_acts : (s : Scene) (p : Pending) → IsReady s → IsUnderWay p → SameObjects w s.world → Acts (run s p).scene.world
  run_acts s p ready way same =
      inr (inl (s, p, (ready.agrees, (way, (same, stop_same p.player (segment s.ticks_left s p).scene (segment s.ticks_left s p).stop)))))

  begun_acts : (s : Scene) (player : ℤ) (c : Call) (word : Text) (st : Start) (args : Data) (body : Program) → IsReady s → SameObjects w s.world
      → Acts (run s (begun player c word st args body)).scene.world
  begun_acts s player c word st args body ready same = run_acts s (begun player c word st args body) ready (beginnings_stand player c word st args body) same

  system_acts : (s : Scene) (who : ℤ) (word argstr : Text) (args : Data) (f : Sought) → IsReady s → SameObjects w s.world
      → Acts (run s (system_task who word argstr args f)).scene.world
  system_acts s who word argstr args f ready same = begun_acts s who (system_call who word f) word (unnamed argstr) args (f.verb).program ready same

  login_acts : (s : Scene) (c : ℤ) (argstr : Text) (args : Data) → IsReady s → SameObjects w s.world → Acts (login s c argstr args).0
  login_acts s c argstr args ready same = go (on_system s (codes "do_login_command"))
    where
      go : (o : Option Sought) → Acts (login_with s c argstr args o).0
      go None = inl same
      go (Some f) =
          let t : Ran = run s (system_task (connection_object c) (codes "do_login_command") argstr args f) in
          then_same t.scene.world (login_value t.scene c t.stop).world (system_acts s (connection_object c) (codes "do_login_command") argstr args f ready same) (login_same t.scene c t.stop)

  requested_acts : (s : Scene) (c who : ℤ) (q : line.Request) → SameObjects w s.world → Acts (requested s c who q).0
  requested_acts s c who line.other_form same = inl same
  requested_acts s c who (line.program_verb t v) same = go (name_object s.world who t) (object_at s.world (name_object s.world who t))
    where
      on : (o : ℤ) (n : Option ℕ) → Acts (begins s c who o v n).0
      on o None = inl same
      on o (Some n) = inl same

      go : (o : ℤ) (m : Option Object) → Acts (opens s c who o v m).0
      go o None = inl same
      go o (Some x) = on o (programmable s.world who o v)

  command_acts : (s : Scene) (c who : ℤ) (m : Command) → IsReady s → SameObjects w s.world → Acts (command_run s c who m).0
  command_acts s c who nothing_said ready same = inl same
  command_acts s c who (programming q) ready same = requested_acts s c who q same
  command_acts s c who (calls_verb p n m) ready same =
      begun_acts s who (command_call who m.this p.verb m.sought) p.verb (command_start p n) (of_list (as_texts p.args)) (m.sought).verb.program ready same
  command_acts s c who (calls_huh p n f) ready same =
      begun_acts s who (command_call who (location_of (object_at s.world who)) (codes "huh") f) p.verb (command_start p n) (of_list (as_texts p.args)) (f.verb).program ready same
  command_acts s c who not_understood ready same = inl same

  line_for_acts : (s : Scene) (c : ℤ) (k : Link) (t : Text) → IsReady s → SameObjects w s.world → Acts (line_for s c k t).0
  line_for_acts s c k t ready same = go (int_eq k.person (connection_object c))
    where
      go : (b : Bool) → Acts (if b then login s c t (words_value t) else player_line s c k.person t).0
      go true = login_acts s c t (words_value t) ready same
      go false = command_acts s c k.person (command_said s.world k.person t) ready same

  resumed_acts : (s : Scene) (i : ℤ) (t : Task) (v : Datum) → IsReady s → at s.world.tasks i ≡ Some t → SameObjects w s.world
      → Acts (resumed (with_own_task s i) (gone_on t t.waiting v)).0
  resumed_acts s i t v ready e same = go (gone_on t t.waiting v) refl
    where
      go : (m : Option Pending) → gone_on t t.waiting v ≡ m → Acts (resumed (with_own_task s i) m).0
      go None k = inl same
      go (Some p) k = run_acts (with_own_task s i) p (tasks_leave s i t e ready) (going_on_stands s i t v p ready e k) same

  read_acts : (s : Scene) (i : ℤ) (v : Datum) (m : Option Task) → IsReady s → at s.world.tasks i ≡ m → SameObjects w s.world → Acts (events.read_by s i v m).0
  read_acts s i v None ready e same = inl same
  read_acts s i v (Some t) ready e same = resumed_acts s i t v ready e same

  -- ---- events, in this world

  module _ (s : Step) (agrees : Agrees w) (ready : (t : ℕ) → IsReady (opening_scene w s t)) where
    -- the line that ends a program
    collected_acts : (c : ℤ) (k : Link) (g : Programming) (t : Text) → at w.links c ≡ Some k → Acts (collected (opening_scene w s foreground_ticks) c k g t).0
    collected_acts c k g t e = go (same_text t (codes "."))
      where
        u : Scene
        u = opening_scene w s foreground_ticks

        write : (n : ℕ) → Allows w k.person (program_verb g.object n) → (p : Parsed)
            → Acts (written (with_link (opening_scene w s foreground_ticks) c (record k { programming = None })) c g.object n p).0
        write n allowed (program body) =
            inr (inr (k.person, g.object, n, body, (typing w c k g.object n agrees e allowed, (allowed, (same_verbs (λ r. true) w w c (record k { programming = None }) g.object n (λ v. record v { program = body })).0))))
        write n allowed (faulty f) = inl (refl, refl, refl)

        lines : (n : ℕ) → Allows w k.person (program_verb g.object n) → (ts : Option (List Text))
            → Acts (ends_with (with_link (opening_scene w s foreground_ticks) c (record k { programming = None })) c g.object n ts).0
        lines n allowed None = inl (refl, refl, refl)
        lines n allowed (Some ts) = write n allowed (parsed_lines ts)

        at_place : (m : Option ℕ) → Acts (ends_at (with_link (opening_scene w s foreground_ticks) c (record k { programming = None })) c g (programmable_at w k.person g.object m)).0
        at_place None = inl (refl, refl, refl)
        at_place (Some n) = by (may w k.person (program_verb g.object n)) refl
          where
            by : (b : Bool) → may w k.person (program_verb g.object n) ≡ b
                → Acts (ends_at (with_link (opening_scene w s foreground_ticks) c (record k { programming = None })) c g (if b then Some n else None)).0
            by true allowed = lines n allowed g.lines
            by false allowed = inl (refl, refl, refl)

        go : (b : Bool) → Acts (if b then ends (opening_scene w s foreground_ticks) c k g else goes_on (opening_scene w s foreground_ticks) c k g t).0
        go true = at_place (own_place (object_at w g.object) g.verb)
        go false = inl (refl, refl, refl)

    line_taken_acts : (c : ℤ) (k : Link) (t : Text) (g : Option Programming) → at w.links c ≡ Some k → Acts (line_taken (opening_scene w s foreground_ticks) c k t g).0
    line_taken_acts c k t (Some g) e = collected_acts c k g t e
    line_taken_acts c k t None e = go (reader_of w c)
      where
        go : (m : Option ℤ) → Acts (line_read (opening_scene w s foreground_ticks) c k t m).0
        go (Some i) = read_acts (opening_scene w s foreground_ticks) i (text t) (at w.tasks i) (ready foreground_ticks) refl (refl, refl, refl)
        go None = line_for_acts (opening_scene w s foreground_ticks) c k t (ready foreground_ticks) (refl, refl, refl)

    opened_acts : (c : ℤ) (o : Option Link) → at w.links c ≡ o → IsTrue (is_connection c) → Acts (opened_link s w c o).0
    opened_acts c (Some k) e ranged = inl (refl, refl, refl)
    opened_acts c None e ranged =
        login_acts (opening_scene (open_link w c (record { person = connection_object c; programming = None })) s foreground_ticks) c [] no_data
        (links_open (opening_scene w s foreground_ticks) c (ready foreground_ticks) ranged e) (refl, refl, refl)

    gone_acts : (u : Scene) (c who : ℤ) → IsReady u → SameObjects w u.world → Acts (gone u c who).0
    gone_acts u c who fit same = go (int_eq who (connection_object c))
      where
        told : (f : Option Sought) → Acts (told_gone u who f).0
        told None = inl same
        told (Some f) = system_acts u who (codes "user_disconnected") [] (item (object who) no_data) f fit same

        go : (b : Bool) → Acts (if b then nothing_runs u else told_gone u who (on_system u (codes "user_disconnected"))).0
        go true = inl same
        go false = told (on_system u (codes "user_disconnected"))

    closed_acts : (c : ℤ) (o : Option Link) → Acts (closed_link s w c o).0
    closed_acts c None = inl (refl, refl, refl)
    closed_acts c (Some k) =
        gone_acts (opening_scene (close_link w c) s foreground_ticks) c k.person (links_close (opening_scene w s foreground_ticks) c (ready foreground_ticks)) (closing w c).0

    line_acts : (c : ℤ) (t : Text) (o : Option Link) → at w.links c ≡ o → Acts (line_on s w c t o).0
    line_acts c t None e = inl (refl, refl, refl)
    line_acts c t (Some k) e = line_taken_acts c k t k.programming e

    ready_acts : (i : ℤ) (o : Option Task) → at w.tasks i ≡ o → Acts (ready_at s w i o).0
    ready_acts i None e = inl (refl, refl, refl)
    ready_acts i (Some t) e = go (is_due s.moment t.waiting)
      where
        go : (d : Bool) → Acts (ready_run s w i t d).0
        go false = inl (refl, refl, refl)
        go true = resumed_acts (opening_scene w s queued_ticks) i t (object system) (ready queued_ticks) e (refl, refl, refl)

    event_acts : (e : Event) → IsTrue (event_in_range e) → Acts (event_of w s e).0
    event_acts (step.open_link c) ranged = opened_acts c (at w.links c) refl ranged
    event_acts (step.close_link c) ranged = closed_acts c (at w.links c)
    event_acts (line_of c t) ranged = line_acts c t (at w.links c) refl
    event_acts (ready_task i) ranged = ready_acts i (at w.tasks i) refl

-- ---- the law

-- the next number aside it is the same world
from_numbered : (w u : World) (n : ℕ) → SameObjects (numbered n w) u ⊎ (RunsATask (numbered n w) u ⊎ TypesAProgram (numbered n w) u) → SameObjects w u ⊎ (RunsATask w u ⊎ TypesAProgram w u)
unfolding may verb_changed
from_numbered w u n (inl a) = inl a
from_numbered w u n (inr (inl a)) = inr (inl a)
from_numbered w u n (inr (inr (who, o, m, body, (a, (b, c))))) = inr (inr (who, o, m, body, (a, (may_same who o m b, same_twice (verb_changed w o m (λ x. record x { program = body })) (verb_changed (numbered n w) o m (λ x. record x { program = body })) u (numbered_verbs o m body) c))))
  where
    may_same : (who o : ℤ) (m : ℕ) → Allows (numbered n w) who (program_verb o m) → Allows w who (program_verb o m)
    may_same who o m k = k

    numbered_verbs : (o : ℤ) (m : ℕ) (body : Program)
        → SameObjects (verb_changed w o m (λ x. record x { program = body })) (verb_changed (numbered n w) o m (λ x. record x { program = body }))
    numbered_verbs o m body = go (object_at w o)
      where
        go : (l : Option Object)
            → SameObjects (Rattle.spec_world.specs.Families.change_at w o (λ x. record x { verbs = Rattle.spec_world.specs.Members.with_verb x.verbs m (λ v. record v { program = body }) }) l)
            (Rattle.spec_world.specs.Families.change_at (numbered n w) o (λ x. record x { verbs = Rattle.spec_world.specs.Members.with_verb x.verbs m (λ v. record v { program = body }) }) l)
        go None = (refl, refl, refl)
        go (Some x) = (refl, refl, refl)

pub steps_act : StepsAct
unfolding play1
steps_act w s h range = go w.ending
  where
    agrees : Agrees (numbered s.number w)
    agrees = (opens_ready (λ r. true) w w s 0 h range).agrees.world

    go : (b : Bool)
        → (let u : World = (if b then (numbered s.number w, idle_with ended) else event (numbered s.number w) s).0 in SameObjects w u ⊎ (RunsATask w u ⊎ TypesAProgram w u))
    go true = inl (refl, refl, refl)
    go false =
        from_numbered w (event (numbered s.number w) s).0 s.number (event_acts (numbered s.number w) s agrees (λ t. opens_ready (λ r. true) w w s t h range) s.event (second_holds _ (event_in_range s.event) range))
