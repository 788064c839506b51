-- Steps and lists of steps of a world of values lead to a world of values.
use Rattle.std.proofs.Common.{◌≡◌, ◌∙◌, ◌⊎◌, inl, inr, ap, map, not, ◌≤◌, ◌<◌, ◌+◌, ◌^◌, ℕ, zero, suc, max, ℤ, pos, negsuc, int_le, nat_le, nat_lt, ◌==◌, ◌&&◌, Bool, true, false, List, [], ◌∷◌, ◌++◌, length, length-append, Option, Some, None, IsTrue, refl, sym, subst, if◌then◌else◌, codes, arith, leb-true}
use Rattle.std.specs.Prelude.{FitsSigned, nat_abs, neg_ℤ, ◌-ℤ◌}
use Rattle.std.specs.Int.{w32}
use Rattle.std.proofs.lemmas.Int.{ints}
use Rattle.std.specs.Ordering.{int_eq}
use Rattle.std.specs.List.{list_all}
use Rattle.spec_value.specs.Datum.{Datum, object, text, list, Data, no_data, item, of_list, Text, same_text, is_text, weight, data_weight}
use Rattle.spec_value.specs.Answer.{is_allowed}
use Rattle.spec_value.specs.Table.{at}
use Rattle.spec_value.proofs.Entries.{first_holds, second_holds, both_hold}
use Rattle.spec_program.specs.Tree.{Program}
use Rattle.spec_program.specs.ReadPrograms.{Parsed, program, faulty, parsed_lines, joined_lines}
use Rattle.spec_program.specs.Construct.{Construct, of_expr, of_target, of_default, of_statement, of_program, Piece}
use Rattle.spec_program.specs.Place.{Linked, is_call}
use Rattle.spec_world.specs.World.{World, Object, Link, Programming, Call, Start, Entry, frame_entry, native_entry, Task, Waiting, forked, timed, idle, reading_on, object_at}
use Rattle.spec_world.specs.WellFormed.{passes, on_object, lists, is_connection, is_moment, waiting_fits, fork_fits, at_beginning, FramesStand, TaskStands}
use Rattle.spec_world.specs.Agreeing as agreeing
use Rattle.spec_world.specs.Agreeing.{Agrees}
use Rattle.spec_value.proofs.Same.{same_integer, integer_itself}
use Rattle.spec_world.proofs.Trees.{either, first_of}
use Rattle.spec_world.proofs.WorldsKept.{tasks_left, next_raised, link_put, link_closed_keeps, person_found}
use Rattle.spec_moo.specs.Worlds.{SceneAgrees, IsUnderWay}
use Rattle.spec_world.specs.Links.{connection_object, connection_of, reader_of, open_link, close_link}
use Rattle.spec_world.specs.Naming.{location_of, name_object}
use Rattle.spec_world.specs.VerbsSought.{Sought, Named}
use Rattle.spec_world.specs.CommandLines as line
use Rattle.spec_world.specs.CommandLines.{Parts, Command, nothing_said, programming, calls_verb, calls_huh, not_understood, command_said}
use Rattle.spec_moo.specs.Scene.{Scene, in_world, has_ids, next_id, id_taken, enqueued}
use Rattle.spec_moo.specs.Linking.{link_closed}
use Rattle.spec_moo.specs.Pending.{hand, Pending, Stop, done, raised, out_of_ticks, waiting, killed, going_on}
use Rattle.spec_moo.specs.Segment.{segment}
use Rattle.spec_moo.specs.Standing.{LooksAt}
use Rattle.spec_moo.specs.Natives.Properties.{as_texts}
use Rattle.spec_world.specs.Step as step
use Rattle.spec_world.specs.Step.{Event, line_of, ready_task, Step, event_in_range, in_range}
use Rattle.spec_world.specs.Outcome.{ended}
use Rattle.spec_moo.specs.Steps.Outcomes.{opening_scene, idle_with}
use Rattle.spec_moo.specs.Steps.Running.{Ran, waiting_task, put_by, after_stop, run, told_on, system_call, unnamed, system_task, system, on_system, begun, beginning_of, begun_again, gone_on}
use Rattle.spec_moo.specs.Steps.Programming.{with_link, programmable, begins, opens, requested, fits_still, with_line, written, ends_with, ends_at, ends, goes_on, collected}
use Rattle.spec_moo.specs.Steps.Events as events
use Rattle.spec_moo.specs.Steps.Events.{foreground_ticks, queued_ticks, words_value, user_task, greeted, logged_in, may_log_in, login_value, login_with, login, opened_link, nothing_runs, command_call, command_start, command_run, player_line, resumed, with_own_task, line_for, line_read, line_taken, line_on, told_gone, gone, closed_link, is_due, ready_run, ready_at, event_of, event}
use Rattle.spec_moo.specs.Steps.{numbered, play1, play}
use Rattle.spec_moo.proofs.StepWorlds.{steps_keep}
use Rattle.spec_values_kept.specs.Values.{InRange, IsPrinted, IsKept, Each, IfThere}
use Rattle.spec_values_kept.specs.WorldValues.{IsNumber, ProgramHolds, CallHolds, StartHolds, FrameHolds, EntriesHold, WaitingHolds, LinesHold, ProgrammingHolds, LinkHolds, WorldHolds}
use Rattle.spec_values_kept.specs.UnderWay.{SceneHolds, Holds, StopHolds}
use Rattle.spec_values_kept.specs.Whole.{StepsHold, ListsHold}
use Rattle.spec_values_kept.proofs.Numbers.{fits_range, below_in_range, small_number}
use Rattle.spec_values_kept.proofs.ValuesGiven.{onto_data}
use Rattle.spec_values_kept.proofs.Tables.{each_more}
use Rattle.spec_values_kept.proofs.WorldChanges.{place_in_range, SoughtHolds, verb_sought, verb_changed_holds, task_put, task_there, task_gone, link_put_holds, link_there, link_gone}
use Rattle.spec_values_kept.proofs.BuiltinsHold.{closed_scene, id_in_range, read_holds}
use Rattle.spec_values_kept.proofs.TurnsHold.{starting_holds}
use Rattle.spec_values_kept.proofs.SegmentsHold.{segments_hold}
use Rattle.spec_values_kept.proofs.LinesPrinted.{words_are_values, listed_words, PartsHold, NamedHolds, named_in_range, RequestHolds, CommandHolds, command_holds}

-- ---- a task under way, to its end

told_scene : (s : Scene) (o : Option ℤ) (ts : List Text) → SceneHolds s → SceneHolds (told_on s o ts)
told_scene s None ts h = h
told_scene s (Some c) ts h = h

stop_holds : (player : ℤ) (s : Scene) (why : Stop) → InRange player → SceneHolds s → StopHolds why → SceneHolds (after_stop player s why)
stop_holds player s (waiting why es) i h k = go s.task (((h.1).1).1).1
  where
    go : (o : Option ℤ) → IfThere InRange o → SceneHolds (put_by s o (waiting_task player why es))
    go None j = h
    go (Some n) j = (task_put s.world n (waiting_task player why es) j (i, k) h.0, h.1)
stop_holds player s (done v) i h k = told_scene s (connection_of s.world player) [] h
stop_holds player s (raised f) i h k = told_scene s (connection_of s.world player) _ h
stop_holds player s (out_of_ticks ts) i h k = told_scene s (connection_of s.world player) _ h
stop_holds player s killed i h k = told_scene s (connection_of s.world player) [] h

run_holds : (k : ℕ) (s : Scene) (p : Pending) → SceneHolds s → SceneAgrees k s → IsUnderWay p → Holds p → SceneHolds (run s p).scene × StopHolds (run s p).stop
run_holds k s p w a u h =
    let e = segments_hold k s.ticks_left s p (((w.1).1).1).0 a u w h in
    (stop_holds p.player (segment s.ticks_left s p).scene (segment s.ticks_left s p).stop h.0 e.0 e.1, e.1)

-- ---- a verb that begins

frame_begins : (player : ℤ) (c : Call) (word : Text) (s : Start) (args : Data) (body : Program) → InRange player → CallHolds c → IsPrinted word → StartHolds s → IsKept (list args)
    → ProgramHolds body → FrameHolds 0 (begun player c word s args body).frame
frame_begins player c word s args body i h j k l fits = (h, (k, (fits, (starting_holds player c word s args i h j k l, tt))))

begun_holds : (k : ℕ) (t : Scene) (player : ℤ) (c : Call) (word : Text) (s : Start) (args : Data) (body : Program) → SceneHolds t → SceneAgrees k t → InRange player → CallHolds c
    → IsPrinted word → StartHolds s → IsKept (list args) → ProgramHolds body
    → SceneHolds (run t (begun player c word s args body)).scene × StopHolds (run t (begun player c word s args body)).stop
begun_holds n t player c word s args body w a i h j k l fits =
    run_holds n t (begun player c word s args body) w a ((refl, tt), (refl, (omega arith, refl))) (i, (tt, (frame_begins player c word s args body i h j k l fits, tt)))

unnamed_holds : (argstr : Text) → IsPrinted argstr → StartHolds (unnamed argstr)
unnamed_holds argstr h = (h, (refl, (refl, (refl, (refl, (refl, tt))))))

system_call_holds : (who : ℤ) (word : Text) (f : Sought) → InRange who → IsPrinted word → SoughtHolds f → CallHolds (system_call who word f)
system_call_holds who word f i j k = (refl, (i, (k.0, (((k.1).1).0, j))))

program_of : (f : Sought) → SoughtHolds f → ProgramHolds (f.verb).program
program_of f k = (((k.1).1).1).1

system_sought : (s : Scene) (word : Text) → SceneHolds s → IfThere SoughtHolds (on_system s word)
system_sought s word h = verb_sought s.world system word h.0

system_runs : (k : ℕ) (s : Scene) (who : ℤ) (word argstr : Text) (args : Data) (f : Sought) → SceneHolds s → SceneAgrees k s → InRange who → IsPrinted word → IsPrinted argstr
    → IsKept (list args) → SoughtHolds f → SceneHolds (run s (system_task who word argstr args f)).scene × StopHolds (run s (system_task who word argstr args f)).stop
system_runs n s who word argstr args f h a i j k l fits =
    begun_holds n s who (system_call who word f) word (unnamed argstr) args (f.verb).program h a i (system_call_holds who word f i j fits) j (unnamed_holds argstr k) l (program_of f fits)

-- ---- a task that goes on

abbrev WaitStands : Task → Waiting → Type 0
WaitStands t (forked m) = IsTrue (fork_fits t.entries)
WaitStands t why = FramesStand t.entries × agreeing.EntriesHold t.entries

abbrev Standing : World → Type 0
Standing w = (i : ℤ) (t : Task) → at w.tasks i ≡ Some t → WaitStands t t.waiting

agrees_standing : (w : World) → Agrees w → Standing w
agrees_standing w h i t e = go t.waiting (h.queue.task_waits i t e) (h.queue.task_places i t e)
  where
    held : agreeing.EntriesHold t.entries
    held = h.queue.task_entries i t e

    go : (why : Waiting) → IsTrue (waiting_fits w t why) → TaskStands t why → WaitStands t why
    go (forked m) a b = second_holds (is_moment m) _ a
    go (timed m v) a b = (b, held)
    go idle a b = (b, held)
    go (reading_on c) a b = (b, held)

abbrev GoesOn : Option Pending → Type 0
GoesOn o = IfThere (λ p. IsUnderWay p × Holds p) o

call_hands : (r c : Construct) (v : Datum) (ps : List Piece) → IsTrue (is_call c) → Linked c ps r → LooksAt r ps (hand v)
call_hands r (of_expr e) v ps is h = (e, h)
call_hands r (of_target t) v ps is h = cc
call_hands r (of_default x e) v ps is h = cc
call_hands r (of_statement t) v ps is h = cc
call_hands r (of_program q) v ps is h = cc

handed_on : (player : ℤ) (v : Datum) (es : List Entry) → InRange player → IsKept v → FramesStand es × agreeing.EntriesHold es → EntriesHold es → GoesOn (going_on player (hand v) es)
handed_on player v [] i j h k = tt
handed_on player v (frame_entry g ∷ es) i j h k = (((call_hands (of_program g.program) ((h.0).0).0 v g.pieces ((h.0).0).1 ((h.0).0).2, (h.0).1), h.1), (i, (j, k)))
handed_on player v (native_entry n ∷ es) i j h k = tt

fork_begins : (t : Task) (es : List Entry) → InRange t.player → IsTrue (fork_fits es) → EntriesHold es → GoesOn (begun_again (record t { entries = es }) (beginning_of es))
fork_begins t [] i h k = cc
fork_begins t (frame_entry f ∷ []) i h k =
    (((subst (λ ps. Linked (of_program f.program) ps (of_program f.program)) (sym (empty f.pieces h)) refl, tt), (refl, (omega arith, refl))), (i, (tt, k)))
  where
    empty : (ps : List Piece) → IsTrue (at_beginning ps) → ps ≡ []
    empty [] i = refl
    empty (p ∷ ps) i = cc
fork_begins t (frame_entry f ∷ e ∷ es) i h k = cc
fork_begins t (native_entry n ∷ es) i h k = cc

goes_on_holding : (t : Task) (why : Waiting) (v : Datum) → InRange t.player → WaitingHolds why → IsKept v → WaitStands t why → EntriesHold t.entries → GoesOn (gone_on t why v)
goes_on_holding t (forked m) v i j l h k = fork_begins t t.entries i h k
goes_on_holding t (timed m u) v i j l h k = handed_on t.player u t.entries i j.1 h k
goes_on_holding t idle v i j l h k = handed_on t.player v t.entries i l h k
goes_on_holding t (reading_on c) v i j l h k = handed_on t.player v t.entries i l h k

resumed_holds : (n : ℕ) (s : Scene) (o : Option Pending) → SceneHolds s → SceneAgrees n s → GoesOn o → WorldHolds (resumed s o).0
resumed_holds n s None h a k = h.0
resumed_holds n s (Some p) h a k = ((run_holds n s p h a k.0 k.1).0).0

own_task : (s : Scene) (i : ℤ) → InRange i → SceneHolds s → SceneHolds (with_own_task s i)
own_task s i j h = (task_gone s.world i h.0, ((h.1).0, (((h.1).1).0, ((((h.1).1).1).0, j))))

own_task_agrees : (k : ℕ) (s : Scene) (i : ℤ) (t : Task) → at s.world.tasks i ≡ Some t → SceneAgrees k s → SceneAgrees k (with_own_task s i)
own_task_agrees k s i t e h =
    record {
      world = tasks_left s.world (λ (m : ℤ × Task). not (int_eq i m.0)) h.world;
      number = h.number;
      before = h.before;
      moment = h.moment;
      ids = h.ids;
      own = h.world.queue.task_ids i t e;
      next = h.next;
    }

-- ---- login

one_object : (o : ℤ) → InRange o → IsKept (list (item (object o) no_data))
one_object o i = onto_data (object o) no_data i refl

greeted_holds : (s : Scene) (who : ℤ) (f : Option Sought) → InRange who → SceneHolds s → IfThere SoughtHolds f → SceneHolds (greeted s who f)
greeted_holds s who None i h k = h
greeted_holds s who (Some f) i h k = go (has_ids s) refl
  where
    go : (b : Bool) → has_ids s ≡ b → SceneHolds (if b then enqueued (id_taken s) (next_id s) (user_task s who f) else s)
    go false e = h
    go true e = (
      task_put s.world (next_id s) (user_task s who f) (id_in_range s h e)
          (i, (((h.1).1).0, (frame_begins who (system_call who (codes "user_connected") f) (codes "user_connected") (unnamed []) (item (object who) no_data) (f.verb).program i (system_call_holds who (codes "user_connected") f i refl k) refl (unnamed_holds [] refl) (one_object who i) (program_of f k), tt))) h.0,
      h.1,
    )

logged_in_holds : (s : Scene) (c who : ℤ) → InRange c → InRange who → SceneHolds s → SceneHolds (logged_in s c who)
logged_in_holds s c who i j h =
    let t : Scene = link_closed s who in
    let u : Scene = told_on (in_world t (open_link t.world c (record { person = who; programming = None }))) (Some c) (codes "*** Connected ***" ∷ []) in
    let k = closed_scene s who h in
    let l : SceneHolds u = (link_put_holds t.world c (record { person = who; programming = None }) i (j, tt) k.0, k.1) in
    greeted_holds u who (on_system u (codes "user_connected")) j l (system_sought u (codes "user_connected") l)

login_value_holds : (s : Scene) (c : ℤ) (why : Stop) → InRange c → SceneHolds s → StopHolds why → SceneHolds (login_value s c why)
login_value_holds s c (done (object who)) i h k = go (may_log_in s c who)
  where
    go : (b : Bool) → SceneHolds (if b then logged_in s c who else s)
    go false = h
    go true = logged_in_holds s c who i k h
login_value_holds s c why i h k = h

connection_in_range : (c : ℤ) → IsTrue (is_connection c) → InRange c
connection_in_range c h =
    let l : int_le (pos 1) c ≡ true = first_holds (int_le (pos 1) c) (int_le c (pos 999999)) h in
    let m : int_le c (pos 999999) ≡ true = second_holds (int_le (pos 1) c) (int_le c (pos 999999)) h in
    let f : FitsSigned w32 c = omega (arith, ints, l, m) in fits_range c f

unlogged_in_range : (c : ℤ) → IsTrue (is_connection c) → InRange (connection_object c)
unlogged_in_range c h =
    let l : int_le (pos 1) c ≡ true = first_holds (int_le (pos 1) c) (int_le c (pos 999999)) h in
    let m : int_le c (pos 999999) ≡ true = second_holds (int_le (pos 1) c) (int_le c (pos 999999)) h in
    let f : FitsSigned w32 (connection_object c) = omega (arith, ints, l, m) in fits_range (connection_object c) f

login_holds : (n : ℕ) (s : Scene) (c : ℤ) (argstr : Text) (args : Data) → IsTrue (is_connection c) → IsPrinted argstr → IsKept (list args) → SceneHolds s → SceneAgrees n s
    → WorldHolds (login s c argstr args).0
login_holds n s c argstr args i j k h a = go (on_system s (codes "do_login_command")) (system_sought s (codes "do_login_command") h)
  where
    go : (o : Option Sought) → IfThere SoughtHolds o → WorldHolds (login_with s c argstr args o).0
    go None l = h.0
    go (Some f) l =
        let r : Ran = run s (system_task (connection_object c) (codes "do_login_command") argstr args f) in
        let e = system_runs n s (connection_object c) (codes "do_login_command") argstr args f h a (unlogged_in_range c i) refl j k l in
        (login_value_holds r.scene c r.stop (connection_in_range c i) e.0 e.1).0

-- ---- `.program`

requested_holds : (s : Scene) (c who : ℤ) (r : line.Request) → InRange c → InRange who → SceneHolds s → RequestHolds r → WorldHolds (requested s c who r).0
requested_holds s c who line.other_form i j h k = h.0
requested_holds s c who (line.program_verb t v) i j h k = go (name_object s.world who t) (named_in_range s.world who t j h.0) (object_at s.world (name_object s.world who t))
  where
    named : (o : ℤ) (n : Option ℕ) → InRange o → WorldHolds (begins s c who o v n).0
    named o None l = h.0
    named o (Some n) l = link_put_holds s.world c (record { person = who; programming = Some (record { object = o; verb = v; lines = Some [] }) }) i (j, (l, (k.1, (tt, refl)))) h.0

    go : (o : ℤ) → InRange o → (m : Option Object) → WorldHolds (opens s c who o v m).0
    go o l None = h.0
    go o l (Some x) = named o (programmable s.world who o v) l

still_held : (ts : List Text) → Each IsPrinted ts → IfThere (λ us. Each IsPrinted us × LinesHold us) (fits_still ts)
still_held ts h = go (is_allowed (list (of_list (as_texts ts)))) refl
  where
    go : (b : Bool) → is_allowed (list (of_list (as_texts ts))) ≡ b → IfThere (λ us. Each IsPrinted us × LinesHold us) (if b then Some ts else None)
    go true e = (h, e)
    go false e = tt

line_kept : (o : Option (List Text)) (t : Text) → IsPrinted t → IfThere (λ us. Each IsPrinted us × LinesHold us) o → IfThere (λ us. Each IsPrinted us × LinesHold us) (with_line o t)
line_kept None t i h = tt
line_kept (Some ts) t i h = still_held (ts ++ t ∷ []) (each_more IsPrinted ts t h.0 i)

lines_length : (ts : List Text) → length (joined_lines ts) ≤ data_weight (of_list (as_texts ts))
lines_length [] = omega arith
lines_length (t ∷ ts) =
    let l : length (joined_lines ts) ≤ data_weight (of_list (as_texts ts)) = lines_length ts in
    let k : length (t ++ 10 ∷ joined_lines ts) ≡ length t + length (10 ∷ joined_lines ts) = length-append t (10 ∷ joined_lines ts) in
    omega (arith, l, k)

lines_short : (ts : List Text) → LinesHold ts → length (joined_lines ts) ≤ 65536
lines_short ts h =
    let m : weight (list (of_list (as_texts ts))) ≤ 65536 = leb-true (weight (list (of_list (as_texts ts)))) 65536 h in
    let l : length (joined_lines ts) ≤ data_weight (of_list (as_texts ts)) = lines_length ts in omega (arith, l, m)

collected_holds : (s : Scene) (c : ℤ) (k : Link) (g : Programming) (t : Text) → InRange c → LinkHolds k → ProgrammingHolds g → IsPrinted t → SceneHolds s → WorldHolds (collected s c k g t).0
collected_holds s c k g t i j p l h = go (same_text t (codes "."))
  where
    ready : WorldHolds (with_link s c (record k { programming = None })).world
    ready = link_put_holds s.world c (record k { programming = None }) i (j.0, tt) h.0

    write : (n : ℕ) (ts : List Text) (r : Parsed) → LinesHold ts → parsed_lines ts ≡ r → WorldHolds (written (with_link s c (record k { programming = None })) c g.object n r).0
    write n ts (program q) m e =
        verb_changed_holds (with_link s c (record k { programming = None })).world g.object n (λ v. record v { program = q })
        (λ v x. (x.0, ((x.1).0, (((x.1).1).0, read_holds (joined_lines ts) q (lines_short ts m) e)))) ready
    write n ts (faulty f) m e = ready

    lines : (n : ℕ) (ts : Option (List Text)) → IfThere (λ us. Each IsPrinted us × LinesHold us) ts → WorldHolds (ends_with (with_link s c (record k { programming = None })) c g.object n ts).0
    lines n None m = ready
    lines n (Some ts) m = write n ts (parsed_lines ts) m.1 refl

    at_verb : (n : Option ℕ) → WorldHolds (ends_at (with_link s c (record k { programming = None })) c g n).0
    at_verb None = ready
    at_verb (Some n) = lines n g.lines (p.1).1

    go : (b : Bool) → WorldHolds (if b then ends s c k g else goes_on s c k g t).0
    go true = at_verb (programmable s.world k.person g.object g.verb)
    go false = link_put_holds s.world c (record k { programming = Some (record g { lines = with_line g.lines t }) }) i (j.0, (p.0, ((p.1).0, line_kept g.lines t l (p.1).1))) h.0

-- ---- commands

start_holds : (p : Parts) (n : Named) → PartsHold p → NamedHolds n → StartHolds (command_start p n)
start_holds p n h k = (((h.1).1).0, (k.0, ((((h.1).1).1).0, (((((h.1).1).1).1).0, (k.1, (((((h.1).1).1).1).1, tt))))))

said_holds : (u : ℕ) (s : Scene) (c who : ℤ) (m : Command) → InRange c → InRange who → SceneHolds s → SceneAgrees u s → CommandHolds m → WorldHolds (command_run s c who m).0
said_holds u s c who nothing_said i j h a k = h.0
said_holds u s c who (programming r) i j h a k = requested_holds s c who r i j h k
said_holds u s c who (calls_verb p n m) i j h a k =
    let f = ((k.1).1).1 in
    ((begun_holds u s who (command_call who m.this p.verb m.sought) p.verb (command_start p n) (of_list (as_texts p.args)) (m.sought).verb.program h a j
    ((((k.1).1).0), (j, (f.0, (((f.1).1).0, (k.0).0)))) (k.0).0 (start_holds p n k.0 (k.1).0) (listed_words p.args ((k.0).1).0) (program_of m.sought f)).0).0
said_holds u s c who (calls_huh p n f) i j h a k =
    let g = (k.1).1 in
    ((begun_holds u s who (command_call who (location_of (object_at s.world who)) (codes "huh") f) p.verb (command_start p n) (of_list (as_texts p.args)) (f.verb).program h a j
    (place_in_range s.world who h.0, (j, (g.0, (((g.1).1).0, refl)))) (k.0).0 (start_holds p n k.0 (k.1).0) (listed_words p.args ((k.0).1).0) (program_of f g)).0).0
said_holds u s c who not_understood i j h a k = h.0

-- ---- lines

line_for_holds : (n : ℕ) (s : Scene) (c : ℤ) (k : Link) (t : Text) → IsTrue (is_connection c) → LinkHolds k → IsPrinted t → length t ≤ 4096 → SceneHolds s → SceneAgrees n s
    → WorldHolds (line_for s c k t).0
line_for_holds n s c k t i j l m h a = go (int_eq k.person (connection_object c))
  where
    go : (b : Bool) → WorldHolds (if b then login s c t (words_value t) else player_line s c k.person t).0
    go true = login_holds n s c t (words_value t) i l (words_are_values t l m) h a
    go false = said_holds n s c k.person (command_said s.world k.person t) (connection_in_range c i) j.0 h a (command_holds s.world k.person t j.0 l m h.0)

read_by_holds : (n : ℕ) (s : Scene) (i : ℤ) (v : Datum) (m : Option Task) → at s.world.tasks i ≡ m → IsKept v → SceneHolds s → SceneAgrees n s → Standing s.world
    → WorldHolds (events.read_by s i v m).0
read_by_holds n s i v None e l h a k = h.0
read_by_holds n s i v (Some t) e l h a k =
    let j = task_there s.world i t h.0 e in
    resumed_holds n (with_own_task s i) (gone_on t t.waiting v) (own_task s i j.0 h) (own_task_agrees n s i t e a)
    (goes_on_holding t t.waiting v (j.1).0 ((j.1).1).0 l (k i t e) ((j.1).1).1)

line_taken_holds : (n : ℕ) (s : Scene) (c : ℤ) (k : Link) (t : Text) (g : Option Programming) → IsTrue (is_connection c) → LinkHolds k → IfThere ProgrammingHolds g → IsPrinted t
    → length t ≤ 4096 → SceneHolds s → SceneAgrees n s → Standing s.world → WorldHolds (line_taken s c k t g).0
line_taken_holds n s c k t (Some g) i j p l m h a st = collected_holds s c k g t (connection_in_range c i) j p l h
line_taken_holds n s c k t None i j p l m h a st = go (reader_of s.world c)
  where
    go : (r : Option ℤ) → WorldHolds (line_read s c k t r).0
    go (Some i) = read_by_holds n s i (text t) (at s.world.tasks i) refl l h a st
    go None = line_for_holds n s c k t i j l m h a

-- ---- events

record Opens (n : ℕ) (w : World) (s : Step) : Type 0 where
  holds : WorldHolds w
  small : IsTrue (nat_le s.number 33554431)
  moment : IsNumber s.moment
  agrees : Agrees w
  number : 1 ≤ s.number
  before : suc s.number ≤ w.next
  in_time : IsTrue (is_moment s.moment)
  next : w.next ≡ n

opened_scene : (n : ℕ) (w u : World) (s : Step) (ticks : ℕ) → Opens n w s → WorldHolds u → IsNumber ticks → SceneHolds (opening_scene u s ticks)
opened_scene n w u s ticks o k i = (k, (o.small, (o.moment, (i, tt))))

opened_agrees : (n : ℕ) (w u : World) (s : Step) (ticks : ℕ) → Opens n w s → Agrees u → u.next ≡ w.next → SceneAgrees n (opening_scene u s ticks)
opened_agrees n w u s ticks o a e =
    let before : suc s.number ≤ w.next = o.before in
    record { world = a; number = o.number; before = subst (λ m. suc s.number ≤ m) (sym e) before; moment = o.in_time; ids = omega arith; own = tt; next = e ∙ o.next }

-- nobody has the object of a connection that is not open
numbers_apart : (m n : ℕ) → connection_object (pos m) ≡ connection_object (pos n) → pos m ≡ pos n
numbers_apart zero zero e = refl
numbers_apart zero (suc n) e = let h : 3 ≡ nat_abs (connection_object (pos (suc n))) = ap nat_abs e in ap pos (omega (arith, h))
numbers_apart (suc m) zero e = let h : nat_abs (connection_object (pos (suc m))) ≡ 3 = ap nat_abs e in ap pos (omega (arith, h))
numbers_apart (suc m) (suc n) e = let h : nat_abs (connection_object (pos (suc m))) ≡ nat_abs (connection_object (pos (suc n))) = ap nat_abs e in ap pos (omega (arith, h))

one_connection : (m n : ℤ) → IsTrue (is_connection m) → IsTrue (is_connection n) → connection_object m ≡ connection_object n → m ≡ n
one_connection (pos m) (pos n) a b e = numbers_apart m n e
one_connection (negsuc m) n a b e = absurd (cc (a))
one_connection (pos m) (negsuc n) a b e = absurd (cc (b))

no_object : (m : ℤ) → IsTrue (is_connection m) → IsTrue (int_le (pos 0) (connection_object m)) → ⊥
no_object (pos zero) a e = cc
no_object (pos (suc m)) a e = cc
no_object (negsuc m) a e = absurd (cc (a))

nobodys : (w : World) (c : ℤ) → Agrees w → at w.links c ≡ None → IsTrue (is_connection c) → lists (map (λ e. (e.1).person) w.links) (connection_object c) ≡ false
nobodys w c h none ranged = go (lists (map (λ e. (e.1).person) w.links) (connection_object c)) refl
  where
    player : (m : Option Object) (o : ℤ) → object_at w o ≡ m → IsTrue (passes m (λ x. x.header.is_player)) → IsTrue (int_le (pos 0) o)
    player None o i k = cc
    player (Some x) o i k = first_holds (int_le (pos 0) o) _ (h.objects.numbers o x i)

    by : (d : ℤ) (k : Link) → at w.links d ≡ Some k → k.person ≡ connection_object c → IsTrue (is_connection d)
        → IsTrue (int_eq k.person (connection_object d)) ⊎ IsTrue (on_object w k.person (λ x. x.header.is_player)) → ⊥
    by d k there same fits (inl m) =
        let equal : c ≡ d = one_connection c d ranged fits (sym same ∙ same_integer k.person (connection_object d) m) in
        let clash : None ≡ Some k = sym none ∙ ap (at w.links) equal ∙ there in absurd (cc (clash))
    by d k there same fits (inr m) = no_object c ranged (subst (λ z. IsTrue (int_le (pos 0) z)) same (player (object_at w k.person) k.person refl m))

    go : (b : Bool) → lists (map (λ e. (e.1).person) w.links) (connection_object c) ≡ b → lists (map (λ e. (e.1).person) w.links) (connection_object c) ≡ false
    go false e = e
    go true e =
        let f = person_found w.links (connection_object c) h.links.links_in_order e in
        let fits = h.links.links f.0 f.1.0 f.1.1 in
        absurd (by f.0 f.1.0 f.1.1 f.1.2 (first_holds (is_connection f.0) _ fits) (either (int_eq f.1.0.person (connection_object f.0)) _ (second_holds (is_connection f.0) _ fits)))

opened_link_agrees : (w : World) (c : ℤ) → Agrees w → at w.links c ≡ None → IsTrue (is_connection c) → Agrees (open_link w c (record { person = connection_object c; programming = None }))
opened_link_agrees w c h none ranged =
    link_put w c (record { person = connection_object c; programming = None }) h
    (both_hold (is_connection c) _ ranged (first_of (int_eq (connection_object c) (neg_ℤ (pos 3) -ℤ c)) _ (integer_itself (connection_object c)))) (inl (nobodys w c h none ranged))

opened_holds : (n : ℕ) (s : Step) (w : World) (c : ℤ) (o : Option Link) → at w.links c ≡ o → IsTrue (is_connection c) → Opens n w s → WorldHolds (opened_link s w c o).0
opened_holds n s w c (Some k) e i h = h.holds
opened_holds n s w c None e i h =
    let u : World = open_link w c (record { person = connection_object c; programming = None }) in
    login_holds n (opening_scene u s foreground_ticks) c [] no_data i refl refl
    (opened_scene n w u s foreground_ticks h (link_put_holds w c (record { person = connection_object c; programming = None }) (connection_in_range c i) (unlogged_in_range c i, tt) h.holds) refl)
    (opened_agrees n w u s foreground_ticks h (opened_link_agrees w c h.agrees e i) refl)

gone_holds : (n : ℕ) (s : Scene) (c who : ℤ) → InRange who → SceneHolds s → SceneAgrees n s → WorldHolds (gone s c who).0
gone_holds n s c who i h a = go (int_eq who (connection_object c))
  where
    told : (f : Option Sought) → IfThere SoughtHolds f → WorldHolds (told_gone s who f).0
    told None k = h.0
    told (Some f) k = ((system_runs n s who (codes "user_disconnected") [] (item (object who) no_data) f h a i refl refl (one_object who i) k).0).0

    go : (b : Bool) → WorldHolds (if b then nothing_runs s else told_gone s who (on_system s (codes "user_disconnected"))).0
    go true = h.0
    go false = told (on_system s (codes "user_disconnected")) (system_sought s (codes "user_disconnected") h)

closed_next : (w : World) (c : ℤ) → (close_link w c).next ≡ w.next
unfolding close_link
closed_next w c = refl

closed_holds : (n : ℕ) (s : Step) (w : World) (c : ℤ) (o : Option Link) → at w.links c ≡ o → Opens n w s → WorldHolds (closed_link s w c o).0
closed_holds n s w c None e h = h.holds
closed_holds n s w c (Some k) e h =
    gone_holds n (opening_scene (close_link w c) s foreground_ticks) c k.person ((link_there w c k h.holds e).1).0
    (opened_scene n w (close_link w c) s foreground_ticks h (link_gone w c h.holds) refl) (opened_agrees n w (close_link w c) s foreground_ticks h (link_closed_keeps w c h.agrees) (closed_next w c))

line_on_holds : (n : ℕ) (s : Step) (w : World) (c : ℤ) (t : Text) (o : Option Link) → at w.links c ≡ o → IsTrue (is_connection c) → IsPrinted t → length t ≤ 4096 → Opens n w s
    → Standing w → WorldHolds (line_on s w c t o).0
line_on_holds n s w c t None e i l m h st = h.holds
line_on_holds n s w c t (Some k) e i l m h st =
    let j = (link_there w c k h.holds e).1 in
    line_taken_holds n (opening_scene w s foreground_ticks) c k t k.programming i j j.1 l m (opened_scene n w w s foreground_ticks h h.holds refl)
    (opened_agrees n w w s foreground_ticks h h.agrees refl) st

ready_holds : (n : ℕ) (s : Step) (w : World) (i : ℤ) (o : Option Task) → at w.tasks i ≡ o → Opens n w s → Standing w → WorldHolds (ready_at s w i o).0
ready_holds n s w i None e h st = h.holds
ready_holds n s w i (Some t) e h st = go (is_due s.moment t.waiting)
  where
    go : (d : Bool) → WorldHolds (ready_run s w i t d).0
    go false = h.holds
    go true =
        let j = task_there w i t h.holds e in
        resumed_holds n (with_own_task (opening_scene w s queued_ticks) i) (gone_on t t.waiting (object system))
        (own_task (opening_scene w s queued_ticks) i j.0 (opened_scene n w w s queued_ticks h h.holds refl))
        (own_task_agrees n (opening_scene w s queued_ticks) i t e (opened_agrees n w w s queued_ticks h h.agrees refl))
        (goes_on_holding t t.waiting (object system) (j.1).0 ((j.1).1).0 refl (st i t e) ((j.1).1).1)

event_holds : (n : ℕ) (w : World) (s : Step) (e : Event) → IsTrue (event_in_range e) → Opens n w s → Standing w → WorldHolds (event_of w s e).0
event_holds n w s (step.open_link c) r h st = opened_holds n s w c (at w.links c) refl r h
event_holds n w s (step.close_link c) r h st = closed_holds n s w c (at w.links c) refl h
event_holds n w s (line_of c t) r h st =
    let fits = second_holds (is_connection c) (nat_le (length t) 4096 && is_text t) r in
    line_on_holds n s w c t (at w.links c) refl (first_holds (is_connection c) _ r) (second_holds (nat_le (length t) 4096) (is_text t) fits)
    (leb-true (length t) 4096 (first_holds (nat_le (length t) 4096) (is_text t) fits)) h st
event_holds n w s (ready_task i) r h st = ready_holds n s w i (at w.tasks i) refl h st

-- ---- steps and lists

pub steps_hold : StepsHold
unfolding play1
steps_hold w s a h r = go w.ending
  where
    before_event : IsTrue (nat_le 1 s.number && nat_le s.number 33554431 && is_moment s.moment && (length s.key == 32) && list_all (λ b. nat_lt b 256) s.key)
    before_event = first_holds _ (event_in_range s.event) r

    with_moment : IsTrue (nat_le 1 s.number && nat_le s.number 33554431 && is_moment s.moment)
    with_moment = first_holds _ (length s.key == 32) (first_holds _ (list_all (λ b. nat_lt b 256) s.key) before_event)

    in_moment : IsNumber s.moment
    in_moment = let l : s.moment ≤ 2147483647 = leb-true s.moment 2147483647 (second_holds _ (is_moment s.moment) with_moment) in below_in_range s.moment (omega (arith, l))

    small : IsTrue (nat_le s.number 33554431)
    small = second_holds (nat_le 1 s.number) _ (first_holds _ (is_moment s.moment) with_moment)

    next_number : IsNumber (max (suc s.number) w.next)
    next_number =
        let l : s.number ≤ 33554431 = leb-true s.number 33554431 small in let m : w.next < 2 ^ 31 = small_number w.next ((((h.1).1).1).0) in
        below_in_range (max (suc s.number) w.next) (omega (arith, l, m))

    raised_next : WorldHolds (numbered s.number w)
    raised_next = (h.0, ((h.1).0, (((h.1).1).0, (next_number, (((h.1).1).1).1))))

    limit : w.next ≤ 33554432
    limit = leb-true w.next 33554432 (second_holds (nat_le 1 w.next) _ a.queue.next_in_range)

    last : s.number ≤ 33554431
    last = leb-true s.number 33554431 small

    agrees_then : Agrees (numbered s.number w)
    agrees_then = next_raised w (max (suc s.number) w.next) (omega arith) (omega (arith, last, limit)) a

    opens : Opens (max (suc s.number) w.next) (numbered s.number w) s
    opens =
        record {
          holds = raised_next;
          small = small;
          moment = in_moment;
          agrees = agrees_then;
          number = leb-true 1 s.number (first_holds (nat_le 1 s.number) _ (first_holds _ (is_moment s.moment) with_moment));
          before = omega arith;
          in_time = second_holds _ (is_moment s.moment) with_moment;
          next = refl;
        }

    go : (b : Bool) → WorldHolds (if b then (numbered s.number w, idle_with ended) else event (numbered s.number w) s).0
    go true = raised_next
    go false = event_holds (max (suc s.number) w.next) (numbered s.number w) s s.event (second_holds _ (event_in_range s.event) r) opens (agrees_standing (numbered s.number w) agrees_then)

pub lists_hold : ListsHold
unfolding play
lists_hold w [] a h r = h
lists_hold w (s ∷ ss) a h r =
    lists_hold (play1 w s).0 ss (steps_keep w s a (first_holds (in_range s) _ r)) (steps_hold w s a h (first_holds (in_range s) _ r)) (second_holds (in_range s) _ r)
