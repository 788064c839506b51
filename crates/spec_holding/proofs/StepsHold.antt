-- Steps and lists of steps keep the programs of a world, and what its waiting tasks hold.
use Rattle.std.proofs.Common.{◌≡◌, ℕ, ℤ, ◌&&◌, Bool, true, false, List, [], ◌∷◌, Option, Some, None, IsTrue, refl, sym, subst, if◌then◌else◌, codes, option_map}
use Rattle.std.specs.Ordering.{int_eq}
use Rattle.std.specs.List.{list_all}
use Rattle.spec_value.specs.Datum.{Datum, object, text, Data, no_data, item, of_list, Text, same_text}
use Rattle.spec_value.specs.Table.{at, is_named}
use Rattle.spec_value.proofs.Entries.{first_holds, second_holds, both_hold}
use Rattle.spec_program.specs.Tree.{Program}
use Rattle.spec_program.specs.ReadPrograms.{Parsed, program, faulty, parsed_lines}
use Rattle.spec_program.proofs.ParsedFits.{parsed_fits}
use Rattle.spec_program.specs.Construct.{Construct, of_expr, of_target, of_default, of_statement, of_program, Piece}
use Rattle.spec_program.specs.Place.{Linked, is_call}
use Rattle.spec_program.specs.Trees.{program_fits}
use Rattle.spec_world.specs.World.{World, Object, Link, Programming, Call, Start, Frame, Entry, frame_entry, native_entry, Task, Waiting, forked, timed, idle, reading_on, object_at}
use Rattle.spec_world.specs.WellFormed.{OfEachTask, is_moment, waiting_fits, fork_fits, at_beginning, FramesStand, TaskStands, is_variable, pieces_fit, frame_fits}
use Rattle.spec_world.specs.Agreeing.{Agrees, frame_holds, frames_hold}
use Rattle.spec_world.specs.Links.{connection_object, connection_of, reader_of, open_link, close_link}
use Rattle.spec_world.specs.Naming.{location_of, name_object}
use Rattle.spec_world.specs.VerbsSought.{Sought, Named, find_verb, find_command_verb}
use Rattle.spec_world.specs.CommandLines as line
use Rattle.spec_world.specs.CommandLines.{Parts, Meant, Command, nothing_said, programming, calls_verb, calls_huh, not_understood, meant_on, or_then, verb_meant, huh_or_not, verb_or_huh, asks_to_program, command_or_program, line_parts, named_by, command_said}
use Rattle.spec_moo.specs.Scene.{Scene, in_world, has_ids, next_id, id_taken, enqueued}
use Rattle.spec_moo.specs.Linking.{link_closed}
use Rattle.spec_moo.specs.Pending.{hand, Pending, Stop, done, raised, out_of_ticks, waiting, killed, going_on}
use Rattle.spec_moo.specs.Segment.{segment}
use Rattle.spec_moo.specs.Standing.{LooksAt, Stands}
use Rattle.spec_moo.specs.Natives.Properties.{as_texts}
use Rattle.spec_world.specs.Step as step
use Rattle.spec_world.specs.Step.{Event, line_of, ready_task, Step}
use Rattle.spec_world.specs.Outcome.{ended}
use Rattle.spec_moo.specs.Steps.Outcomes.{opening_scene, idle_with}
use Rattle.spec_moo.specs.Steps.Running.{Ran, waiting_task, put_by, after_stop, run, told_on, system_call, unnamed, system_task, system, on_system, begun, beginning_of, begun_again, gone_on}
use Rattle.spec_moo.specs.Steps.Programming.{with_link, programmable, begins, opens, requested, written, ends_with, ends_at, ends, goes_on, collected}
use Rattle.spec_moo.specs.Steps.Events as events
use Rattle.spec_moo.specs.Steps.Events.{foreground_ticks, queued_ticks, words_value, user_task, greeted, logged_in, may_log_in, login_value, login_with, login, opened_link, nothing_runs, command_call, command_start, command_run, player_line, resumed, with_own_task, line_for, line_read, line_taken, line_on, told_gone, gone, closed_link, is_due, ready_run, ready_at, event_of, event}
use Rattle.spec_moo.specs.Steps.{numbered, play1, play}
use Rattle.spec_world.specs.Step.{in_range}
use Rattle.spec_moo.proofs.OrderKept.{starts_in_order, starts_named}
use Rattle.spec_moo.proofs.StepWorlds.{steps_keep}
use Rattle.spec_holding.specs.UnderWay.{FrameHolds, EntriesFit, WorldHolds, SceneHolds, Holds, StopHolds}
use Rattle.spec_holding.specs.Whole.{StepsHold, ListsHold}
use Rattle.spec_holding.proofs.WorldsHold.{SoughtFits, first_fits, verb_fits, task_put}
use Rattle.spec_holding.proofs.ChangesHold.{tasks_left, entries_there, verb_changed_holds, link_closed_holds}
use Rattle.spec_holding.proofs.BuiltinsHold.{closed_scene}
use Rattle.spec_holding.proofs.SegmentsHold.{segments_hold}

-- ---- a task under way, to its end

told_scene : (s : Scene) (o : Option ℤ) (ts : List Text) → SceneHolds s → SceneHolds (told_on s o ts)
told_scene s None ts h = h
told_scene s (Some c) ts h = h

stop_holds : (player : ℤ) (s : Scene) (why : Stop) → SceneHolds s → StopHolds why → SceneHolds (after_stop player s why)
stop_holds player s (waiting why es) h k = go s.task
  where
    go : (o : Option ℤ) → SceneHolds (put_by s o (waiting_task player why es))
    go None = h
    go (Some i) = (h.0, task_put s.world.tasks i (waiting_task player why es) k h.1)
stop_holds player s (done v) h k = told_scene s (connection_of s.world player) [] h
stop_holds player s (raised f) h k = told_scene s (connection_of s.world player) _ h
stop_holds player s (out_of_ticks ts) h k = told_scene s (connection_of s.world player) _ h
stop_holds player s killed h k = told_scene s (connection_of s.world player) [] h

run_holds : (s : Scene) (p : Pending) → SceneHolds s → Stands p → Holds p → SceneHolds (run s p).scene
run_holds s p w k h =
    let e = segments_hold s.ticks_left s p w k h in stop_holds p.player (segment s.ticks_left s p).scene (segment s.ticks_left s p).stop e.0 e.1

-- ---- a verb that begins

frame_begins : (player : ℤ) (c : Call) (word : Text) (s : Start) (args : Data) (body : Program) → IsTrue (program_fits [] body)
    → FrameHolds (begun player c word s args body).frame
frame_begins player c word s args body fits = ((starts_in_order player c word s args, starts_named player c word s args), (refl, fits))

begun_holds : (t : Scene) (player : ℤ) (c : Call) (word : Text) (s : Start) (args : Data) (body : Program) → SceneHolds t → IsTrue (program_fits [] body)
    → SceneHolds (run t (begun player c word s args body)).scene
begun_holds t player c word s args body w fits =
    run_holds t (begun player c word s args body) w (refl, tt) (tt, (frame_begins player c word s args body fits, tt))

system_fits : (s : Scene) (word : Text) → SceneHolds s → SoughtFits (on_system s word)
system_fits s word h = verb_fits s.world system word h

system_runs : (s : Scene) (who : ℤ) (word argstr : Text) (args : Data) (f : Sought) → SceneHolds s → SoughtFits (Some f)
    → SceneHolds (run s (system_task who word argstr args f)).scene
system_runs s who word argstr args f h fits = begun_holds s who (system_call who word f) word (unnamed argstr) args (f.verb).program h fits

-- ---- a task that goes on

abbrev WaitStands : Task → Waiting → Type 0
WaitStands t (forked m) = IsTrue (fork_fits t.entries)
WaitStands t why = FramesStand t.entries

abbrev Standing : World → Type 0
Standing w = (i : ℤ) (t : Task) → at w.tasks i ≡ Some t → WaitStands t t.waiting

agrees_standing : (w : World) → Agrees w → Standing w
agrees_standing w h i t e = go t.waiting (h.queue.task_waits i t e) (h.queue.task_places i t e)
  where
    go : (why : Waiting) → IsTrue (waiting_fits w t why) → TaskStands t why → WaitStands t why
    go (forked m) a b = second_holds (is_moment m) _ a
    go (timed m v) a b = b
    go idle a b = b
    go (reading_on c) a b = b

abbrev GoesOn : Option Pending → Type 0
GoesOn None = Unit {0}
GoesOn (Some p) = Stands p × Holds p

call_hands : (r c : Construct) (v : Datum) (ps : List Piece) → IsTrue (is_call c) → Linked c ps r → LooksAt r ps (hand v)
call_hands r (of_expr e) v ps is h = (e, h)
call_hands r (of_target t) v ps is h = cc
call_hands r (of_default x e) v ps is h = cc
call_hands r (of_statement t) v ps is h = cc
call_hands r (of_program q) v ps is h = cc

handed_on : (player : ℤ) (v : Datum) (es : List Entry) → FramesStand es → EntriesFit es → GoesOn (going_on player (hand v) es)
handed_on player v [] h k = tt
handed_on player v (frame_entry g ∷ es) h k = ((call_hands (of_program g.program) (h.0).0 v g.pieces (h.0).1 (h.0).2, h.1), (tt, k))
handed_on player v (native_entry n ∷ es) h k = tt

fork_begins : (t : Task) (es : List Entry) → IsTrue (fork_fits es) → EntriesFit es → GoesOn (begun_again (record t { entries = es }) (beginning_of es))
fork_begins t [] h k = cc
fork_begins t (frame_entry f ∷ []) h k =
    ((subst (λ ps. Linked (of_program f.program) ps (of_program f.program)) (sym (empty f.pieces h)) refl, tt), (tt, k))
  where
    empty : (ps : List Piece) → IsTrue (at_beginning ps) → ps ≡ []
    empty [] i = refl
    empty (p ∷ ps) i = cc
fork_begins t (frame_entry f ∷ e ∷ es) h k = cc
fork_begins t (native_entry n ∷ es) h k = cc

goes_on_holding : (t : Task) (why : Waiting) (v : Datum) → WaitStands t why → EntriesFit t.entries → GoesOn (gone_on t why v)
goes_on_holding t (forked m) v h k = fork_begins t t.entries h k
goes_on_holding t (timed m u) v h k = handed_on t.player u t.entries h k
goes_on_holding t idle v h k = handed_on t.player v t.entries h k
goes_on_holding t (reading_on c) v h k = handed_on t.player v t.entries h k

resumed_holds : (s : Scene) (o : Option Pending) → SceneHolds s → GoesOn o → WorldHolds (resumed s o).0
resumed_holds s None h k = h
resumed_holds s (Some p) h k = run_holds s p h k.0 k.1

own_task : (s : Scene) (i : ℤ) → SceneHolds s → SceneHolds (with_own_task s i)
own_task s i h = (h.0, tasks_left _ s.world.tasks h.1)

-- ---- login

greeted_holds : (s : Scene) (who : ℤ) (f : Option Sought) → SceneHolds s → SoughtFits f → SceneHolds (greeted s who f)
greeted_holds s who None h k = h
greeted_holds s who (Some f) h k = go (has_ids s)
  where
    go : (b : Bool) → SceneHolds (if b then enqueued (id_taken s) (next_id s) (user_task s who f) else s)
    go false = h
    go true =
        (h.0, task_put s.world.tasks (next_id s) (user_task s who f) (frame_begins who (system_call who (codes "user_connected") f) (codes "user_connected") (unnamed []) (item (object who) no_data) (f.verb).program k, tt) h.1)

logged_in_holds : (s : Scene) (c who : ℤ) → SceneHolds s → SceneHolds (logged_in s c who)
logged_in_holds s c who h =
    let t : Scene = link_closed s who in
    let u : Scene = told_on (in_world t (open_link t.world c (record { person = who; programming = None }))) (Some c) (codes "*** Connected ***" ∷ []) in
    greeted_holds u who (on_system u (codes "user_connected")) (closed_scene s who h) (system_fits u (codes "user_connected") (closed_scene s who h))

login_value_holds : (s : Scene) (c : ℤ) (why : Stop) → SceneHolds s → SceneHolds (login_value s c why)
login_value_holds s c (done (object who)) h = go (may_log_in s c who)
  where
    go : (b : Bool) → SceneHolds (if b then logged_in s c who else s)
    go false = h
    go true = logged_in_holds s c who h
login_value_holds s c why h = h

login_holds : (s : Scene) (c : ℤ) (argstr : Text) (args : Data) → SceneHolds s → WorldHolds (login s c argstr args).0
login_holds s c argstr args h = go (on_system s (codes "do_login_command")) (system_fits s (codes "do_login_command") h)
  where
    go : (o : Option Sought) → SoughtFits o → WorldHolds (login_with s c argstr args o).0
    go None k = h
    go (Some f) k =
        let r : Ran = run s (system_task (connection_object c) (codes "do_login_command") argstr args f) in
        login_value_holds r.scene c r.stop (system_runs s (connection_object c) (codes "do_login_command") argstr args f h k)

-- ---- `.program`

requested_holds : (s : Scene) (c who : ℤ) (r : line.Request) → SceneHolds s → WorldHolds (requested s c who r).0
requested_holds s c who line.other_form h = h
requested_holds s c who (line.program_verb t v) h = go (name_object s.world who t) (object_at s.world (name_object s.world who t))
  where
    named : (o : ℤ) (n : Option ℕ) → WorldHolds (begins s c who o v n).0
    named o None = h
    named o (Some n) = h

    go : (o : ℤ) (m : Option Object) → WorldHolds (opens s c who o v m).0
    go o None = h
    go o (Some x) = named o (programmable s.world who o v)

collected_holds : (s : Scene) (c : ℤ) (k : Link) (g : Programming) (t : Text) → SceneHolds s → WorldHolds (collected s c k g t).0
collected_holds s c k g t h = go (same_text t (codes "."))
  where
    write : (n : ℕ) (ts : List Text) (r : Parsed) → parsed_lines ts ≡ r → WorldHolds (written (with_link s c (record k { programming = None })) c g.object n r).0
    write n ts (program p) e = verb_changed_holds (with_link s c (record k { programming = None })).world g.object n (λ v. record v { program = p }) (λ v i. parsed_fits _ p e) h
    write n ts (faulty f) e = h

    lines : (n : ℕ) (ts : Option (List Text)) → WorldHolds (ends_with (with_link s c (record k { programming = None })) c g.object n ts).0
    lines n None = h
    lines n (Some ts) = write n ts (parsed_lines ts) refl

    at_verb : (n : Option ℕ) → WorldHolds (ends_at (with_link s c (record k { programming = None })) c g n).0
    at_verb None = h
    at_verb (Some n) = lines n g.lines

    go : (b : Bool) → WorldHolds (if b then ends s c k g else goes_on s c k g t).0
    go true = at_verb (programmable s.world k.person g.object g.verb)
    go false = h

-- ---- commands

abbrev MeantFits : Option Meant → Type 0
MeantFits None = Unit {0}
MeantFits (Some m) = SoughtFits (Some m.sought)

abbrev CommandFits : Command → Type 0
CommandFits (calls_verb p n m) = SoughtFits (Some m.sought)
CommandFits (calls_huh p n f) = SoughtFits (Some f)
CommandFits c = Unit {0}

meant_fits : (w : World) (word : Text) (n : Named) (o : ℤ) → WorldHolds w → MeantFits (meant_on w word n o)
unfolding find_command_verb
meant_fits w word n o h = go (find_command_verb w o word n) (first_fits w _ _ h)
  where
    go : (f : Option Sought) → SoughtFits f → MeantFits (option_map (λ s. record { this = o; sought = s }) f)
    go None k = tt
    go (Some f) k = k

one_meant : (a b : Option Meant) → MeantFits a → MeantFits b → MeantFits (or_then a b)
one_meant None b h k = k
one_meant (Some m) b h k = h

command_fits : (w : World) (who : ℤ) (t : Text) → WorldHolds w → CommandFits (command_said w who t)
unfolding command_said
command_fits w who t h = go (line_parts t)
  where
    huh : (p : Parts) (n : Named) (f : Option Sought) → SoughtFits f → CommandFits (huh_or_not p n f)
    huh p n None k = tt
    huh p n (Some f) k = k

    verb : (p : Parts) (n : Named) (m : Option Meant) → MeantFits m → CommandFits (verb_or_huh w who p n m)
    verb p n (Some m) k = k
    verb p n None k = huh p n (find_verb w (location_of (object_at w who)) (codes "huh")) (verb_fits w (location_of (object_at w who)) (codes "huh") h)

    meant : (word : Text) (n : Named) → MeantFits (verb_meant w who word n)
    meant word n =
        one_meant _ _ (meant_fits w word n who h) (one_meant _ _ (meant_fits w word n (location_of (object_at w who)) h)
        (one_meant _ _ (meant_fits w word n n.direct h) (meant_fits w word n n.indirect h)))

    asks : (p : Parts) (b : Bool) → CommandFits (if b then programming (line.request_of p.args) else verb_or_huh w who p (named_by w who p) (verb_meant w who p.verb (named_by w who p)))
    asks p true = tt
    asks p false = verb p (named_by w who p) (verb_meant w who p.verb (named_by w who p)) (meant p.verb (named_by w who p))

    go : (o : Option Parts) → CommandFits (command_or_program w who o)
    go None = tt
    go (Some p) = asks p (asks_to_program w who p)

command_holds : (s : Scene) (c who : ℤ) (m : Command) → SceneHolds s → CommandFits m → WorldHolds (command_run s c who m).0
command_holds s c who nothing_said h k = h
command_holds s c who (programming r) h k = requested_holds s c who r h
command_holds s c who (calls_verb p n m) h k =
    begun_holds s who (command_call who m.this p.verb m.sought) p.verb (command_start p n) (of_list (as_texts p.args)) (m.sought).verb.program h k
command_holds s c who (calls_huh p n f) h k =
    begun_holds s who (command_call who (location_of (object_at s.world who)) (codes "huh") f) p.verb (command_start p n) (of_list (as_texts p.args)) (f.verb).program h k
command_holds s c who not_understood h k = h

-- ---- lines

line_for_holds : (s : Scene) (c : ℤ) (k : Link) (t : Text) → SceneHolds s → WorldHolds (line_for s c k t).0
line_for_holds s c k t h = go (int_eq k.person (connection_object c))
  where
    go : (b : Bool) → WorldHolds (if b then login s c t (words_value t) else player_line s c k.person t).0
    go true = login_holds s c t (words_value t) h
    go false = command_holds s c k.person (command_said s.world k.person t) h (command_fits s.world k.person t h)

read_holds : (s : Scene) (i : ℤ) (v : Datum) (m : Option Task) → at s.world.tasks i ≡ m → SceneHolds s → Standing s.world → WorldHolds (events.read_by s i v m).0
read_holds s i v None e h k = h
read_holds s i v (Some t) e h k =
    resumed_holds (with_own_task s i) (gone_on t t.waiting v) (own_task s i h)
    (goes_on_holding t t.waiting v (k i t e) (entries_there s.world.tasks i t h.1 e))

line_taken_holds : (s : Scene) (c : ℤ) (k : Link) (t : Text) (g : Option Programming) → SceneHolds s → Standing s.world → WorldHolds (line_taken s c k t g).0
line_taken_holds s c k t (Some g) h st = collected_holds s c k g t h
line_taken_holds s c k t None h st = go (reader_of s.world c)
  where
    go : (r : Option ℤ) → WorldHolds (line_read s c k t r).0
    go (Some i) = read_holds s i (text t) (at s.world.tasks i) refl h st
    go None = line_for_holds s c k t h

-- ---- events

opened_holds : (s : Step) (w : World) (c : ℤ) (o : Option Link) → WorldHolds w → WorldHolds (opened_link s w c o).0
opened_holds s w c (Some k) h = h
opened_holds s w c None h =
    login_holds (opening_scene (open_link w c (record { person = connection_object c; programming = None })) s foreground_ticks) c [] no_data h

gone_holds : (s : Scene) (c who : ℤ) → SceneHolds s → WorldHolds (gone s c who).0
gone_holds s c who h = go (int_eq who (connection_object c))
  where
    told : (f : Option Sought) → SoughtFits f → WorldHolds (told_gone s who f).0
    told None k = h
    told (Some f) k = system_runs s who (codes "user_disconnected") [] (item (object who) no_data) f h k

    go : (b : Bool) → WorldHolds (if b then nothing_runs s else told_gone s who (on_system s (codes "user_disconnected"))).0
    go true = h
    go false = told (on_system s (codes "user_disconnected")) (system_fits s (codes "user_disconnected") h)

closed_holds : (s : Step) (w : World) (c : ℤ) (o : Option Link) → WorldHolds w → WorldHolds (closed_link s w c o).0
closed_holds s w c None h = h
closed_holds s w c (Some k) h = gone_holds (opening_scene (close_link w c) s foreground_ticks) c k.person (link_closed_holds w c h)

line_on_holds : (s : Step) (w : World) (c : ℤ) (t : Text) (o : Option Link) → WorldHolds w → Standing w → WorldHolds (line_on s w c t o).0
line_on_holds s w c t None h st = h
line_on_holds s w c t (Some k) h st = line_taken_holds (opening_scene w s foreground_ticks) c k t k.programming h st

ready_holds : (s : Step) (w : World) (i : ℤ) (o : Option Task) → at w.tasks i ≡ o → WorldHolds w → Standing w → WorldHolds (ready_at s w i o).0
ready_holds s w i None e h st = h
ready_holds s w i (Some t) e h st = go (is_due s.moment t.waiting)
  where
    go : (d : Bool) → WorldHolds (ready_run s w i t d).0
    go false = h
    go true =
        resumed_holds (with_own_task (opening_scene w s queued_ticks) i) (gone_on t t.waiting (object system)) (own_task (opening_scene w s queued_ticks) i h)
        (goes_on_holding t t.waiting (object system) (st i t e) (entries_there w.tasks i t h.1 e))

event_holds : (w : World) (s : Step) (e : Event) → WorldHolds w → Standing w → WorldHolds (event_of w s e).0
event_holds w s (step.open_link c) h st = opened_holds s w c (at w.links c) h
event_holds w s (step.close_link c) h st = closed_holds s w c (at w.links c) h
event_holds w s (line_of c t) h st = line_on_holds s w c t (at w.links c) h st
event_holds w s (ready_task i) h st = ready_holds s w i (at w.tasks i) refl h st

-- ---- steps and lists

pub steps_hold : StepsHold
unfolding play1
steps_hold w s a h = go w.ending
  where
    go : (b : Bool) → WorldHolds (if b then (numbered s.number w, idle_with ended) else event (numbered s.number w) s).0
    go true = h
    go false = event_holds (numbered s.number w) s s.event h (agrees_standing w a)

pub lists_hold : ListsHold
unfolding play
lists_hold w [] a h r = h
lists_hold w (s ∷ ss) a h r =
    lists_hold (play1 w s).0 ss (steps_keep w s a (first_holds (in_range s) _ r)) (steps_hold w s a h) (second_holds (in_range s) _ r)

-- ---- what a waiting frame holds

frame_is_whole : (f : Frame) → FrameHolds f → IsTrue (frame_fits f)
frame_is_whole f h =
    both_hold (is_named f.variables && list_all (λ e. is_variable e.0) f.variables) (pieces_fit f.pieces) (both_hold (is_named f.variables) _ (h.0).0 (h.0).1) (h.1).0

all_frames : (es : List Entry) → EntriesFit es → IsTrue (list_all frame_holds es)
all_frames [] h = refl
all_frames (frame_entry f ∷ es) h = both_hold (frame_fits f) _ (frame_is_whole f h.0) (all_frames es h.1)
all_frames (native_entry n ∷ es) h = all_frames es h.1

pub frames_are_whole : (w : World) → WorldHolds w → OfEachTask w frames_hold
frames_are_whole w h i t e = all_frames t.entries (entries_there w.tasks i t h.1 e)
