-- What the server does with a new connection, a line, a connection that ends, and a task that is due (Programmer's Manual, "Server Commands and Database Assumptions").
use Rattle.std.specs.Prelude.{ℕ, ℤ, nat_le, Bool, true, false, ◌&&◌, [], ◌∷◌, if◌then◌else◌, Option, Some, None, codes}
use Rattle.std.specs.Ordering.{int_eq}
use Rattle.spec_value.specs.Datum.{Datum, object, text, Data, no_data, item, of_list, Text}
use Rattle.spec_value.specs.Table.{at, without}
use Rattle.spec_world.specs.World.{World, Object, Link, Programming, Call, Start, Task, Waiting, forked, timed, frame_entry, object_at}
use Rattle.spec_world.specs.Words.{words, expanded}
use Rattle.spec_world.specs.Links.{connection_object, reader_of, open_link, close_link}
use Rattle.spec_world.specs.Naming.{location_of}
use Rattle.spec_world.specs.VerbsSought.{Sought, Named}
use Rattle.spec_world.specs.CommandLines.{Parts, Command, nothing_said, programming, calls_verb, calls_huh, not_understood, command_said}
use Rattle.spec_moo.specs.Scene.{Scene, in_world, has_ids, next_id, id_taken, enqueued}
use Rattle.spec_moo.specs.Linking.{link_closed}
use Rattle.spec_moo.specs.Pending.{Pending, Stop, done}
use Rattle.spec_moo.specs.Natives.Properties.{as_texts}
use Rattle.spec_world.specs.Step as step
use Rattle.spec_world.specs.Step.{Event, line_of, ready_task, Step}
use Rattle.spec_world.specs.Outcome.{Result, Outcome, none, absent, early}
use Rattle.spec_moo.specs.Steps.Outcomes.{opening_scene, comes_to, idle_with}
use Rattle.spec_moo.specs.Steps.Running.{Ran, run, came_to, told_on, system_task, system, on_system, begun, gone_on}
use Rattle.spec_moo.specs.Steps.Programming.{says, requested, collected}

-- a foreground task has twice the ticks of a queued one
abbrev pub foreground_ticks : ℕ
foreground_ticks = 30000

abbrev pub queued_ticks : ℕ
queued_ticks = 15000

abbrev pub nothing_runs : Scene → World × Outcome
nothing_runs s = comes_to s none 0

abbrev pub words_value : Text → Data
words_value t = of_list (as_texts (words (expanded t)))

-- ---- login: a call that ends with a player gives the link to that player

abbrev pub user_task : Scene → ℤ → Sought → Task
user_task s who f =
    let p : Pending = system_task who (codes "user_connected") [] (item (object who) no_data) f in
    record { player = who; waiting = forked s.moment; entries = frame_entry p.frame ∷ [] }

-- where no id is left it is not queued
abbrev pub greeted : Scene → ℤ → Option Sought → Scene
greeted s who None = s
greeted s who (Some f) = if has_ids s then enqueued (id_taken s) (next_id s) (user_task s who f) else s

-- an older link of the player is closed
abbrev pub logged_in : Scene → ℤ → ℤ → Scene
logged_in s c who =
    let t : Scene = link_closed s who in
    let u : Scene = told_on (in_world t (open_link t.world c (record { person = who; programming = None }))) (Some c) (codes "*** Connected ***" ∷ []) in
    greeted u who (on_system u (codes "user_connected"))

abbrev pub is_player : Option Object → Bool
is_player None = false
is_player (Some x) = x.header.is_player

abbrev pub is_open_for : Option Link → ℤ → Bool
is_open_for None who = false
is_open_for (Some k) who = int_eq k.person who

-- the link is still there, and nobody's
abbrev pub may_log_in : Scene → ℤ → ℤ → Bool
may_log_in s c who = is_player (object_at s.world who) && is_open_for (at s.world.links c) (connection_object c)

abbrev pub login_value : Scene → ℤ → Stop → Scene
login_value s c (done (object who)) = if may_log_in s c who then logged_in s c who else s
login_value s c why = s

abbrev pub after_login : ℤ → Ran → World × Outcome
after_login c r = came_to (record r { scene = login_value r.scene c r.stop })

abbrev pub login_with : Scene → ℤ → Text → Data → Option Sought → World × Outcome
login_with s c argstr args None = nothing_runs s
login_with s c argstr args (Some f) = after_login c (run s (system_task (connection_object c) (codes "do_login_command") argstr args f))

abbrev pub login : Scene → ℤ → Text → Data → World × Outcome
login s c argstr args = login_with s c argstr args (on_system s (codes "do_login_command"))

-- ---- a new connection

abbrev pub opened_link : Step → World → ℤ → Option Link → World × Outcome
opened_link s w c (Some k) = (w, idle_with none)
opened_link s w c None =
    login (opening_scene (open_link w c (record { person = connection_object c; programming = None })) s foreground_ticks) c [] no_data

-- ---- a command

abbrev pub command_call : ℤ → ℤ → Text → Sought → Call
command_call who this word f =
    record { this = this; caller = who; definer = f.definer; programmer = (f.verb).owner; verb = word; debug = (f.verb).debug }

abbrev pub command_start : Parts → Named → Start
command_start p n =
    record { argstr = p.argstr; dobj = n.direct; dobjstr = p.dobjstr; prepstr = p.prepstr; iobj = n.indirect; iobjstr = p.iobjstr }

-- `huh` is called by its own name, and its variable `verb` has the word that was typed
abbrev pub command_run : Scene → ℤ → ℤ → Command → World × Outcome
command_run s c who nothing_said = nothing_runs s
command_run s c who (programming r) = requested s c who r
command_run s c who (calls_verb p n m) =
    came_to (run s (begun who (command_call who m.this p.verb m.sought) p.verb (command_start p n) (of_list (as_texts p.args)) (m.sought).verb.program))
command_run s c who (calls_huh p n f) =
    came_to (run s (begun who (command_call who (location_of (object_at s.world who)) (codes "huh") f) p.verb (command_start p n) (of_list (as_texts p.args)) (f.verb).program))
command_run s c who not_understood = says s c (codes "I couldn't understand that.")

-- a player's line is a command
abbrev pub player_line : Scene → ℤ → ℤ → Text → World × Outcome
player_line s c who t = command_run s c who (command_said s.world who t)

-- ---- a line: it is collected, read, a login or a command

abbrev pub without_task : World → ℤ → World
without_task w i = record w { tasks = without w.tasks i }

abbrev pub resumed : Scene → Option Pending → World × Outcome
resumed s None = nothing_runs s
resumed s (Some p) = came_to (run s p)

abbrev pub with_own_task : Scene → ℤ → Scene
with_own_task s i = record (in_world s (without_task s.world i)) { task = Some i }

abbrev pub read_by : Scene → ℤ → Datum → Option Task → World × Outcome
read_by s i v None = nothing_runs s
read_by s i v (Some t) = resumed (with_own_task s i) (gone_on t t.waiting v)

abbrev pub line_for : Scene → ℤ → Link → Text → World × Outcome
line_for s c k t =
    if int_eq k.person (connection_object c) then login s c t (words_value t) else player_line s c k.person t

abbrev pub line_read : Scene → ℤ → Link → Text → Option ℤ → World × Outcome
line_read s c k t (Some i) = read_by s i (text t) (at s.world.tasks i)
line_read s c k t None = line_for s c k t

abbrev pub line_taken : Scene → ℤ → Link → Text → Option Programming → World × Outcome
line_taken s c k t (Some g) = collected s c k g t
line_taken s c k t None = line_read s c k t (reader_of s.world c)

abbrev pub line_on : Step → World → ℤ → Text → Option Link → World × Outcome
line_on s w c t None = (w, idle_with none)
line_on s w c t (Some k) = line_taken (opening_scene w s foreground_ticks) c k t k.programming

-- ---- a connection that ends

abbrev pub told_gone : Scene → ℤ → Option Sought → World × Outcome
told_gone s who None = nothing_runs s
told_gone s who (Some f) = came_to (run s (system_task who (codes "user_disconnected") [] (item (object who) no_data) f))

abbrev pub gone : Scene → ℤ → ℤ → World × Outcome
gone s c who = if int_eq who (connection_object c) then nothing_runs s else told_gone s who (on_system s (codes "user_disconnected"))

abbrev pub closed_link : Step → World → ℤ → Option Link → World × Outcome
closed_link s w c None = (w, idle_with none)
closed_link s w c (Some k) = gone (opening_scene (close_link w c) s foreground_ticks) c k.person

-- ---- a task that is due

abbrev pub is_due : ℕ → Waiting → Bool
is_due moment (forked m) = nat_le m moment
is_due moment (timed m v) = nat_le m moment
is_due moment why = false

abbrev pub ready_run : Step → World → ℤ → Task → Bool → World × Outcome
ready_run s w i t false = (w, idle_with early)
ready_run s w i t true = resumed (with_own_task (opening_scene w s queued_ticks) i) (gone_on t t.waiting (object system))

abbrev pub ready_at : Step → World → ℤ → Option Task → World × Outcome
ready_at s w i None = (w, idle_with absent)
ready_at s w i (Some t) = ready_run s w i t (is_due s.moment t.waiting)

-- ---- any of them

abbrev pub event_of : World → Step → Event → World × Outcome
event_of w s (step.open_link c) = opened_link s w c (at w.links c)
event_of w s (step.close_link c) = closed_link s w c (at w.links c)
event_of w s (line_of c t) = line_on s w c t (at w.links c)
event_of w s (ready_task i) = ready_at s w i (at w.tasks i)

abbrev pub event : World → Step → World × Outcome
event w s = event_of w s s.event
