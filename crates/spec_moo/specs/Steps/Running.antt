-- A task that a step runs: how it begins, or goes on, and what its end does (Programmer's Manual, "Tasks").
use Rattle.std.specs.Prelude.{ℕ, ◌-◌, ℤ, pos, List, [], ◌∷◌, ◌++◌, Option, Some, None}
use Rattle.spec_value.specs.Datum.{Datum, Data, Text}
use Rattle.spec_program.specs.Tree.{Program}
use Rattle.spec_program.specs.Construct.{of_program}
use Rattle.spec_world.specs.World.{World, Call, Start, Entry, frame_entry, native_entry, Task, Waiting, forked, timed, reading_on}
use Rattle.spec_world.specs.Links.{connection_of}
use Rattle.spec_world.specs.VerbsSought.{Sought, find_verb}
use Rattle.spec_moo.specs.Scene.{Scene, enqueued}
use Rattle.spec_moo.specs.Pending.{begin, hand, Pending, Stop, done, raised, out_of_ticks, waiting, killed, going_on}
use Rattle.spec_moo.specs.Segment.{Ended, segment}
use Rattle.spec_moo.specs.Telling.{stop_lines}
use Rattle.spec_moo.specs.Calling.{nowhere, starting}
use Rattle.spec_world.specs.Outcome as outcome
use Rattle.spec_world.specs.Outcome.{Result, Outcome, value_of, raised_by, suspended, reading, ran_out}
use Rattle.spec_moo.specs.Steps.Outcomes.{comes_to}

-- ---- what is told

abbrev pub lines_to : ℤ → List Text → List (ℤ × Text)
lines_to c [] = []
lines_to c (t ∷ ts) = (c, t) ∷ lines_to c ts

abbrev pub told_on : Scene → Option ℤ → List Text → Scene
told_on s None ts = s
told_on s (Some c) ts = record s { output = s.output ++ lines_to c ts }

-- to the link that an object has then; these lines are not counted
abbrev pub told : Scene → ℤ → List Text → Scene
told s who ts = told_on s (connection_of s.world who) ts

-- ---- a task's end

abbrev pub waiting_result : Waiting → Result
waiting_result (reading_on c) = reading
waiting_result w = suspended

abbrev pub waiting_task : ℤ → Waiting → List Entry → Task
waiting_task player why es = record { player = player; waiting = why; entries = es }

-- a task that waits is put into the queue at its id, which it has
abbrev pub put_by : Scene → Option ℤ → Task → Scene
put_by s None t = s
put_by s (Some i) t = enqueued s i t

abbrev pub stopped_as : Stop → Result
stopped_as (done v) = value_of v
stopped_as (raised f) = raised_by f.code
stopped_as (out_of_ticks ts) = ran_out
stopped_as (waiting why es) = waiting_result why
stopped_as killed = outcome.killed

abbrev pub after_stop : ℤ → Scene → Stop → Scene
after_stop player s (waiting why es) = put_by s s.task (waiting_task player why es)
after_stop player s why = told s player (stop_lines why)

-- ---- a task under way

-- the scene after a segment, how it ended, and the ticks that it took
pub record Ran : Type 0 where
  pub scene : Scene
  pub stop : Stop
  pub ticks : ℕ

abbrev pub ran : ℕ → ℤ → Ended → Ran
ran given player e = record { scene = after_stop player e.scene e.stop; stop = e.stop; ticks = given - e.ticks_left }

abbrev pub run : Scene → Pending → Ran
run s p = ran s.ticks_left p.player (segment s.ticks_left s p)

abbrev pub came_to : Ran → World × Outcome
came_to r = comes_to r.scene (stopped_as r.stop) r.ticks

-- ---- a verb from its beginning; `word` is what the variable `verb` holds

abbrev pub begun : ℤ → Call → Text → Start → Data → Program → Pending
begun player c word s args body =
    record {
      player = player;
      focus = begin (of_program body);
      frame = record { call = c; start = s; program = body; variables = starting player c word s args; pieces = [] };
      outer = [];
    }

-- what the server calls on #0: nothing is named
abbrev pub unnamed : Text → Start
unnamed argstr = record { argstr = argstr; dobj = nowhere; dobjstr = []; prepstr = []; iobj = nowhere; iobjstr = [] }

abbrev pub system : ℤ
system = pos 0

abbrev pub system_call : ℤ → Text → Sought → Call
system_call who word f =
    record { this = system; caller = who; definer = f.definer; programmer = (f.verb).owner; verb = word; debug = (f.verb).debug }

abbrev pub system_task : ℤ → Text → Text → Data → Sought → Pending
system_task who word argstr args f = begun who (system_call who word f) word (unnamed argstr) args (f.verb).program

abbrev pub on_system : Scene → Text → Option Sought
on_system s word = find_verb s.world system word

-- ---- a task that goes on

abbrev pub beginning_of : List Entry → Option Program
beginning_of [] = None
beginning_of (frame_entry f ∷ es) = Some f.program
beginning_of (native_entry n ∷ es) = None

abbrev pub begun_again : Task → Option Program → Option Pending
begun_again t None = None
begun_again t (Some body) = going_on t.player (begin (of_program body)) t.entries

-- a fork begins, and what waited has a value
abbrev pub gone_on : Task → Waiting → Datum → Option Pending
gone_on t (forked m) v = begun_again t (beginning_of t.entries)
gone_on t (timed m u) v = going_on t.player (hand u) t.entries
gone_on t why v = going_on t.player (hand v) t.entries
