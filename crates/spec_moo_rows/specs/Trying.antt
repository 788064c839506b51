-- Programs that are tried: as verbs of the fixture's room, behind its own, the first of them by a command of its player #4.
use Rattle.std.specs.Prelude.{ℕ, ◌-◌, ℤ, pos, List, [], ◌∷◌, ◌++◌, map, replicate, Bool, true, false, None}
use Rattle.spec_value.specs.Datum.{Datum, no_data, Text}
use Rattle.spec_program.specs.Tree.{Program}
use Rattle.spec_program.specs.Construct.{of_program}
use Rattle.spec_world.specs.World.{World, Verb, Call, Start}
use Rattle.spec_moo.specs.Scene.{Scene}
use Rattle.spec_moo.specs.Calling.{nowhere, starting}
use Rattle.spec_moo.specs.Pending.{Pending, begin, Stop, done, raised, out_of_ticks, waiting, killed}
use Rattle.spec_moo.specs.Segment.{Ended, segment}
use Rattle.spec_moo.specs.Telling.{stop_lines}
use Rattle.spec_fixture.specs.Fixture.{plain_verb, room_verbs, fixture_with}

-- `debug` is the bit d; each verb has the bit x and is for a command of one word
pub record Written : Type 0 where
  pub names : Text
  pub owner : ℤ
  pub debug : Bool
  pub program : Program

-- of the wizard #2, or of Ann #4, who is no programmer; with the bit d or without
abbrev pub wizards : Text → Program → Written
wizards names program = record { names = names; owner = pos 2; debug = true; program = program }

abbrev pub wizards_without_debug : Text → Program → Written
wizards_without_debug names program = record { names = names; owner = pos 2; debug = false; program = program }

abbrev pub anns : Text → Program → Written
anns names program = record { names = names; owner = pos 4; debug = true; program = program }

abbrev pub anns_without_debug : Text → Program → Written
anns_without_debug names program = record { names = names; owner = pos 4; debug = false; program = program }

abbrev pub written_verb : Written → Verb
written_verb v = record (plain_verb v.names v.program) { owner = v.owner; debug = v.debug }

abbrev pub world_with : List Written → World
world_with vs = fixture_with (pos 0) (room_verbs ++ map written_verb vs) 1

-- of the first step, at moment 0
abbrev pub first_scene : World → ℕ → Scene
first_scene w ticks =
    record {
      world = w;
      number = 1;
      moment = 0;
      key = replicate 32 0;
      ticks_left = ticks;
      words_used = 0;
      ids_used = 0;
      lines_kept = 0;
      task = None;
      output = [];
      queued = [];
      closed = [];
      checkpoint = false;
    }

abbrev pub one_word : Start
one_word = record { argstr = []; dobj = nowhere; dobjstr = []; prepstr = []; iobj = nowhere; iobjstr = [] }

abbrev pub command_call : Written → Call
command_call v = record { this = pos 3; caller = pos 4; definer = pos 3; programmer = v.owner; verb = v.names; debug = v.debug }

abbrev pub command : Written → Pending
command v =
    record {
      player = pos 4;
      focus = begin (of_program v.program);
      frame =
          record {
            call = command_call v;
            start = one_word;
            program = v.program;
            variables = starting (pos 4) (command_call v) v.names one_word no_data;
            pieces = [];
          };
      outer = [];
    }

abbrev pub run_from : World → ℕ → List Written → Ended
run_from w ticks [] = record { scene = first_scene w ticks; stop = killed; ticks_left = ticks }
run_from w ticks (v ∷ vs) = segment ticks (first_scene w ticks) (command v)

abbrev pub run_with : ℕ → List Written → Ended
run_with ticks vs = run_from (world_with vs) ticks vs

-- ---- what comes of it

pub data Result : Type 0 where
  value_of raised_by : Datum → Result
  ran_out suspended was_killed : Result

abbrev pub result_of : Stop → Result
result_of (done v) = value_of v
result_of (raised f) = raised_by f.code
result_of (out_of_ticks ts) = ran_out
result_of (waiting why es) = suspended
result_of killed = was_killed

pub record Came : Type 0 where
  pub result : Result
  pub ticks : ℕ
  pub told : List Text

abbrev pub came_to : Result → ℕ → List Text → Came
came_to r ticks lines = record { result = r; ticks = ticks; told = lines }

abbrev pub came : ℕ → Ended → Came
came ticks e = record { result = result_of e.stop; ticks = ticks - e.ticks_left; told = stop_lines e.stop }

-- with 30,000 ticks
abbrev pub tried : List Written → Came
tried vs = came 30000 (run_with 30000 vs)
