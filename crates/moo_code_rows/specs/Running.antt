-- Programs that a machine runs: on the scene and for the player of the programs that are tried.
use Rattle.std.specs.Prelude.{ℕ, pos, List, [], ◌∷◌}
use Rattle.spec_value.specs.Datum.{no_data}
use Rattle.spec_moo.specs.Calling.{starting}
use Rattle.spec_moo.specs.Pending.{killed, waiting}
use Rattle.spec_moo.specs.Segment.{Ended, stopped}
use Rattle.moo_code.specs.Machine.{Kept, Step, on, halts, waits, lacks_operand}
use Rattle.moo_code.specs.Runs.{ran}
use Rattle.spec_moo_rows.specs.Trying.{Written, command_call, one_word, first_scene, world_with, Came, came}

abbrev pub frame_of : Written → Kept
frame_of v =
    record {
      call = command_call v;
      start = one_word;
      program = v.program;
      variables = starting (pos 4) (command_call v) v.names one_word no_data;
      place = 0;
      operands = [];
    }

-- a run that is not at its end counts as killed
abbrev pub ended : Step → Ended
ended (halts e) = e
ended (waits s why ks t) = stopped s (waiting why []) t
ended (on s k ks t) = stopped s killed t
ended lacks_operand = stopped (first_scene (world_with []) 0) killed 0

abbrev pub started : List Written → List Written → Step
started all [] = lacks_operand
started all (v ∷ vs) = on (first_scene (world_with all) 30000) (frame_of v) [] 30000

-- in at most so many instructions
abbrev pub machine_tried : ℕ → List Written → Came
machine_tried n vs = came 30000 (ended (ran (pos 4) n (started vs vs)))
