-- A well-formed world with a program that no text spells: a `fork` that names a variable in capital letters.
use Rattle.std.specs.Prelude.{pos, neg_ℤ, replicate, List, [], ◌∷◌, true, false, Some, IsTrue, codes}
use Rattle.std.specs.List.{list_all}
use Rattle.spec_value.specs.Datum.{integer}
use Rattle.spec_program.specs.Tree.{literal, fork, Program, the_end, seq}
use Rattle.spec_world.specs.World.{World, Call, Start, Frame, frame_entry, Task, forked}
use Rattle.spec_world.specs.WellFormed.{IsWellFormed}
use Rattle.spec_world.specs.Step.{Step, ready_task}
use Rattle.spec_moo.specs.Steps.{play}
use Rattle.spec_world.specs.Step.{in_range}

abbrev pub naming : Program
naming = seq (fork (Some (codes "X")) (literal (integer (pos 0))) the_end) the_end

abbrev pub nobodys_call : Call
nobodys_call = record { this = pos 0; caller = pos 0; definer = pos 0; programmer = pos 0; verb = []; debug = true }

abbrev pub nothing_typed : Start
nothing_typed = record { argstr = []; dobj = pos 0; dobjstr = []; prepstr = []; iobj = pos 0; iobjstr = [] }

abbrev pub queued_frame : Frame
queued_frame = record { call = nobodys_call; start = nothing_typed; program = naming; variables = []; pieces = [] }

abbrev pub queued_task : Task
queued_task = record { player = pos 0; waiting = forked 0; entries = frame_entry queued_frame ∷ [] }

abbrev pub unspelled : World
unspelled = record { objects = []; tasks = (pos 1, queued_task) ∷ []; links = []; greatest = neg_ℤ (pos 1); next = 2; ending = false }

abbrev pub its_step : Step
its_step = record { number = 2; moment = 0; key = replicate 32 0; event = ready_task (pos 1) }

-- so texts have to spell the programs: without that a world need not stay well formed
abbrev pub NeedsSpelling : Type 0
NeedsSpelling = ((w : World) (ss : List Step) → IsWellFormed w → IsTrue (list_all in_range ss) → IsWellFormed (play w ss).0) → ⊥
