-- What a task that waits must be for its lines to be read.
use Rattle.std.specs.Prelude.{◌≡◌, ◌≤◌, ℤ, pos, ◌≤ℤ◌, ◌&&◌, Bool, true, false, List, [], ◌∷◌, Some, IsTrue}
use Rattle.std.specs.List.{list_all}
use Rattle.spec_value.specs.Datum.{Datum, Text, in_number_range, is_text, is_value, list, of_list}
use Rattle.spec_value.specs.Table.{at}
use Rattle.spec_program.specs.Trees.{is_tree}
use Rattle.spec_world.specs.World.{World, Frame, Native, Entry, frame_entry, native_entry, Waiting, forked, timed, idle, reading_on, Task}
use Rattle.spec_world.specs.WellFormed.{IsWellFormed, StandsAtCall, frame_fits, native_fits, begins_with_frame, frames, fork_fits}
use Rattle.spec_world.specs.Checkpoint.{start_values, values_held}
use Rattle.spec_checkpoint.specs.Holding.{call_holds, numbered_task_holds}
use Rattle.moo_code.specs.Paths.{path_of}
use Rattle.line_fields.specs.Values.{nests_no_deeper, is_readable, are_places}

-- ---- verbs and built-in functions under way

abbrev pub variable_reads : Text × Datum → Bool
variable_reads e = is_text e.0 && is_readable e.1

pub record FrameReads (f : Frame) : Type 0 where
  pub call : IsTrue (call_holds f.call)
  pub start : IsTrue (list_all is_value (start_values f.start))
  pub tree : IsTrue (is_tree f.program)
  pub variables : IsTrue (list_all variable_reads f.variables)
  pub places : IsTrue (are_places (path_of f.pieces))
  pub held : IsTrue (list_all is_readable (values_held f.pieces))
  pub fits : IsTrue (frame_fits f)

pub record NativeReads (n : Native) : Type 0 where
  pub fits : IsTrue (native_fits n.name n.stage n.arguments)
  pub arguments : IsTrue (is_readable (list (of_list n.arguments)))

-- a verb that was forked stands at its beginning, any other at a call
abbrev pub FrameStands : Bool → Frame → Type 0
FrameStands true f = f.pieces ≡ []
FrameStands false f = StandsAtCall f

abbrev pub EntryReads : Bool → Entry → Type 0
EntryReads is_fork (frame_entry f) = FrameReads f × FrameStands is_fork f
EntryReads is_fork (native_entry n) = NativeReads n

-- they stand where they may
abbrev pub OrderReads : Bool → List Entry → Type 0
OrderReads true es = IsTrue (fork_fits es)
OrderReads false es = IsTrue (begins_with_frame es) × (frames es ≤ 50)

abbrev pub AllRead : Bool → List Entry → Type 0
AllRead is_fork [] = Unit {0}
AllRead is_fork (e ∷ es) = EntryReads is_fork e × AllRead is_fork es

-- ---- tasks

abbrev pub WaitingReads : Waiting → Type 0
WaitingReads (forked due) = due ≤ 2147483647
WaitingReads (timed due v) = (due ≤ 2147483647) × IsTrue (is_readable v)
WaitingReads idle = Unit {0}
WaitingReads (reading_on c) = (pos 1 ≤ℤ c) × (c ≤ℤ pos 999999)

abbrev pub is_forked : Waiting → Bool
is_forked (forked due) = true
is_forked (timed due v) = false
is_forked idle = false
is_forked (reading_on c) = false

pub record TaskReads (i : ℤ) (t : Task) : Type 0 where
  pub least : pos 1 ≤ℤ i
  pub most : i ≤ℤ pos 2147483584
  pub player : IsTrue (in_number_range t.player)
  pub waiting : WaitingReads t.waiting
  pub entries : AllRead (is_forked t.waiting) t.entries
  pub order : OrderReads (is_forked t.waiting) t.entries

-- ---- the tasks of a well-formed world are so, where no value nests too deep

abbrev pub frame_nests : Frame → Bool
frame_nests f = list_all (λ e. nests_no_deeper e.1) f.variables && list_all nests_no_deeper (values_held f.pieces)

abbrev pub entry_nests : Entry → Bool
entry_nests (frame_entry f) = frame_nests f
entry_nests (native_entry n) = nests_no_deeper (list (of_list n.arguments))

abbrev pub waiting_nests : Waiting → Bool
waiting_nests (forked due) = true
waiting_nests (timed due v) = nests_no_deeper v
waiting_nests idle = true
waiting_nests (reading_on c) = true

abbrev pub task_nests : Task → Bool
task_nests t = waiting_nests t.waiting && list_all entry_nests t.entries

abbrev pub TasksAreRead : Type 0
TasksAreRead =
    (w : World) (i : ℤ) (t : Task) → IsWellFormed w → at w.tasks i ≡ Some t → IsTrue (numbered_task_holds (i, t)) → IsTrue (task_nests t) → TaskReads i t
