-- What is looked at of one task.
use Rattle.std.specs.Prelude.{◌≡◌, ℕ, Bool, true, false, ◌&&◌, List, [], Option, Some, None, IsTrue, nat_le}
use Rattle.std.specs.List.{list_all}
use Rattle.spec_world.specs.World.{Frame, Entry, Waiting, forked}
use Rattle.spec_world.specs.WellFormed.{begins_with_frame, frames, frame_fits, entry_fits, fork_fits, is_moment}
use Rattle.moo_code.specs.Machine.{Outer, verb, native}

abbrev pub is_fork : Waiting → Bool
is_fork (forked m) = true
is_fork why = false

abbrev pub entries_fit : List Entry → Bool
entries_fit es = begins_with_frame es && nat_le (frames es) 50 && list_all entry_fits es

abbrev pub moment_fits : Option ℕ → Bool
moment_fits None = true
moment_fits (Some m) = is_moment m

-- what was forked is one frame at its beginning
abbrev pub ForkStands : Waiting → List Entry → Type 0
ForkStands (forked m) es = IsTrue (fork_fits es)
ForkStands why es = Unit {0}

-- of each frame at its beginning with the variables of a verb
abbrev pub BeginsFitting : Outer → Type 0
BeginsFitting (verb k) = (f : Frame) → f.variables ≡ k.variables → f.pieces ≡ [] → IsTrue (frame_fits f)
BeginsFitting (native n) = ⊥

abbrev pub BeginsFound : Outer → Type 0
BeginsFound (verb k) = (f : Frame) × (f.variables ≡ k.variables) × IsTrue (frame_fits f)
BeginsFound (native n) = ⊥
