-- Tasks that wait, as machines keep them.
use Rattle.std.specs.Prelude.{◌≡◌, ℕ, ℤ, List, [], ◌∷◌, Option, Some, None}
use Rattle.spec_world.specs.World.{Frame, Entry, frame_entry, Waiting, forked, Task}
use Rattle.spec_world.specs.WellFormed.{FramesStand}
use Rattle.moo_code.specs.Machine.{Kept, Outer, verb, native, entries}
use Rattle.moo_code.specs.Rebuilding.{entries_of}
use Rattle.moo_code.specs.Stands.{AllWait}

-- ---- where its verbs stand

-- one verb, at the beginning of its program
abbrev pub BeginsAlone : List Outer → Type 0
BeginsAlone (verb k ∷ []) = (k.place ≡ 0) × (k.operands ≡ [])
BeginsAlone ks = ⊥

-- a verb at a call, as each that waits for it
pub record WaitsAtCall (k : Kept) (ks : List Outer) : Type 0 where
  pub frame : Frame
  pub entries : List Entry
  pub waiting : AllWait (frame_entry frame ∷ entries) (verb k ∷ ks)
  pub standing : FramesStand (frame_entry frame ∷ entries)

abbrev pub AllAtCall : List Outer → Type 0
AllAtCall [] = ⊥
AllAtCall (verb k ∷ ks) = WaitsAtCall k ks
AllAtCall (native n ∷ ks) = ⊥

-- what was forked has not begun
abbrev pub IsKept : Waiting → List Outer → Type 0
IsKept (forked m) ks = BeginsAlone ks
IsKept why ks = AllAtCall ks

-- a task that ran waits so, and not to be begun
abbrev pub HasStopped : Waiting → List Outer → Type 0
HasStopped (forked m) ks = ⊥
HasStopped why ks = AllAtCall ks

-- ---- for what it stands

abbrev pub those : Option (List Entry) → List Entry
those None = []
those (Some es) = es

abbrev pub entries_for : Waiting → List Outer → List Entry
entries_for (forked m) ks = entries ks
entries_for why ks = those (entries_of ks)

abbrev pub task_of : ℤ → Waiting → List Outer → Task
task_of player why ks = record { player = player; waiting = why; entries = entries_for why ks }

-- a verb at the beginning of its program
abbrev pub forked_task : ℤ → ℕ → Kept → Task
forked_task player due k =
    record {
      player = player;
      waiting = forked due;
      entries = frame_entry (record { call = k.call; start = k.start; program = k.program; variables = k.variables; pieces = [] }) ∷ [];
    }
