-- Laws of the first faults of texts.
use Rattle.std.specs.Prelude.{◌≡◌, ◌<◌, ◌^◌, ◌++◌, length, Some, None, IsTrue}
use Rattle.spec_value.specs.Datum.{Text}
use Rattle.spec_world.specs.World.{World}
use Rattle.spec_world.specs.WellFormed.{IsWellFormed}
use Rattle.spec_world.specs.Checkpoint as fault
use Rattle.spec_world.specs.Checkpoint.{checkpoint_text}
use Rattle.spec_fixture.specs.Fixture.{fixture}
use Rattle.spec_checkpoint.specs.Holding.{world_holds}
use Rattle.spec_faults.specs.Faults.{LineFault, first_fault, IsFirstFault}
use Rattle.spec_faults.specs.Reach.{is_in_reach}

abbrev pub OneFault : Type 0
OneFault = (t : Text) (f g : LineFault) → IsFirstFault t f → IsFirstFault t g → f ≡ g

-- whatever comes behind the text, a fault stays the first, but for the want of a line end
abbrev pub FaultStays : Type 0
FaultStays = (t r : Text) (f : LineFault) → first_fault t ≡ Some f → (f.kind ≡ fault.ended → ⊥) → first_fault (t ++ r) ≡ Some f

-- a well-formed world of values, in reach of readers, whose text a machine can hold
pub record IsTold (w : World) : Type 0 where
  pub well_formed : IsWellFormed w
  pub holds : IsTrue (world_holds w)
  pub reach : IsTrue (is_in_reach w)
  pub room : length (checkpoint_text w) < 2 ^ 63

-- no line of its text has a fault
abbrev pub WorldsHaveNone : Type 0
WorldsHaveNone = (w : World) → IsTold w → first_fault (checkpoint_text w) ≡ None

-- nor is its last line told to be that of no world
abbrev pub WorldsHaveNoFault : Type 0
WorldsHaveNoFault = (w : World) (f : LineFault) → IsTold w → IsFirstFault (checkpoint_text w) f → ⊥

-- and a well-formed world of values whose text has none is in reach of readers
abbrev pub OnlyReachHasNone : Type 0
OnlyReachHasNone = (w : World) → IsWellFormed w → IsTrue (world_holds w) → length (checkpoint_text w) < 2 ^ 63 → first_fault (checkpoint_text w) ≡ None → IsTrue (is_in_reach w)

-- a text that begins a world's has no fault but that it ends
abbrev pub BeginningsEnd : Type 0
BeginningsEnd = (w : World) (t r : Text) (f : LineFault) → IsTold w → checkpoint_text w ≡ t ++ r → first_fault t ≡ Some f → f.kind ≡ fault.ended

-- the world that tests start with
abbrev pub FixtureIsTold : Type 0
FixtureIsTold = IsTold fixture
