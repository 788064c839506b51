-- What the pieces of a verb hold that waits at a call.
use Rattle.std.specs.Prelude.{IsTrue}
use Rattle.spec_world.specs.World.{Frame}
use Rattle.spec_world.specs.WellFormed.{StandsAtCall, pieces_fit}
use Rattle.moo_code.specs.Machine.{Kept}
use Rattle.moo_code.specs.Stands.{Waits}

-- of each frame for which a verb waits at a call, the pieces fit
abbrev pub OfCall : Kept → Type 0
OfCall k = (f : Frame) → Waits f k → StandsAtCall f → IsTrue (pieces_fit f.pieces)
