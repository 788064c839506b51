-- Slots whose values are kept.
use Rattle.std.specs.Prelude.{pos, unwrap_or}
use Rattle.spec_value.specs.Datum.{Datum, integer}
use Rattle.spec_world.specs.World.{Slot}

-- what a slot holds, and 0 for a clear one
abbrev pub filled : Slot → Datum
filled s = unwrap_or s.content (integer (pos 0))
