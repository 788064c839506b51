-- Tasks that gave a value.
use Rattle.std.proofs.Common.{◌≡◌}
use Rattle.spec_value.specs.Datum.{Datum}
use Rattle.spec_world.specs.World.{forked, timed, idle, reading_on}
use Rattle.spec_moo.specs.Pending.{Stop, done, raised, out_of_ticks, waiting, killed}
use Rattle.spec_moo.specs.Steps.Running.{stopped_as}
use Rattle.spec_world.specs.Outcome.{value_of}

-- a result that is a value
pub no_value_else : (why : Stop) (v : Datum) → stopped_as why ≡ value_of v → why ≡ done v
no_value_else (done u) v e = cc
no_value_else (raised f) v e = cc
no_value_else (out_of_ticks ts) v e = cc
no_value_else killed v e = cc
no_value_else (waiting (forked m) es) v e = cc
no_value_else (waiting (timed m u) es) v e = cc
no_value_else (waiting idle es) v e = cc
no_value_else (waiting (reading_on c) es) v e = cc
