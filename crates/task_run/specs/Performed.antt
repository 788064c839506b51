-- What a step left and gave.
use Rattle.std.specs.Prelude.{◌≡◌}
use Rattle.spec_world.specs.World.{World}
use Rattle.spec_world.specs.Outcome.{Outcome}

-- this world, and this outcome
abbrev pub StepsTo : World × Outcome → World → Outcome → Type 0
StepsTo r after o = (after ≡ r.0) × (r.1 ≡ o)
