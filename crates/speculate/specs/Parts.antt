-- A list that is played in two parts.
use Rattle.std.specs.Prelude.{◌≡◌, List, ◌++◌}
use Rattle.spec_world.specs.World.{World}
use Rattle.spec_world.specs.Step.{Step}
use Rattle.spec_world.specs.Outcome.{Outcome}
use Rattle.spec_moo.specs.Steps.{play}

-- behind the outcomes before them stand those of the steps, which lead from the one world to the other
abbrev pub PlaysBehind : World → List Step → List Outcome → World → List Outcome → Type 0
PlaysBehind w ss before after all = (outcomes : List Outcome) × (play w ss ≡ (after, outcomes)) × (all ≡ before ++ outcomes)
