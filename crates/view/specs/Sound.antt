-- Which worlds there are.
use Rattle.spec_world.specs.World.{World}
use Rattle.spec_world.specs.WellFormed.{IsWellFormed}
use Rattle.spec_holding.specs.Whole.{TextsSpell}

-- all that is known of a world: it is well formed, and texts spell the programs of its verbs and of its tasks
pub record IsSound (w : World) : Type 0 where
  pub well_formed : IsWellFormed w
  pub spelled : TextsSpell w
