-- A world with what changes make of it.
use Rattle.std.specs.Prelude.{refl}
use Rattle.std.specs.Coded.{Coded, code_by, coded×}
use Rattle.spec_world.specs.World.{World}
use Rattle.spec_world.specs.WorldCode.{world_code}

pub record Ready : Type 0 where
  pub before : World
  pub after : World

abbrev pub ready_code : Coded Ready
ready_code = code_by (World × World) (coded× world_code world_code) (λ r. (r.before, r.after)) (λ p. record { before = p.0; after = p.1 }) (λ _. refl)
