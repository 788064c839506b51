-- A world with the number of the views that were opened on it to change it.
use Rattle.std.specs.Prelude.{ℕ, refl}
use Rattle.std.specs.Coded.{Coded, code_by, coded×, coded_ℕ}
use Rattle.spec_world.specs.World as meant
use Rattle.spec_world.specs.WorldCode.{world_code}

pub record Counted : Type 0 where
  pub plain : meant.World
  pub opened : ℕ

abbrev pub counted_code : Coded Counted
counted_code = code_by (meant.World × ℕ) (coded× world_code coded_ℕ) (λ w. (w.plain, w.opened)) (λ p. record { plain = p.0; opened = p.1 }) (λ _. refl)
