-- A world with changes to come.
use Rattle.std.specs.Prelude.{List, refl}
use Rattle.std.specs.Coded.{Coded, code_by, coded×, coded_list}
use Rattle.spec_world.specs.World.{World}
use Rattle.spec_world.specs.WorldCode.{world_code}
use Rattle.spec_world.specs.Questions.{Change, apply_all}
use Rattle.view.specs.QuestionCode.{change_code}

pub record Amended : Type 0 where
  pub home : World
  pub changes : List Change

abbrev pub amended_code : Coded Amended
amended_code =
    code_by (World × List Change) (coded× world_code (coded_list change_code)) (λ a. (a.home, a.changes)) (λ p. record { home = p.0; changes = p.1 }) (λ _. refl)

-- the world with the changes
abbrev pub amended_now : Amended → World
amended_now a = apply_all a.changes a.home
