-- What single steps of a lane did.
use Rattle.std.specs.Prelude.{ℕ, List, refl}
use Rattle.std.specs.Coded.{Coded, code_by, coded×, coded_list, coded_ℕ}
use Rattle.spec_world.specs.Step.{Step}
use Rattle.spec_world.specs.Outcome.{Outcome}
use Rattle.spec_world.specs.Questions.{Change}
use Rattle.spec_world.specs.StepCode.{step_code, outcome_code}
use Rattle.view.specs.QuestionCode.{change_code}

-- what the step at a position did
pub record Move : Type 0 where
  pub position : ℕ
  pub step : Step
  pub changes : List Change
  pub outcome : Outcome

abbrev pub move_code : Coded Move
move_code =
    code_by (ℕ × (Step × (List Change × Outcome))) (coded× coded_ℕ (coded× step_code (coded× (coded_list change_code) outcome_code)))
    (λ m. (m.position, (m.step, (m.changes, m.outcome)))) (λ p. record { position = p.0; step = p.1.0; changes = p.1.1.0; outcome = p.1.1.1 }) (λ _. refl)
