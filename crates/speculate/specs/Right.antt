-- What a guess says of a step, and when it is right.
use Rattle.std.specs.Prelude.{◌≡◌, List, refl}
use Rattle.std.specs.Coded.{Coded, code_by, coded×, coded_list}
use Rattle.spec_world.specs.World.{World}
use Rattle.spec_world.specs.Questions.{Read, Change, Agrees, apply_all}
use Rattle.spec_world.specs.Step.{Step}
use Rattle.spec_world.specs.Outcome.{Outcome}
use Rattle.spec_moo.specs.Steps.{play1}
use Rattle.spec_world.specs.StepCode.{step_code, outcome_code}
use Rattle.spec_world.specs.WorldCode.{world_code}
use Rattle.view.specs.QuestionCode.{read_code, change_code}
use Rattle.view.specs.Sound.{IsSound}

-- a step, what it read, what it is to change, and its outcome; and the world on which that was found
pub record Guessed : Type 0 where
  pub step : Step
  pub reads : List Read
  pub changes : List Change
  pub outcome : Outcome
  pub before : World

-- a world with the changes
abbrev pub after_guess : Guessed → World → World
after_guess g w = apply_all g.changes w

-- in every sound world that gives the answers that were read, the step does what the guess says
abbrev pub IsRight : Guessed → Type 0
IsRight g = (w : World) → IsSound w → Agrees w g.reads → play1 w g.step ≡ (after_guess g w, g.outcome)

abbrev pub guessed_code : Coded Guessed
guessed_code =
    code_by (Step × (List Read × (List Change × (Outcome × World))))
    (coded× step_code (coded× (coded_list read_code) (coded× (coded_list change_code) (coded× outcome_code world_code))))
    (λ g. (g.step, (g.reads, (g.changes, (g.outcome, g.before))))) (λ p. record { step = p.0; reads = p.1.0; changes = p.1.1.0; outcome = p.1.1.1.0; before = p.1.1.1.1 }) (λ _. refl)
