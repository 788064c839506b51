-- How the logic stores boards.
use Rattle.std.specs.Prelude.{ℕ, List, refl}
use Rattle.std.specs.Coded.{Coded, code_by, coded×, coded_list, coded_ℕ}
use Rattle.spec_world.specs.Step.{Step}
use Rattle.spec_world.specs.Outcome.{Outcome}
use Rattle.spec_world.specs.StepCode.{step_code, outcome_code}
use Rattle.world.specs.Counted.{Counted, counted_code}
use Rattle.speculate.specs.BoardState.{BoardState}
use Rattle.speculate.specs.contracts.held.Held as held
use Rattle.speculate.specs.contracts.held.Mark as mark
use Rattle.speculate.specs.declared.held.Held.{Held}
use Rattle.speculate.specs.declared.held.Mark.{Mark}

abbrev pub board_code : Coded BoardState
board_code =
    code_by (Counted × (List Step × (Counted × (List Outcome × (List Mark × (List Held × (ℕ × ℕ)))))))
    (coded× counted_code (coded× (coded_list step_code) (coded× counted_code (coded× (coded_list outcome_code) (coded× (coded_list mark.the_row.coded) (coded× (coded_list held.the_row.coded) (coded× coded_ℕ coded_ℕ)))))))
    (λ b. (b.base, (b.steps, (b.world, (b.outcomes, (b.marks, (b.held, (b.undone, b.since))))))))
    (λ p. record { base = p.0; steps = p.1.0; world = p.1.1.0; outcomes = p.1.1.1.0; marks = p.1.1.1.1.0; held = p.1.1.1.1.1.0; undone = p.1.1.1.1.1.1.0; since = p.1.1.1.1.1.1.1 }) (λ _. refl)
