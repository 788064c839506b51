-- Rows of tests: all of them pass, or none does.
use Rattle.std.specs.Prelude.{◌≡◌, List, map, Bool, true, false}

abbrev pub AllPass : List Bool → Type 0
AllPass tests = tests ≡ map (λ b. true) tests

abbrev pub NonePasses : List Bool → Type 0
NonePasses tests = tests ≡ map (λ b. false) tests
