-- Steps whose numbers run on, each in its range.
use Rattle.std.specs.Prelude.{ℕ, suc, List, [], ◌∷◌, Bool, true, ◌&&◌, ◌==◌}
use Rattle.spec_world.specs.Step.{Step, in_range}

abbrev pub number_on : ℕ → List Step → Bool
number_on n [] = true
number_on n (s ∷ ss) = (s.number == n) && (in_range s && number_on (suc n) ss)
