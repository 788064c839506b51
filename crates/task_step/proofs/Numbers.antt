-- Steps whose numbers run on, each in its range.
use Rattle.std.proofs.Common.{◌↔◌, ℕ, suc, IsTrue, List, [], ◌∷◌, ◌&&◌, ◌==◌}
use Rattle.std.specs.List.{list_all}
use Rattle.spec_value.proofs.Entries.{first_holds, second_holds, both_hold}
use Rattle.spec_world.specs.Step.{Step, in_range, runs_on, AllInRange}
use Rattle.task_step.specs.Numbers.{number_on}

number_on_to : (n : ℕ) (ss : List Step) → IsTrue (number_on n ss) → IsTrue (runs_on n ss) × AllInRange ss
number_on_to n [] h = (h, h)
number_on_to n (s ∷ ss) h =
    let number = first_holds (s.number == n) (in_range s && number_on (suc n) ss) h in
    let more = second_holds (s.number == n) (in_range s && number_on (suc n) ss) h in
    let rest = number_on_to (suc n) ss (second_holds (in_range s) (number_on (suc n) ss) more) in
    (both_hold (s.number == n) (runs_on (suc n) ss) number rest.0, both_hold (in_range s) (list_all in_range ss) (first_holds (in_range s) (number_on (suc n) ss) more) rest.1)

number_on_from : (n : ℕ) (ss : List Step) → IsTrue (runs_on n ss) → AllInRange ss → IsTrue (number_on n ss)
number_on_from n [] h k = h
number_on_from n (s ∷ ss) h k =
    let rest = number_on_from (suc n) ss (second_holds (s.number == n) (runs_on (suc n) ss) h) (second_holds (in_range s) (list_all in_range ss) k) in
    both_hold (s.number == n) (in_range s && number_on (suc n) ss) (first_holds (s.number == n) (runs_on (suc n) ss) h)
    (both_hold (in_range s) (number_on (suc n) ss) (first_holds (in_range s) (list_all in_range ss) k) rest)

pub number_on_is : (n : ℕ) (ss : List Step) → IsTrue (number_on n ss) ↔ (IsTrue (runs_on n ss) × AllInRange ss)
number_on_is n ss = (number_on_to n ss, λ h. number_on_from n ss h.0 h.1)
