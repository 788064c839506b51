-- Tasks one by one.
use Rattle.std.proofs.Common.{◌≡◌, ◌≤◌, ℤ, List, [], ◌∷◌, ◌++◌, length, arith, append_assoc, length-append}
use Rattle.spec_value.specs.Datum.{Text}
use Rattle.spec_world.specs.World.{Task}
use Rattle.spec_world.specs.Checkpoint.{task_lines, each_task}

tasks_within : (es : List (ℤ × Task)) → length es ≤ length (each_task es)
tasks_within [] = omega arith
tasks_within (e ∷ es) = let later = tasks_within es in let both = length-append (task_lines e.0 e.1) (each_task es) in let some : 1 ≤ length (task_lines e.0 e.1) = omega arith in omega arith

pub tasks_counted : (es : List (ℤ × Task)) (rest : List Text) → length es ≤ length (each_task es ++ rest)
tasks_counted es rest = let within = tasks_within es in let both = length-append (each_task es) rest in omega arith

pub tasks_on : (e : ℤ × Task) (later : List (ℤ × Task)) (rest : List Text) → each_task (e ∷ later) ++ rest ≡ task_lines e.0 e.1 ++ (each_task later ++ rest)
tasks_on e later rest = append_assoc (task_lines e.0 e.1) (each_task later) rest
