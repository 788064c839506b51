-- Each step keeps what is still to be read.
use Rattle.std.proofs.Common.{ℕ, suc, ◌<◌, List, length, refl, arith}
use Rattle.spec_program.specs.Tokens.{Placed}
use Rattle.spec_program.specs.Frames.{Kind, Of, Frames, push, whole_text, means}
use Rattle.spec_program.specs.Reading.{got}
use Rattle.spec_reader.specs.Next.{Next, found, reads_expression, reads_steps, reads_operators, reads_arguments, reads_items, reads_block, reads_branches, reads_arms, sticks, next_means}
use Rattle.spec_reader.specs.Behind.{found_by}
use Rattle.spec_reader.specs.Step.{step_of}
use Rattle.spec_reader.specs.Laws.{Keeps, StepKeeps}
use Rattle.spec_reader.proofs.FoundKeeps.{behind_keeps}
use Rattle.spec_reader.proofs.OperandKeeps.{expression_keeps, steps_keep, operators_keep, some_arguments_keep}
use Rattle.spec_reader.proofs.ItemKeeps.{some_items_keep}
use Rattle.spec_reader.proofs.StatementKeeps.{block_keeps, branches_keep, arms_keep}

found_keeps : {a : Kind} (n : ℕ) (fs : Frames a) (v : Of a) (ts : List Placed) → Keeps n (means n fs (got v ts)) ts (found_by fs v ts)
found_keeps n whole_text v ts = record { means = refl; left = omega arith }
found_keeps n (push g fs) v ts = behind_keeps n g fs v ts

fewer : (n : ℕ) (ts : List Placed) → suc (length ts) < n → length ts < n
fewer n ts h = omega (arith, h)

by_next : (n : ℕ) (x : Next) (ts : List Placed) → suc (length ts) < n → Keeps n (next_means n x ts) ts (step_of x ts)
by_next n (found fs v) ts h = found_keeps n fs v ts
by_next n (reads_expression b k fs) ts h = expression_keeps n b k fs ts (fewer n ts h)
by_next n (reads_steps b o fs) ts h = steps_keep n b o fs ts (fewer n ts h)
by_next n (reads_operators b k e fs) ts h = operators_keep n b k e fs ts (fewer n ts h)
by_next n (reads_arguments b fs) ts h = some_arguments_keep n b fs ts (fewer n ts h)
by_next n (reads_items b a fs) ts h = some_items_keep n b a fs ts (fewer n ts h)
by_next n (reads_block fs) ts h = block_keeps n fs ts h
by_next n (reads_branches fs) ts h = branches_keep n fs ts h
by_next n (reads_arms fs) ts h = arms_keep n fs ts h
by_next n sticks ts h = record { means = refl; left = omega arith }

pub step_keeps : StepKeeps
step_keeps n s h = by_next n s.next s.left h
