-- One step of the machine.
use Rattle.std.specs.Prelude.{List}
use Rattle.spec_program.specs.Tokens.{Placed}
use Rattle.spec_program.specs.ReadExpressions.{is_surely_scatter}
use Rattle.spec_program.specs.Frames as f
use Rattle.spec_program.specs.Frames.{push}
use Rattle.spec_reader.specs.Next.{Next, found, reads_expression, reads_steps, reads_operators, reads_arguments, reads_items, reads_block, reads_branches, reads_arms, sticks, State, stops}
use Rattle.spec_reader.specs.Behind.{found_by}
use Rattle.spec_reader.specs.Begins.{operand_begins, steps_unless, operators_begin, arguments_begin, item_by, block_begins, branches_begin, arms_begin}

abbrev pub step_of : Next → List Placed → State
step_of (found fs v) ts = found_by fs v ts
step_of (reads_expression b k fs) ts = operand_begins b k (push (f.value_behind b k) fs) ts
step_of (reads_steps b o fs) ts = steps_unless (is_surely_scatter o.braces) b o fs ts
step_of (reads_operators b k e fs) ts = operators_begin b k e fs ts
step_of (reads_arguments b fs) ts = arguments_begin b fs ts
step_of (reads_items b a fs) ts = item_by a.as_list b a fs ts
step_of (reads_block fs) ts = block_begins fs ts
step_of (reads_branches fs) ts = branches_begin fs ts
step_of (reads_arms fs) ts = arms_begin fs ts
step_of sticks ts = stops ts

abbrev pub step : State → State
step s = step_of s.next s.left
