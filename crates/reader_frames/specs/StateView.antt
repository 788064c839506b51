-- What is read next, as the state of the machine of the definitions.
use Rattle.std.specs.Prelude.{List}
use Rattle.spec_program.specs.Frames.{an_expression, an_operand, some_arguments_read, some_items_read, some_codes_read, a_statement, a_block, some_branches_read, some_arms_read}
use Rattle.spec_reader.specs.Next as meant
use Rattle.moo_reader.specs.Views.{found_of, operand_of, arguments_found, items_found, codes_found, allowed_of}
use Rattle.moo_reader.specs.BlockViews.{statement_found, block_found, branches_found, arms_found}
use Rattle.reader_frames.specs.declared.frame.Frame.{Frame}
use Rattle.reader_frames.specs.declared.state.Part.{Part}
use Rattle.reader_frames.specs.declared.state.Part.TheVariants as part
use Rattle.reader_frames.specs.declared.state.Next.{Next}
use Rattle.reader_frames.specs.declared.state.Next.TheVariants as next
use Rattle.reader_frames.specs.declared.state.State.{State}
use Rattle.reader_frames.specs.LeftView.{left_of}
use Rattle.reader_frames.specs.FrameViews.{all_begun}

abbrev pub part_found : Part → List Frame → meant.Next
part_found (part.Expression e) gs = meant.found (all_begun gs an_expression) (found_of e)
part_found (part.Operand o) gs = meant.found (all_begun gs an_operand) (operand_of o)
part_found (part.Arguments es) gs = meant.found (all_begun gs some_arguments_read) (arguments_found es.value)
part_found (part.Items g) gs = meant.found (all_begun gs some_items_read) (items_found g.value)
part_found (part.Codes c) gs = meant.found (all_begun gs some_codes_read) (codes_found c.value)
part_found (part.Statement s) gs = meant.found (all_begun gs a_statement) (statement_found s.value)
part_found (part.Block p) gs = meant.found (all_begun gs a_block) (block_found p.value)
part_found (part.Branches b) gs = meant.found (all_begun gs some_branches_read) (branches_found b.value)
part_found (part.Arms a) gs = meant.found (all_begun gs some_arms_read) (arms_found a.value)

abbrev pub next_of : Next → List Frame → meant.Next
next_of (next.Found p) gs = part_found p gs
next_of (next.Expression b k) gs = meant.reads_expression b k (all_begun gs an_expression)
next_of (next.Steps s) gs = meant.reads_steps s.brackets (operand_of s.operand) (all_begun gs an_operand)
next_of (next.Operators o) gs = meant.reads_operators o.brackets o.level (found_of o.left) (all_begun gs an_expression)
next_of (next.Arguments b) gs = meant.reads_arguments b (all_begun gs some_arguments_read)
next_of (next.Items b a) gs = meant.reads_items b (allowed_of a) (all_begun gs some_items_read)
next_of next.Block gs = meant.reads_block (all_begun gs a_block)
next_of next.Branches gs = meant.reads_branches (all_begun gs some_branches_read)
next_of next.Arms gs = meant.reads_arms (all_begun gs some_arms_read)
next_of next.Sticks gs = meant.sticks

abbrev pub state_of : State → meant.State
state_of s = record { next = next_of s.next s.begun.value; left = left_of s.left }
