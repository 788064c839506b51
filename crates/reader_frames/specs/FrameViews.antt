-- What was begun, as the frames of the definitions.
use Rattle.std.specs.Prelude.{List, [], ◌∷◌, None, false}
use Rattle.spec_program.specs.Tree.{own_length}
use Rattle.spec_program.specs.ReadPrograms as in_programs
use Rattle.spec_program.specs.Frames as f
use Rattle.spec_program.specs.Frames.{Kind, an_expression, an_operand, some_arguments_read, some_items_read, some_codes_read, a_statement, a_block, some_branches_read, some_arms_read, Frames, push, whole_text}
use Rattle.moo_value.specs.Operators.{unary_of}
use Rattle.moo_token.specs.Meaning.{sign_meant, keyword_meant}
use Rattle.moo_tree.specs.ExpressionView.{items_of}
use Rattle.moo_reader.specs.Views.{found_of, operand_of, allowed_of, join_of, item_of, codes_found}
use Rattle.moo_reader.specs.BlockViews.{statement_found, block_found}
use Rattle.reader_frames.specs.declared.frame.Frame.{Frame}
use Rattle.reader_frames.specs.declared.frame.Frame.TheVariants as frame
use Rattle.reader_frames.specs.declared.frame.ExpressionFrame.{ExpressionFrame}
use Rattle.reader_frames.specs.declared.frame.ExpressionFrame.TheVariants as behind_expression
use Rattle.reader_frames.specs.declared.frame.WithinExpression.{WithinExpression}
use Rattle.reader_frames.specs.declared.frame.WithinExpression.TheVariants as in_expression
use Rattle.reader_frames.specs.declared.frame.WithinOperand.{WithinOperand}
use Rattle.reader_frames.specs.declared.frame.WithinOperand.TheVariants as in_operand
use Rattle.reader_frames.specs.declared.frame.WithinItems.{WithinItems}
use Rattle.reader_frames.specs.declared.frame.WithinItems.TheVariants as in_items
use Rattle.reader_frames.specs.declared.frame.WithinStatement.{WithinStatement}
use Rattle.reader_frames.specs.declared.frame.WithinStatement.TheVariants as in_statement
use Rattle.reader_frames.specs.declared.frame.Head.{Head}
use Rattle.reader_frames.specs.declared.frame.Head.TheVariants as head
use Rattle.reader_frames.specs.declared.frame.Body.{Body}
use Rattle.reader_frames.specs.declared.frame.Body.TheVariants as body
use Rattle.reader_frames.specs.declared.frame.OperandFrame.{OperandFrame}
use Rattle.reader_frames.specs.declared.frame.OperandFrame.TheVariants as behind_operand
use Rattle.reader_frames.specs.declared.frame.ArgumentsFrame.{ArgumentsFrame}
use Rattle.reader_frames.specs.declared.frame.ArgumentsFrame.TheVariants as behind_arguments
use Rattle.reader_frames.specs.declared.frame.ItemsFrame.{ItemsFrame}
use Rattle.reader_frames.specs.declared.frame.ItemsFrame.TheVariants as behind_items
use Rattle.reader_frames.specs.declared.frame.CodesFrame.{CodesFrame}
use Rattle.reader_frames.specs.declared.frame.CodesFrame.TheVariants as behind_codes
use Rattle.reader_frames.specs.declared.frame.BlockFrame.{BlockFrame}
use Rattle.reader_frames.specs.declared.frame.BlockFrame.TheVariants as behind_block
use Rattle.reader_frames.specs.declared.frame.BranchesFrame.{BranchesFrame}
use Rattle.reader_frames.specs.declared.frame.BranchesFrame.TheVariants as behind_branches
use Rattle.reader_frames.specs.declared.frame.ArmsFrame.{ArmsFrame}
use Rattle.reader_frames.specs.declared.frame.ArmsFrame.TheVariants as behind_arms

abbrev pub head_of : Head → f.Head
head_of (head.For x) = f.for_head x
head_of (head.While x) = f.while_head x
head_of (head.Fork x) = f.fork_head x

abbrev pub body_of : Body → f.Body
body_of (body.List x e) = f.list_body x (found_of e)
body_of (body.Range x a b) = f.range_body x (found_of a) (found_of b)
body_of (body.While x c) = f.while_body x (found_of c)
body_of (body.Fork x e) = f.fork_body x (found_of e)

-- ---- one frame

abbrev pub within_expression : WithinExpression → f.Frame an_expression an_expression
within_expression (in_expression.Parentheses line) = f.in_parentheses line
within_expression (in_expression.RightOf b k a j) = f.right_of b k (found_of a) (join_of j)
within_expression (in_expression.ChosenFirst b k c) = f.chosen_first b k (found_of c)
within_expression (in_expression.ChosenSecond b k c x) = f.chosen_second b k (found_of c) (found_of x)
within_expression (in_expression.AssignedTo t line ns) = f.assigned_to (record { tree = own_length; line = line; nodes = ns.value }) t.value
within_expression (in_expression.ScatteredTo line s) = f.scattered_to line (items_of s.value.items.items) s.value.nodes
within_expression in_expression.Head = f.in_head

abbrev pub within_operand : WithinOperand → f.Frame an_expression an_operand
within_operand in_operand.Whole = f.as_operand
within_operand (in_operand.Unary u line) = f.behind_sign (unary_of u) line
within_operand (in_operand.PropertyName b o) = f.property_name b (operand_of o)
within_operand (in_operand.VerbName b o) = f.verb_name b (operand_of o)
within_operand (in_operand.Index b o) = f.index_in b (operand_of o)
within_operand (in_operand.Range b o i) = f.range_in b (operand_of o) (found_of i)
within_operand (in_operand.Caught b line) = f.caught_in b line
within_operand (in_operand.Instead line e c) = f.caught_instead line (found_of e) (codes_found c.value)

abbrev pub within_items : WithinItems → f.Frame an_expression some_items_read
within_items (in_items.Value b a spliced) = f.item_expression b (allowed_of a) spliced
within_items (in_items.Default b a x) = f.item_default b (allowed_of a) x

abbrev pub within_statement : WithinStatement → f.Frame an_expression a_statement
within_statement (in_statement.Evaluated line) = f.evaluated line
within_statement (in_statement.Returned line) = f.returned line
within_statement (in_statement.HeadOf line h) = f.head_of line (head_of h.value)
within_statement (in_statement.RangeFirst line x) = f.range_first line x
within_statement (in_statement.RangeLast line x a) = f.range_last line x.value (found_of a)

-- ---- a frame on others, whatever kind these take

abbrev pub Others : Type 0
Others = (a : Kind) → Frames a

abbrev pub expression_begun : ExpressionFrame → Others → Frames an_expression
expression_begun (behind_expression.Expression g) gs = push (within_expression g) (gs an_expression)
expression_begun (behind_expression.Operand g) gs = push (within_operand g) (gs an_operand)
expression_begun (behind_expression.Argument b spliced) gs = push (f.behind_argument b spliced) (gs some_arguments_read)
expression_begun (behind_expression.Items g) gs = push (within_items g) (gs some_items_read)
expression_begun (behind_expression.Statement g) gs = push (within_statement g) (gs a_statement)
expression_begun behind_expression.Condition gs = push f.condition (gs some_branches_read)

abbrev pub operand_begun : OperandFrame → Others → Frames an_operand
operand_begun (behind_operand.Steps b) gs = push (f.steps_behind b) (gs an_operand)
operand_begun (behind_operand.Value b k) gs = push (f.value_behind b k) (gs an_expression)

abbrev pub arguments_begun : ArgumentsFrame → Others → Frames some_arguments_read
arguments_begun (behind_arguments.Behind spliced e) gs = push (f.argument_before spliced (found_of e)) (gs some_arguments_read)
arguments_begun (behind_arguments.To s) gs = push (f.to_sign (sign_meant s)) (gs some_arguments_read)
arguments_begun (behind_arguments.CallOf x line) gs = push (f.call_of x line) (gs an_operand)
arguments_begun (behind_arguments.VerbOf o v) gs = push (f.verb_arguments (found_of o) (found_of v)) (gs an_operand)
arguments_begun behind_arguments.Codes gs = push f.as_codes (gs some_codes_read)

abbrev pub items_begun : ItemsFrame → Others → Frames some_items_read
items_begun (behind_items.Behind i) gs = push (f.item_before (item_of i)) (gs some_items_read)
items_begun (behind_items.Braces line) gs = push (f.in_braces line) (gs an_operand)

abbrev pub codes_begun : CodesFrame → Others → Frames some_codes_read
codes_begun (behind_codes.Caught b line e) gs = push (f.caught_codes b line (found_of e)) (gs an_operand)
codes_begun (behind_codes.Arm x) gs = push (f.codes_of_arm x) (gs some_arms_read)

abbrev pub block_begun : BlockFrame → Others → Frames a_block
block_begun (behind_block.Behind s) gs = push (f.statement_before (statement_found s.value)) (gs a_block)
block_begun (behind_block.To k) gs = push (f.to_word (keyword_meant k)) (gs a_block)
block_begun (behind_block.Branch c) gs = push (f.block_of_branch (found_of c)) (gs some_branches_read)
block_begun behind_block.Else gs = push f.as_else (gs some_branches_read)
block_begun (behind_block.Body line b) gs = push (f.block_of_body line (body_of b.value)) (gs a_statement)
block_begun (behind_block.Tried line) gs = push (f.tried line) (gs a_statement)
block_begun (behind_block.Finally line p) gs = push (f.finally_of line (block_found p.value)) (gs a_statement)
block_begun (behind_block.Arm x c) gs = push (f.block_of_arm x (codes_found c.value)) (gs some_arms_read)

abbrev pub branches_begun : BranchesFrame → Others → Frames some_branches_read
branches_begun (behind_branches.If line) gs = push (f.branches_of line) (gs a_statement)
branches_begun (behind_branches.Behind c p) gs = push (f.branch_before (found_of c) (block_found p.value)) (gs some_branches_read)

abbrev pub arms_begun : ArmsFrame → Others → Frames some_arms_read
arms_begun (behind_arms.Try line p) gs = push (f.arms_of line (block_found p.value)) (gs a_statement)
arms_begun (behind_arms.Behind x c p) gs = push (f.arm_before x.value (codes_found c.value) (block_found p.value)) (gs some_arms_read)

-- ---- all of them

-- where what is found fits no frame, which no text leads to: frames that say nothing
abbrev pub last_statement : Frames a_statement
last_statement = push f.block_behind whole_text

abbrev pub last_operand : Frames an_operand
last_operand = push (f.value_behind false 0) (push (f.evaluated 0) last_statement)

abbrev pub last_arms : Frames some_arms_read
last_arms = push (f.arms_of 0 in_programs.no_statements) last_statement

abbrev pub misfit : Others
misfit a_block = whole_text
misfit a_statement = last_statement
misfit an_expression = push (f.evaluated 0) last_statement
misfit an_operand = last_operand
misfit some_arguments_read = push (f.call_of [] 0) last_operand
misfit some_items_read = push (f.in_braces 0) last_operand
misfit some_arms_read = last_arms
misfit some_codes_read = push (f.codes_of_arm None) last_arms
misfit some_branches_read = push (f.branches_of 0) last_statement

abbrev pub frame_begun : Frame → Others → Others
frame_begun (frame.Expression g) gs an_expression = expression_begun g gs
frame_begun (frame.Operand g) gs an_operand = operand_begun g gs
frame_begun (frame.Arguments g) gs some_arguments_read = arguments_begun g gs
frame_begun (frame.Items g) gs some_items_read = items_begun g gs
frame_begun (frame.Codes g) gs some_codes_read = codes_begun g gs
frame_begun frame.Statement gs a_statement = push f.block_behind (gs a_block)
frame_begun (frame.Block g) gs a_block = block_begun g gs
frame_begun (frame.Branches g) gs some_branches_read = branches_begun g gs
frame_begun (frame.Arms g) gs some_arms_read = arms_begun g gs
frame_begun g gs a = misfit a

-- the newest first
abbrev pub all_begun : List Frame → Others
all_begun [] = misfit
all_begun (g ∷ gs) = frame_begun g (all_begun gs)
