-- What was begun, as frames: marks, and beside them the lines and the whole frames that some of them stand for, the newest first.
use Rattle.std.specs.Prelude.{ℕ, Bool, true, false, List, [], ◌∷◌, Option, Some, None}
use Rattle.reader_frames.specs.declared.frame.Frame.{Frame}
use Rattle.reader_frames.specs.declared.frame.Frame.TheVariants as frame
use Rattle.reader_frames.specs.declared.frame.ExpressionFrame.TheVariants as behind_expression
use Rattle.reader_frames.specs.declared.frame.WithinExpression.TheVariants as in_expression
use Rattle.reader_frames.specs.declared.frame.WithinOperand.TheVariants as in_operand
use Rattle.reader_frames.specs.declared.frame.WithinItems.TheVariants as in_items
use Rattle.reader_frames.specs.declared.frame.WithinStatement.TheVariants as in_statement
use Rattle.reader_frames.specs.declared.frame.OperandFrame.TheVariants as behind_operand
use Rattle.reader_frames.specs.declared.frame.ArgumentsFrame.TheVariants as behind_arguments
use Rattle.reader_frames.specs.declared.frame.ItemsFrame.TheVariants as behind_items
use Rattle.reader_frames.specs.declared.frame.BlockFrame.TheVariants as behind_block
use Rattle.reader_frames.specs.declared.frame.BranchesFrame.TheVariants as behind_branches
use Rattle.moo_reader.specs.declared.found.Allowed.{Allowed}
use Rattle.reader_frames.specs.declared.begun.Mark.{Mark}
use Rattle.reader_frames.specs.declared.begun.Mark.TheVariants as mark
use Rattle.reader_frames.specs.ListView.{first}

-- the frames behind one, by the lines and the whole frames that are left
abbrev pub Behind : Type 0
Behind = List ℕ → List Frame → List Frame

abbrev pub with_line : (ℕ → Frame) → Behind → List ℕ → List Frame → List Frame
with_line f behind [] gs = []
with_line f behind (l ∷ ls) gs = f l ∷ behind ls gs

abbrev pub whole_frame : Behind → List ℕ → List Frame → List Frame
whole_frame behind ls [] = []
whole_frame behind ls (g ∷ gs) = g ∷ behind ls gs

abbrev pub item_allowed : Bool → Allowed
item_allowed s = record { as_list = true; as_scatter = s; has_rest = false }

abbrev pub marked : Mark → Behind → List ℕ → List Frame → List Frame
marked (mark.Value b k) behind ls gs = frame.Operand (behind_operand.Value b k) ∷ behind ls gs
marked (mark.Steps b) behind ls gs = frame.Operand (behind_operand.Steps b) ∷ behind ls gs
marked mark.Whole behind ls gs = frame.Expression (behind_expression.Operand in_operand.Whole) ∷ behind ls gs
marked mark.Head behind ls gs = frame.Expression (behind_expression.Expression in_expression.Head) ∷ behind ls gs
marked mark.Condition behind ls gs = frame.Expression behind_expression.Condition ∷ behind ls gs
marked (mark.Item b s) behind ls gs = frame.Expression (behind_expression.Items (in_items.Value b (item_allowed s) false)) ∷ behind ls gs
marked (mark.Argument b s) behind ls gs = frame.Expression (behind_expression.Argument b s) ∷ behind ls gs
marked (mark.To s) behind ls gs = frame.Arguments (behind_arguments.To s) ∷ behind ls gs
marked mark.Statement behind ls gs = frame.Statement ∷ behind ls gs
marked (mark.ToWord k) behind ls gs = frame.Block (behind_block.To k) ∷ behind ls gs
marked mark.Parentheses behind ls gs = with_line (λ l. frame.Expression (behind_expression.Expression (in_expression.Parentheses l))) behind ls gs
marked (mark.Unary o) behind ls gs = with_line (λ l. frame.Expression (behind_expression.Operand (in_operand.Unary o l))) behind ls gs
marked (mark.Caught b) behind ls gs = with_line (λ l. frame.Expression (behind_expression.Operand (in_operand.Caught b l))) behind ls gs
marked mark.Evaluated behind ls gs = with_line (λ l. frame.Expression (behind_expression.Statement (in_statement.Evaluated l))) behind ls gs
marked mark.Braces behind ls gs = with_line (λ l. frame.Items (behind_items.Braces l)) behind ls gs
marked mark.If behind ls gs = with_line (λ l. frame.Branches (behind_branches.If l)) behind ls gs
marked mark.Other behind ls gs = whole_frame behind ls gs

abbrev pub frames_in : List Mark → List ℕ → List Frame → List Frame
frames_in [] ls gs = []
frames_in (m ∷ ms) ls gs = marked m (frames_in ms) ls gs

-- what is found when the newest one is taken, and what is left
abbrev pub taken_off : Option Frame → Behind → List ℕ → List Frame → List Frame
taken_off None behind ls gs = []
taken_off (Some g) behind ls gs = g ∷ behind ls gs

-- ---- whether the newest frame is within a block

abbrev pub is_block : Frame → Bool
is_block (frame.Block g) = true
is_block g = false

abbrev pub is_some_block : Option Frame → Bool
is_some_block None = false
is_some_block (Some g) = is_block g

abbrev pub begins_block : List Frame → Bool
begins_block gs = is_some_block (first gs)

-- by its mark
abbrev pub block_by : Option Mark → List Frame → Bool
block_by None gs = false
block_by (Some (mark.ToWord k)) gs = true
block_by (Some mark.Other) gs = begins_block gs
block_by (Some m) gs = false
