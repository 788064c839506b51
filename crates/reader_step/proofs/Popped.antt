-- What was begun last, and what it stands on.
use Rattle.std.proofs.Common.{◌≡◌, List, ◌∷◌, ap, ◌∙◌}
use Rattle.spec_program.specs.Frames as f
use Rattle.spec_program.specs.Frames.{an_operand, a_statement, a_block, push}
use Rattle.reader_frames.specs.declared.frame.Frame.{Frame}
use Rattle.reader_frames.specs.declared.frame.Frame.TheVariants as frame
use Rattle.reader_frames.specs.declared.frame.OperandFrame.{OperandFrame}
use Rattle.reader_frames.specs.FrameViews.{operand_begun, all_begun}

pub popped_operand : (old new : List Frame) (x : Frame) (g : OperandFrame) → old ≡ x ∷ new → x ≡ frame.Operand g
    → all_begun old an_operand ≡ operand_begun g (all_begun new)
popped_operand old new x g h e = ap (λ gs. all_begun gs an_operand) (h ∙ ap (λ y. y ∷ new) e)

pub popped_statement : (old new : List Frame) (x : Frame) → old ≡ x ∷ new → x ≡ frame.Statement
    → all_begun old a_statement ≡ push f.block_behind (all_begun new a_block)
popped_statement old new x h e = ap (λ gs. all_begun gs a_statement) (h ∙ ap (λ y. y ∷ new) e)
