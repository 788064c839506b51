-- The newest mark tells whether the newest frame is within a block.
use Rattle.std.proofs.Common.{◌≡◌, ℕ, List, [], ◌∷◌, refl}
use Rattle.reader_frames.specs.declared.frame.Frame.{Frame}
use Rattle.reader_frames.specs.declared.begun.Mark.{Mark}
use Rattle.reader_frames.specs.declared.begun.Mark.TheVariants as mark
use Rattle.reader_frames.specs.BegunView.{frames_in, begins_block, block_by}
use Rattle.reader_frames.specs.ListView.{first}

pub block_by_newest : (ms : List Mark) (ls : List ℕ) (gs : List Frame) → begins_block (frames_in ms ls gs) ≡ block_by (first ms) gs
block_by_newest [] ls gs = refl
block_by_newest (mark.Value b k ∷ ms) ls gs = refl
block_by_newest (mark.Steps b ∷ ms) ls gs = refl
block_by_newest (mark.Whole ∷ ms) ls gs = refl
block_by_newest (mark.Head ∷ ms) ls gs = refl
block_by_newest (mark.Condition ∷ ms) ls gs = refl
block_by_newest (mark.Item b s ∷ ms) ls gs = refl
block_by_newest (mark.Argument b s ∷ ms) ls gs = refl
block_by_newest (mark.To s ∷ ms) ls gs = refl
block_by_newest (mark.Statement ∷ ms) ls gs = refl
block_by_newest (mark.ToWord k ∷ ms) ls gs = refl
block_by_newest (mark.Parentheses ∷ ms) [] gs = refl
block_by_newest (mark.Parentheses ∷ ms) (l ∷ ls) gs = refl
block_by_newest (mark.Unary o ∷ ms) [] gs = refl
block_by_newest (mark.Unary o ∷ ms) (l ∷ ls) gs = refl
block_by_newest (mark.Caught b ∷ ms) [] gs = refl
block_by_newest (mark.Caught b ∷ ms) (l ∷ ls) gs = refl
block_by_newest (mark.Evaluated ∷ ms) [] gs = refl
block_by_newest (mark.Evaluated ∷ ms) (l ∷ ls) gs = refl
block_by_newest (mark.Braces ∷ ms) [] gs = refl
block_by_newest (mark.Braces ∷ ms) (l ∷ ls) gs = refl
block_by_newest (mark.If ∷ ms) [] gs = refl
block_by_newest (mark.If ∷ ms) (l ∷ ls) gs = refl
block_by_newest (mark.Other ∷ ms) ls [] = refl
block_by_newest (mark.Other ∷ ms) ls (g ∷ gs) = refl
