-- The newest frame and what was found tell whether the text was read whole.
use Rattle.std.proofs.Common.{◌≡◌, Bool, true, false, List, [], ◌∷◌, refl}
use Rattle.std.specs.Prelude.{not}
use Rattle.spec_program.specs.Tokens.{Placed}
use Rattle.spec_program.specs.Reading.{got, stuck}
use Rattle.spec_program.specs.ReadPrograms.{FoundBlock}
use Rattle.spec_program.specs.Frames.{Kind, an_expression, an_operand, some_arguments_read, some_items_read, some_codes_read, a_statement, a_block, some_branches_read, some_arms_read, Of, Frames, push, whole_text}
use Rattle.spec_reader.specs.Work.{is_whole, is_over}
use Rattle.spec_reader.specs.Whole.{found_whole, come_out}
use Rattle.reader_frames.specs.declared.frame.Frame.{Frame}
use Rattle.reader_frames.specs.declared.frame.Frame.TheVariants as frame
use Rattle.reader_frames.specs.declared.frame.BlockFrame.{BlockFrame}
use Rattle.reader_frames.specs.declared.frame.BlockFrame.TheVariants as behind_block
use Rattle.reader_frames.specs.declared.state.Part.{Part}
use Rattle.reader_frames.specs.declared.state.Part.TheVariants as part
use Rattle.reader_frames.specs.declared.state.Next.{Next}
use Rattle.reader_frames.specs.declared.state.Next.TheVariants as next
use Rattle.reader_frames.specs.FrameViews.{Others, block_begun, all_begun}
use Rattle.reader_frames.specs.StateView.{next_of}
use Rattle.moo_syntax.specs.Answer.{got_or_stuck}
use Rattle.reader_frames.specs.BegunView.{begins_block}
use Rattle.moo_syntax.specs.Ends.{block_in, over_by}

begun_block : (g : BlockFrame) (gs : Others) → is_whole (block_begun g gs) ≡ false
begun_block (behind_block.Behind s) gs = refl
begun_block (behind_block.To k) gs = refl
begun_block (behind_block.Branch c) gs = refl
begun_block behind_block.Else gs = refl
begun_block (behind_block.Body line b) gs = refl
begun_block (behind_block.Tried line) gs = refl
begun_block (behind_block.Finally line p) gs = refl
begun_block (behind_block.Arm x c) gs = refl

pub whole_by_frame : (gs : List Frame) → not (begins_block gs) ≡ is_whole (all_begun gs a_block)
whole_by_frame [] = refl
whole_by_frame (frame.Expression g ∷ gs) = refl
whole_by_frame (frame.Operand g ∷ gs) = refl
whole_by_frame (frame.Arguments g ∷ gs) = refl
whole_by_frame (frame.Items g ∷ gs) = refl
whole_by_frame (frame.Codes g ∷ gs) = refl
whole_by_frame (frame.Statement ∷ gs) = refl
whole_by_frame (frame.Block g ∷ gs) = let h = begun_block g (all_begun gs) in cc
whole_by_frame (frame.Branches g ∷ gs) = refl
whole_by_frame (frame.Arms g ∷ gs) = refl

-- ---- only a block is a whole text

is_block : Kind → Bool
is_block a_block = true
is_block _ = false

other_kind : {a : Kind} (fs : Frames a) → is_block a ≡ false → is_whole fs ≡ false
unfolding is_block
other_kind whole_text h = absurd (cc)
other_kind (push g fs) h = refl

part_of_text : {a : Kind} (fs : Frames a) (v : Of a) (ts : List Placed) → is_whole fs ≡ false → found_whole fs v ts ≡ stuck ts
part_of_text whole_text v ts h = absurd (cc)
part_of_text (push g fs) v ts h = refl

whole_found : (fs : Frames a_block) (p : FoundBlock) (ts : List Placed) → is_whole fs ≡ true → found_whole fs p ts ≡ got p ts
whole_found whole_text p ts h = refl
whole_found (push g fs) p ts h = absurd (cc)

other_found : {a : Kind} (fs : Frames a) (v : Of a) (ts : List Placed) → is_block a ≡ false → found_whole fs v ts ≡ stuck ts
other_found fs v ts h = part_of_text fs v ts (other_kind fs h)

-- ---- what has come out

part_whole : (p : Part) (gs : List Frame) (ts : List Placed) → is_whole (all_begun gs a_block) ≡ true
    → come_out (next_of (next.Found p) gs) ts ≡ got_or_stuck (block_in (next.Found p)) ts
unfolding is_block
part_whole (part.Expression e) gs ts h = other_found (all_begun gs an_expression) _ ts refl
part_whole (part.Operand o) gs ts h = other_found (all_begun gs an_operand) _ ts refl
part_whole (part.Arguments es) gs ts h = other_found (all_begun gs some_arguments_read) _ ts refl
part_whole (part.Items g) gs ts h = other_found (all_begun gs some_items_read) _ ts refl
part_whole (part.Codes c) gs ts h = other_found (all_begun gs some_codes_read) _ ts refl
part_whole (part.Statement s) gs ts h = other_found (all_begun gs a_statement) _ ts refl
part_whole (part.Block p) gs ts h = whole_found (all_begun gs a_block) _ ts h
part_whole (part.Branches b) gs ts h = other_found (all_begun gs some_branches_read) _ ts refl
part_whole (part.Arms a) gs ts h = other_found (all_begun gs some_arms_read) _ ts refl

pub text_whole : (n : Next) (gs : List Frame) (ts : List Placed) → is_whole (all_begun gs a_block) ≡ true
    → come_out (next_of n gs) ts ≡ got_or_stuck (block_in n) ts
text_whole (next.Found p) gs ts h = part_whole p gs ts h
text_whole (next.Expression b k) gs ts h = refl
text_whole (next.Steps o) gs ts h = refl
text_whole (next.Operators e) gs ts h = refl
text_whole (next.Arguments b) gs ts h = refl
text_whole (next.Items b a) gs ts h = refl
text_whole next.Block gs ts h = refl
text_whole next.Branches gs ts h = refl
text_whole next.Arms gs ts h = refl
text_whole next.Sticks gs ts h = refl

part_not_whole : (p : Part) (gs : List Frame) (ts : List Placed) → is_whole (all_begun gs a_block) ≡ false
    → come_out (next_of (next.Found p) gs) ts ≡ stuck ts
unfolding is_block
part_not_whole (part.Expression e) gs ts h = other_found (all_begun gs an_expression) _ ts refl
part_not_whole (part.Operand o) gs ts h = other_found (all_begun gs an_operand) _ ts refl
part_not_whole (part.Arguments es) gs ts h = other_found (all_begun gs some_arguments_read) _ ts refl
part_not_whole (part.Items g) gs ts h = other_found (all_begun gs some_items_read) _ ts refl
part_not_whole (part.Codes c) gs ts h = other_found (all_begun gs some_codes_read) _ ts refl
part_not_whole (part.Statement s) gs ts h = other_found (all_begun gs a_statement) _ ts refl
part_not_whole (part.Block p) gs ts h = part_of_text (all_begun gs a_block) _ ts h
part_not_whole (part.Branches b) gs ts h = other_found (all_begun gs some_branches_read) _ ts refl
part_not_whole (part.Arms a) gs ts h = other_found (all_begun gs some_arms_read) _ ts refl

pub text_not_whole : (n : Next) (gs : List Frame) (ts : List Placed) → is_whole (all_begun gs a_block) ≡ false → come_out (next_of n gs) ts ≡ stuck ts
text_not_whole (next.Found p) gs ts h = part_not_whole p gs ts h
text_not_whole (next.Expression b k) gs ts h = refl
text_not_whole (next.Steps o) gs ts h = refl
text_not_whole (next.Operators e) gs ts h = refl
text_not_whole (next.Arguments b) gs ts h = refl
text_not_whole (next.Items b a) gs ts h = refl
text_not_whole next.Block gs ts h = refl
text_not_whole next.Branches gs ts h = refl
text_not_whole next.Arms gs ts h = refl
text_not_whole next.Sticks gs ts h = refl

-- ---- whether it is the end

part_over : (p : Part) (gs : List Frame) → over_by (next.Found p) (is_whole (all_begun gs a_block)) ≡ is_over (next_of (next.Found p) gs)
unfolding is_block
part_over (part.Expression e) gs = let h = other_kind (all_begun gs an_expression) refl in cc
part_over (part.Operand o) gs = let h = other_kind (all_begun gs an_operand) refl in cc
part_over (part.Arguments es) gs = let h = other_kind (all_begun gs some_arguments_read) refl in cc
part_over (part.Items g) gs = let h = other_kind (all_begun gs some_items_read) refl in cc
part_over (part.Codes c) gs = let h = other_kind (all_begun gs some_codes_read) refl in cc
part_over (part.Statement s) gs = let h = other_kind (all_begun gs a_statement) refl in cc
part_over (part.Block p) gs = refl
part_over (part.Branches b) gs = let h = other_kind (all_begun gs some_branches_read) refl in cc
part_over (part.Arms a) gs = let h = other_kind (all_begun gs some_arms_read) refl in cc

pub over_is : (n : Next) (gs : List Frame) → over_by n (is_whole (all_begun gs a_block)) ≡ is_over (next_of n gs)
over_is (next.Found p) gs = part_over p gs
over_is (next.Expression b k) gs = refl
over_is (next.Steps o) gs = refl
over_is (next.Operators e) gs = refl
over_is (next.Arguments b) gs = refl
over_is (next.Items b a) gs = refl
over_is next.Block gs = refl
over_is next.Branches gs = refl
over_is next.Arms gs = refl
over_is next.Sticks gs = refl
