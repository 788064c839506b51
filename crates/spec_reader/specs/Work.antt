-- How much is left to do: each step does a part of it, so the machine comes to an end, after steps in proportion to the tokens.
use Rattle.std.specs.Prelude.{ℕ, ◌+◌, ◌*◌, Bool, true, false, length}
use Rattle.spec_program.specs.Frames as f
use Rattle.spec_program.specs.Frames.{Kind, Frame, Frames, push, whole_text}
use Rattle.spec_reader.specs.Next.{Next, found, reads_expression, reads_steps, reads_operators, reads_arguments, reads_items, reads_block, reads_branches, reads_arms, sticks, State}

-- what stands behind a frame is read after it, so it counts for what it begins then without a token
abbrev pub frame_work : {a c : Kind} → Frame a c → ℕ
frame_work (f.property_name b o) = 2
frame_work (f.steps_behind b) = 2
frame_work (f.value_behind b k) = 2
frame_work (f.right_of b k a j) = 2
frame_work (f.chosen_second b k c x) = 2
frame_work f.block_behind = 3
frame_work f.condition = 3
frame_work (f.head_of line h) = 4
frame_work _ = 1

abbrev pub frames_work : {a : Kind} → Frames a → ℕ
frames_work whole_text = 0
frames_work (push g fs) = frame_work g + frames_work fs

-- a token pays for all that begins with it
abbrev pub next_work : Next → ℕ
next_work (found fs v) = 5 + frames_work fs
next_work (reads_expression b k fs) = 1 + frames_work fs
next_work (reads_steps b o fs) = 6 + frames_work fs
next_work (reads_operators b k e fs) = 6 + frames_work fs
next_work (reads_arguments b fs) = 3 + frames_work fs
next_work (reads_items b a fs) = 3 + frames_work fs
next_work (reads_block fs) = 6 + frames_work fs
next_work (reads_branches fs) = 1 + frames_work fs
next_work (reads_arms fs) = 1 + frames_work fs
next_work sticks = 0

abbrev pub work : State → ℕ
work s = next_work s.next + 10 * length s.left

-- ---- the end: the text was found, or no program goes on

abbrev pub is_whole : {a : Kind} → Frames a → Bool
is_whole whole_text = true
is_whole (push g fs) = false

abbrev pub is_over : Next → Bool
is_over (found fs v) = is_whole fs
is_over sticks = true
is_over _ = false
