-- A step keeps what is still to be read and does a part of the work, so the steps lead to the tree of a text, or to its first fault.
use Rattle.std.specs.Prelude.{ℕ, suc, ◌<◌, ◌≤◌, ◌≡◌, true, false, List, length}
use Rattle.spec_value.specs.Datum.{Text}
use Rattle.spec_program.specs.Tokens.{FaultKind, Placed, tokens_of}
use Rattle.spec_program.specs.Reading.{Read}
use Rattle.spec_program.specs.ReadPrograms.{FoundBlock, parsed_by, parsed_tokens, parsed}
use Rattle.spec_reader.specs.Next.{State, state_means}
use Rattle.spec_reader.specs.Step.{step}
use Rattle.spec_reader.specs.Work.{work, is_over}
use Rattle.spec_reader.specs.Whole.{start, ended, outcome, bad_at, before}

-- s means r, and leaves at most these tokens
pub record Keeps (n : ℕ) (r : Read FoundBlock) (ts : List Placed) (s : State) : Type 0 where
  pub means : state_means n s ≡ r
  pub left : length s.left ≤ length ts

abbrev pub StepKeeps : Type 0
StepKeeps = (n : ℕ) (s : State) → suc (length s.left) < n → Keeps n (state_means n s) s.left (step s)

abbrev pub StepWorks : Type 0
StepWorks = (s : State) → is_over s.next ≡ false → work (step s) < work s

abbrev pub StepBeforeFault : Type 0
StepBeforeFault = (k : FaultKind) (line : ℕ) (s : State) → step (before (bad_at k line) s) ≡ before (bad_at k line) (step s)

-- ---- whole texts

abbrev pub StartMeans : Type 0
StartMeans = (n : ℕ) (ts : List Placed) → suc (length ts) < n → parsed_by ts (state_means n (start ts)) ≡ parsed_tokens ts

abbrev pub EndMeans : Type 0
EndMeans = (n : ℕ) (all : List Placed) (s : State) → is_over s.next ≡ true → parsed_by all (state_means n s) ≡ outcome all s

-- the machine ends, and its end tells the tree of the text or its first fault
pub record ReadToEnd (t : Text) : Type 0 where
  pub over : is_over (ended (tokens_of t)).next ≡ true
  pub answer : outcome (tokens_of t) (ended (tokens_of t)) ≡ parsed t

abbrev pub TextsReadToEnd : Type 0
TextsReadToEnd = (t : Text) → ReadToEnd t
