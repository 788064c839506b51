-- Each step does a part of the work, and takes a token that is none for the end of the text.
use Rattle.std.proofs.Common.{◌≡◌, ℕ, false, List, [], ◌∷◌, ◌++◌, refl}
use Rattle.spec_program.specs.Tokens.{FaultKind, character, Placed}
use Rattle.spec_program.specs.ReadExpressions.{is_surely_scatter}
use Rattle.spec_program.specs.Frames.{Kind, Of, Frames, push, whole_text}
use Rattle.spec_reader.specs.Next.{Next, found, reads_expression, reads_steps, reads_operators, reads_arguments, reads_items, reads_block, reads_branches, reads_arms, sticks, goes}
use Rattle.spec_reader.specs.Behind.{found_by}
use Rattle.spec_reader.specs.Step.{step_of}
use Rattle.spec_reader.specs.Work.{work, is_whole, is_over}
use Rattle.spec_reader.specs.Whole.{bad_at, before}
use Rattle.spec_reader.specs.Laws.{StepWorks, StepBeforeFault}
use Rattle.spec_reader.proofs.Working.{Does}
use Rattle.spec_reader.proofs.FoundWorks.{behind_works}
use Rattle.spec_reader.proofs.OperandWorks.{expression_works, steps_work, operators_work, some_arguments_work}
use Rattle.spec_reader.proofs.ItemWorks.{some_items_work}
use Rattle.spec_reader.proofs.StatementWorks.{block_works, branches_work, arms_work}

found_works : {a : Kind} (k : FaultKind) (l : ℕ) (fs : Frames a) (v : Of a) (ts : List Placed) → is_whole fs ≡ false
    → Does (work (goes (found fs v) ts)) (bad_at k l) (found_by fs v ts) (found_by fs v (ts ++ bad_at k l ∷ []))
found_works k l whole_text v ts h = absurd (cc)
found_works k l (push g fs) v ts h = behind_works k l g fs v ts

by_next : (k : FaultKind) (l : ℕ) (x : Next) (ts : List Placed) → is_over x ≡ false
    → Does (work (goes x ts)) (bad_at k l) (step_of x ts) (step_of x (ts ++ bad_at k l ∷ []))
by_next k l (found fs v) ts h = found_works k l fs v ts h
by_next k l (reads_expression b j fs) ts h = expression_works k l b j fs ts
by_next k l (reads_steps b o fs) ts h = steps_work k l (is_surely_scatter o.braces) b o fs ts
by_next k l (reads_operators b j e fs) ts h = operators_work k l b j e fs ts
by_next k l (reads_arguments b fs) ts h = some_arguments_work k l b fs ts
by_next k l (reads_items b a fs) ts h = some_items_work k l a.as_list b a fs ts
by_next k l (reads_block fs) ts h = block_works k l fs ts
by_next k l (reads_branches fs) ts h = branches_work k l fs ts
by_next k l (reads_arms fs) ts h = arms_work k l fs ts
by_next k l sticks ts h = absurd (cc)

pub step_works : StepWorks
step_works s h = (by_next character 0 s.next s.left h).less

-- where the machine has ended it stays
found_before : {a : Kind} (k : FaultKind) (l : ℕ) (fs : Frames a) (v : Of a) (ts : List Placed)
    → found_by fs v (ts ++ bad_at k l ∷ []) ≡ before (bad_at k l) (found_by fs v ts)
found_before k l whole_text v ts = refl
found_before k l (push g fs) v ts = (behind_works k l g fs v ts).same

next_before : (k : FaultKind) (l : ℕ) (x : Next) (ts : List Placed) → step_of x (ts ++ bad_at k l ∷ []) ≡ before (bad_at k l) (step_of x ts)
next_before k l (found fs v) ts = found_before k l fs v ts
next_before k l sticks ts = refl
next_before k l x ts = (by_next k l x ts refl).same

pub step_before_fault : StepBeforeFault
step_before_fault k l s = next_before k l s.next s.left
