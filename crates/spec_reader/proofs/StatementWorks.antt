-- Where statements are read: what each token does of the work.
use Rattle.std.proofs.Common.{ℕ, ◌+◌, ◌*◌, ◌<◌, false, List, [], ◌∷◌, ◌++◌, length, refl, arith}
use Rattle.std.specs.Prelude.{Option, Some, None}
use Rattle.spec_value.specs.Datum.{Text, fold_case}
use Rattle.spec_program.specs.Tree.{Statement, leave_loop, next_turn, give_zero}
use Rattle.spec_program.specs.Tokens as t
use Rattle.spec_program.specs.Tokens.{FaultKind, Keyword, Sign, Token, Placed}
use Rattle.spec_program.specs.Reading.{is_sign, is_keyword}
use Rattle.spec_program.specs.ReadPrograms as in_programs
use Rattle.spec_program.specs.Frames as f
use Rattle.spec_program.specs.Frames.{a_statement, a_block, some_branches_read, some_arms_read, Frames, push}
use Rattle.spec_reader.specs.Next.{found, reads_expression, goes, stops}
use Rattle.spec_reader.specs.Ends.{codes_begin, statement_ended, head_begins}
use Rattle.spec_reader.specs.Begins.{return_begins, leaving_begins, for_in, for_named, for_begins, while_begins, fork_begins, branches_begin, arm_named, arms_begin, statement_by_keyword, statement_by_sign, statement_by, block_begins}
use Rattle.spec_reader.specs.Work.{frames_work}
use Rattle.spec_reader.specs.Whole.{bad_at}
use Rattle.spec_reader.proofs.Working.{Does, on_token, past, on_a_word}
use Rattle.spec_reader.proofs.EndWorks.{codes_work, ended_works, head_works}

-- ---- past the word that begins a statement

return_works : (m : ℕ) (k : FaultKind) (l line : ℕ) (fs : Frames a_statement) (ts : List Placed)
    → 2 + frames_work fs + 10 * length ts < m
    → Does m (bad_at k l) (return_begins line fs ts) (return_begins line fs (ts ++ bad_at k l ∷ []))
return_works m k l line fs ts h =
    on_token m k l (is_sign t.semicolon) (goes (found fs (in_programs.simple line give_zero [])))
    (goes (reads_expression false 0 (push (f.returned line) fs))) ts refl
    (λ us n. record { less = omega arith; same = refl }) (record { less = omega arith; same = refl })

leaving_works : (m : ℕ) (k : FaultKind) (l : ℕ) (g : Option Text → Statement) (line : ℕ) (fs : Frames a_statement) (ts : List Placed)
    → frames_work fs + 10 * length ts < m
    → Does m (bad_at k l) (leaving_begins g line fs ts) (leaving_begins g line fs (ts ++ bad_at k l ∷ []))
leaving_works m k l g line fs ts h =
    on_a_word m k l (λ x at us. statement_ended (in_programs.stray line (Some (fold_case x)) (g (Some (fold_case x)))) fs us)
    (statement_ended (in_programs.stray line None (g None)) fs) ts
    (λ x at us n. ended_works m k l (in_programs.stray line (Some (fold_case x)) (g (Some (fold_case x)))) fs us (omega arith))
    (ended_works m k l (in_programs.stray line None (g None)) fs ts h)

for_in_works : (m : ℕ) (k : FaultKind) (l line : ℕ) (x : Text) (fs : Frames a_statement) (ts : List Placed)
    → frames_work fs + 10 * length ts < m
    → Does m (bad_at k l) (for_in line x fs ts) (for_in line x fs (ts ++ bad_at k l ∷ []))
for_in_works m k l line x fs ts h =
    on_token m k l (is_sign t.open_bracket) (goes (reads_expression false 0 (push (f.range_first line x) fs))) (head_begins line (f.for_head x) fs)
    ts refl
    (λ us n. record { less = omega arith; same = refl }) (head_works m k l line (f.for_head x) fs ts h)

for_named_works : (m : ℕ) (k : FaultKind) (l line : ℕ) (x : Text) (fs : Frames a_statement) (ts : List Placed)
    → frames_work fs + 10 * length ts < m
    → Does m (bad_at k l) (for_named line x fs ts) (for_named line x fs (ts ++ bad_at k l ∷ []))
for_named_works m k l line x fs ts h =
    on_token m k l (is_keyword t.in_word) (for_in line x fs) stops ts refl
    (λ us n. for_in_works m k l line x fs us (omega arith)) (record { less = omega arith; same = refl })

for_works : (m : ℕ) (k : FaultKind) (l line : ℕ) (fs : Frames a_statement) (ts : List Placed)
    → frames_work fs + 10 * length ts < m
    → Does m (bad_at k l) (for_begins line fs ts) (for_begins line fs (ts ++ bad_at k l ∷ []))
for_works m k l line fs ts h =
    on_a_word m k l (λ x at us. for_named line (fold_case x) fs us) stops ts
    (λ x at us n. for_named_works m k l line (fold_case x) fs us (omega arith)) (record { less = omega arith; same = refl })

while_works : (m : ℕ) (k : FaultKind) (l line : ℕ) (fs : Frames a_statement) (ts : List Placed)
    → frames_work fs + 10 * length ts < m
    → Does m (bad_at k l) (while_begins line fs ts) (while_begins line fs (ts ++ bad_at k l ∷ []))
while_works m k l line fs ts h =
    on_a_word m k l (λ x at us. head_begins line (f.while_head (Some (fold_case x))) fs us) (head_begins line (f.while_head None) fs) ts
    (λ x at us n. head_works m k l line (f.while_head (Some (fold_case x))) fs us (omega arith))
    (head_works m k l line (f.while_head None) fs ts h)

fork_works : (m : ℕ) (k : FaultKind) (l line : ℕ) (fs : Frames a_statement) (ts : List Placed)
    → frames_work fs + 10 * length ts < m
    → Does m (bad_at k l) (fork_begins line fs ts) (fork_begins line fs (ts ++ bad_at k l ∷ []))
fork_works m k l line fs ts h =
    on_a_word m k l (λ x at us. head_begins line (f.fork_head (Some (fold_case x))) fs us) (head_begins line (f.fork_head None) fs) ts
    (λ x at us n. head_works m k l line (f.fork_head (Some (fold_case x))) fs us (omega arith))
    (head_works m k l line (f.fork_head None) fs ts h)

-- ---- a statement by its first token

keyword_works : (k : FaultKind) (l : ℕ) (fs : Frames a_block) (w : Keyword) (line : ℕ) (p : Placed) (ts : List Placed)
    → Does (6 + frames_work fs + 10 * length (p ∷ ts)) (bad_at k l) (statement_by_keyword fs (push f.block_behind fs) w line ts (p ∷ ts))
    (statement_by_keyword fs (push f.block_behind fs) w line (ts ++ bad_at k l ∷ []) (p ∷ (ts ++ bad_at k l ∷ [])))
keyword_works k l fs t.if_word line p ts = record { less = omega arith; same = refl }
keyword_works k l fs t.for_word line p ts = for_works _ k l line (push f.block_behind fs) ts (omega arith)
keyword_works k l fs t.while_word line p ts = while_works _ k l line (push f.block_behind fs) ts (omega arith)
keyword_works k l fs t.fork_word line p ts = fork_works _ k l line (push f.block_behind fs) ts (omega arith)
keyword_works k l fs t.try_word line p ts = record { less = omega arith; same = refl }
keyword_works k l fs t.break_word line p ts = leaving_works _ k l leave_loop line (push f.block_behind fs) ts (omega arith)
keyword_works k l fs t.continue_word line p ts = leaving_works _ k l next_turn line (push f.block_behind fs) ts (omega arith)
keyword_works k l fs t.return_word line p ts = return_works _ k l line (push f.block_behind fs) ts (omega arith)
keyword_works k l fs _ line p ts = record { less = omega arith; same = refl }

sign_works : (k : FaultKind) (l : ℕ) (fs : Frames a_block) (s : Sign) (line : ℕ) (p : Placed) (ts : List Placed)
    → Does (6 + frames_work fs + 10 * length (p ∷ ts)) (bad_at k l) (statement_by_sign fs (push f.block_behind fs) s line ts (p ∷ ts))
    (statement_by_sign fs (push f.block_behind fs) s line (ts ++ bad_at k l ∷ []) (p ∷ (ts ++ bad_at k l ∷ [])))
sign_works k l fs t.semicolon line p ts = record { less = omega arith; same = refl }
sign_works k l fs _ line p ts = record { less = omega arith; same = refl }

statement_works : (k : FaultKind) (l : ℕ) (fs : Frames a_block) (x : Token) (line : ℕ) (p : Placed) (ts : List Placed)
    → Does (6 + frames_work fs + 10 * length (p ∷ ts)) (bad_at k l) (statement_by fs (push f.block_behind fs) x line ts (p ∷ ts))
    (statement_by fs (push f.block_behind fs) x line (ts ++ bad_at k l ∷ []) (p ∷ (ts ++ bad_at k l ∷ [])))
statement_works k l fs (t.keyword w) line p ts = keyword_works k l fs w line p ts
statement_works k l fs (t.sign s) line p ts = sign_works k l fs s line p ts
statement_works k l fs _ line p ts = record { less = omega arith; same = refl }

pub block_works : (k : FaultKind) (l : ℕ) (fs : Frames a_block) (ts : List Placed)
    → Does (6 + frames_work fs + 10 * length ts) (bad_at k l) (block_begins fs ts) (block_begins fs (ts ++ bad_at k l ∷ []))
block_works k l fs [] = record { less = omega arith; same = refl }
block_works k l fs (p ∷ ts) = statement_works k l fs p.token p.line p ts

-- ---- branches and handlers

pub branches_work : (k : FaultKind) (l : ℕ) (fs : Frames some_branches_read) (ts : List Placed)
    → Does (1 + frames_work fs + 10 * length ts) (bad_at k l) (branches_begin fs ts) (branches_begin fs (ts ++ bad_at k l ∷ []))
branches_work k l fs ts =
    past _ k l (is_sign t.open_parenthesis) (reads_expression false 0 (push f.in_head (push f.condition fs))) ts refl (omega arith) (omega arith)

named_works : (m : ℕ) (k : FaultKind) (l : ℕ) (x : Option Text) (fs : Frames some_arms_read) (ts : List Placed)
    → frames_work fs + 10 * length ts < m
    → Does m (bad_at k l) (arm_named x fs ts) (arm_named x fs (ts ++ bad_at k l ∷ []))
named_works m k l x fs ts h =
    let gs = push (f.codes_of_arm x) fs in
    on_token m k l (is_sign t.open_parenthesis) (codes_begin false gs) stops ts refl
    (λ us n. codes_work m k l false gs us (omega arith)) (record { less = omega arith; same = refl })

pub arms_work : (k : FaultKind) (l : ℕ) (fs : Frames some_arms_read) (ts : List Placed)
    → Does (1 + frames_work fs + 10 * length ts) (bad_at k l) (arms_begin fs ts) (arms_begin fs (ts ++ bad_at k l ∷ []))
arms_work k l fs ts =
    on_a_word _ k l (λ x at us. arm_named (Some (fold_case x)) fs us) (arm_named None fs) ts
    (λ x at us n. named_works _ k l (Some (fold_case x)) fs us (omega arith)) (named_works _ k l None fs ts (omega arith))
