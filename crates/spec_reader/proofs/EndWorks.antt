-- What the parts that several frames share do of the work.
use Rattle.std.proofs.Common.{ℕ, ◌+◌, ◌*◌, ◌<◌, Bool, false, List, [], ◌∷◌, ◌++◌, length, refl, arith}
use Rattle.spec_program.specs.Tokens as t
use Rattle.spec_program.specs.Tokens.{FaultKind, Sign, Placed}
use Rattle.spec_program.specs.Reading.{is_sign, is_keyword}
use Rattle.spec_program.specs.ReadExpressions as by
use Rattle.spec_program.specs.ReadExpressions.{Allowed}
use Rattle.spec_program.specs.ReadPrograms.{FoundStatement}
use Rattle.spec_program.specs.Frames as f
use Rattle.spec_program.specs.Frames.{some_arguments_read, some_items_read, some_codes_read, a_statement, Item, Head, Frames, push}
use Rattle.spec_program.specs.BracedMoves.{all_codes}
use Rattle.spec_reader.specs.Next.{found, reads_expression, reads_arguments, reads_items, goes}
use Rattle.spec_reader.specs.Ends.{past_sign, arguments_to, items_on, codes_begin, statement_ended, head_begins}
use Rattle.spec_reader.specs.Work.{frames_work}
use Rattle.spec_reader.specs.Whole.{bad_at}
use Rattle.spec_reader.proofs.Working.{Does, on_token, past}

pub arguments_work : (m : ℕ) (k : FaultKind) (l : ℕ) (s : Sign) (b : Bool) (fs : Frames some_arguments_read) (ts : List Placed)
    → 4 + frames_work fs + 10 * length ts < m
    → Does m (bad_at k l) (arguments_to s b fs ts) (arguments_to s b fs (ts ++ bad_at k l ∷ []))
arguments_work m k l s b fs ts h =
    on_token m k l (is_sign s) (goes (found fs by.none_found)) (goes (reads_arguments b (push (f.to_sign s) fs))) ts refl
    (λ us n. record { less = omega arith; same = refl }) (record { less = omega arith; same = refl })

pub items_work : (m : ℕ) (k : FaultKind) (l : ℕ) (b : Bool) (a : Allowed) (i : Item) (fs : Frames some_items_read) (ts : List Placed)
    → frames_work fs + 10 * length ts < m
    → Does m (bad_at k l) (items_on b a i fs ts) (items_on b a i fs (ts ++ bad_at k l ∷ []))
items_work m k l b a i fs ts h =
    on_token m k l (is_sign t.comma) (goes (reads_items b a (push (f.item_before i) fs)))
    (past_sign t.close_brace (found fs (f.with_item i (by.no_more a)))) ts refl
    (λ us n. record { less = omega arith; same = refl })
    (past m k l (is_sign t.close_brace) (found fs (f.with_item i (by.no_more a))) ts refl (omega arith) (omega arith))

pub codes_work : (m : ℕ) (k : FaultKind) (l : ℕ) (b : Bool) (fs : Frames some_codes_read) (ts : List Placed)
    → 4 + frames_work fs + 10 * length ts < m
    → Does m (bad_at k l) (codes_begin b fs ts) (codes_begin b fs (ts ++ bad_at k l ∷ []))
codes_work m k l b fs ts h =
    on_token m k l (is_keyword t.any_word) (goes (found fs all_codes)) (goes (reads_arguments b (push f.as_codes fs))) ts refl
    (λ us n. record { less = omega arith; same = refl }) (record { less = omega arith; same = refl })

pub ended_works : (m : ℕ) (k : FaultKind) (l : ℕ) (s : FoundStatement) (fs : Frames a_statement) (ts : List Placed)
    → frames_work fs + 10 * length ts < m
    → Does m (bad_at k l) (statement_ended s fs ts) (statement_ended s fs (ts ++ bad_at k l ∷ []))
ended_works m k l s fs ts h = past m k l (is_sign t.semicolon) (found fs s) ts refl (omega arith) (omega arith)

pub head_works : (m : ℕ) (k : FaultKind) (l line : ℕ) (h : Head) (fs : Frames a_statement) (ts : List Placed)
    → frames_work fs + 10 * length ts < m
    → Does m (bad_at k l) (head_begins line h fs ts) (head_begins line h fs (ts ++ bad_at k l ∷ []))
head_works m k l line h fs ts i =
    past m k l (is_sign t.open_parenthesis) (reads_expression false 0 (push f.in_head (push (f.head_of line h) fs))) ts refl
    (omega arith) (omega arith)
