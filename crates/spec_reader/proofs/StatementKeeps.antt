-- Where statements are read: each token keeps what is still to be read.
use Rattle.std.proofs.Common.{ℕ, suc, ◌<◌, false, List, [], ◌∷◌, length, refl, ap, ◌∙◌, arith}
use Rattle.std.specs.Prelude.{Option, Some, None}
use Rattle.spec_value.specs.Datum.{Text, fold_case}
use Rattle.spec_program.specs.Tree.{Statement, leave_loop, next_turn, give_zero}
use Rattle.spec_program.specs.Tokens as t
use Rattle.spec_program.specs.Tokens.{Keyword, Sign, Token, Placed}
use Rattle.spec_program.specs.Reading.{Read, got, stuck, and_then, is_sign, is_keyword}
use Rattle.spec_program.specs.ReadExpressions as by
use Rattle.spec_program.specs.ReadExpressions.{expression}
use Rattle.spec_program.specs.ReadPrograms as in_programs
use Rattle.spec_program.specs.ReadPrograms.{FoundStatement, FoundBlock, branches, arms, block}
use Rattle.spec_program.specs.Frames as f
use Rattle.spec_program.specs.Frames.{Kind, an_expression, a_statement, a_block, some_branches_read, some_arms_read, Frame, Frames, Head, push, resume, means}
use Rattle.spec_program.proofs.MovesHold.{pushed, block_again, branches_again, arms_again}
use Rattle.spec_reader.specs.Next.{found, reads_expression, reads_block, reads_branches, State, goes, stops}
use Rattle.spec_reader.specs.Ends.{past_sign, codes_begin, statement_ended, head_begins}
use Rattle.spec_reader.specs.Begins.{return_begins, leaving_begins, for_in, for_named, for_begins, while_begins, fork_begins, branches_begin, arm_named, arms_begin, statement_by_keyword, expression_statement, statement_by_sign, statement_by, block_begins}
use Rattle.spec_reader.specs.Laws.{Keeps}
use Rattle.spec_reader.proofs.Keeping.{now, via, later, on_token, past, past_a_word, perhaps}
use Rattle.spec_reader.proofs.Parts.{codes_keep}

-- ---- heads

-- an expression in parentheses before what a frame takes
parenthesis_keeps : {c : Kind} (n : ℕ) (g : Frame an_expression c) (fs : Frames c) (ts : List Placed)
    → Keeps n (means n fs (and_then (in_programs.in_parentheses (expression n) ts) (resume n g))) ts
    (past_sign t.open_parenthesis (reads_expression false 0 (push f.in_head (push g fs))) ts)
parenthesis_keeps n g fs ts =
    let opened = λ (us : List Placed). and_then (expression n false 0 us) (resume n f.in_head) in
    via n (means n fs (and_then (in_programs.in_parentheses (expression n) ts) (resume n g)))
    (means n (push g fs) (in_programs.in_parentheses (expression n) ts)) ts
    (past_sign t.open_parenthesis (reads_expression false 0 (push f.in_head (push g fs))) ts)
    (pushed n g fs (in_programs.in_parentheses (expression n) ts))
    (past n (push g fs) (is_sign t.open_parenthesis) opened (reads_expression false 0 (push f.in_head (push g fs)))
    (λ us. pushed n f.in_head (push g fs) (expression n false 0 us)) ts)

head_keeps : (n line : ℕ) (h : Head) (fs : Frames a_statement) (ts : List Placed)
    → Keeps n (means n fs (and_then (in_programs.in_parentheses (expression n) ts) (resume n (f.head_of line h)))) ts (head_begins line h fs ts)
head_keeps n line h fs ts = parenthesis_keeps n (f.head_of line h) fs ts

for_in_keeps : (n line : ℕ) (x : Text) (fs : Frames a_statement) (ts : List Placed)
    → Keeps n (means n fs (in_programs.for_in (expression n) (block n) line x ts)) ts (for_in line x fs ts)
for_in_keeps n line x fs ts =
    let ranged = λ (us : List Placed). and_then (expression n false 0 us) (resume n (f.range_first line x)) in
    let listed = λ (us : List Placed). and_then (in_programs.in_parentheses (expression n) us) (resume n (f.head_of line (f.for_head x))) in
    on_token n fs (is_sign t.open_bracket) ranged listed (goes (reads_expression false 0 (push (f.range_first line x) fs)))
    (head_begins line (f.for_head x) fs)
    (λ us. now n (reads_expression false 0 (push (f.range_first line x) fs)) us (means n fs (ranged us))
    (pushed n (f.range_first line x) fs (expression n false 0 us)))
    (λ us. head_keeps n line (f.for_head x) fs us)
    ts

for_named_keeps : (n line : ℕ) (x : Text) (fs : Frames a_statement) (ts : List Placed)
    → Keeps n (means n fs (in_programs.for_named (expression n) (block n) line x ts)) ts (for_named line x fs ts)
for_named_keeps n line x fs ts =
    on_token n fs (is_keyword t.in_word) (in_programs.for_in (expression n) (block n) line x) stuck (for_in line x fs) stops
    (λ us. for_in_keeps n line x fs us) (λ us. record { means = refl; left = omega arith }) ts

for_keeps : (n line : ℕ) (fs : Frames a_statement) (ts : List Placed)
    → Keeps n (means n fs (in_programs.for_statement (expression n) (block n) line ts)) ts (for_begins line fs ts)
for_keeps n line fs ts =
    past_a_word n fs (λ x l us. in_programs.for_named (expression n) (block n) line (fold_case x) us) (λ x l us. for_named line (fold_case x) fs us)
    (λ x l us. for_named_keeps n line (fold_case x) fs us) ts

while_keeps : (n line : ℕ) (fs : Frames a_statement) (ts : List Placed)
    → Keeps n (means n fs (in_programs.while_statement (expression n) (block n) line ts)) ts (while_begins line fs ts)
while_keeps n line fs ts =
    perhaps n fs (in_programs.while_named (expression n) (block n) line) (λ x l us. head_begins line (f.while_head (Some (fold_case x))) fs us)
    (head_begins line (f.while_head None) fs)
    (λ x l us. head_keeps n line (f.while_head (Some (fold_case x))) fs us) (λ us. head_keeps n line (f.while_head None) fs us) ts

fork_keeps : (n line : ℕ) (fs : Frames a_statement) (ts : List Placed)
    → Keeps n (means n fs (in_programs.fork_statement (expression n) (block n) line ts)) ts (fork_begins line fs ts)
fork_keeps n line fs ts =
    perhaps n fs (in_programs.fork_named (expression n) (block n) line) (λ x l us. head_begins line (f.fork_head (Some (fold_case x))) fs us)
    (head_begins line (f.fork_head None) fs)
    (λ x l us. head_keeps n line (f.fork_head (Some (fold_case x))) fs us) (λ us. head_keeps n line (f.fork_head None) fs us) ts

-- ---- simple statements

ended_keeps : (n : ℕ) (s : FoundStatement) (fs : Frames a_statement) (ts : List Placed)
    → Keeps n (means n fs (in_programs.ended_by_semicolon s ts)) ts (statement_ended s fs ts)
ended_keeps n s fs ts = past n fs (is_sign t.semicolon) (got s) (found fs s) (λ us. refl) ts

leaving_keeps : (n : ℕ) (g : Option Text → Statement) (line : ℕ) (fs : Frames a_statement) (ts : List Placed)
    → Keeps n (means n fs (in_programs.leaving_statement g line ts)) ts (leaving_begins g line fs ts)
leaving_keeps n g line fs ts =
    perhaps n fs (λ x us. in_programs.ended_by_semicolon (in_programs.stray line x (g x)) us)
    (λ x l us. statement_ended (in_programs.stray line (Some (fold_case x)) (g (Some (fold_case x)))) fs us)
    (statement_ended (in_programs.stray line None (g None)) fs)
    (λ x l us. ended_keeps n (in_programs.stray line (Some (fold_case x)) (g (Some (fold_case x)))) fs us)
    (λ us. ended_keeps n (in_programs.stray line None (g None)) fs us) ts

return_keeps : (n line : ℕ) (fs : Frames a_statement) (ts : List Placed)
    → Keeps n (means n fs (in_programs.return_statement (expression n) line ts)) ts (return_begins line fs ts)
return_keeps n line fs ts =
    let zero_value = in_programs.simple line give_zero [] in
    let value = λ (us : List Placed). and_then (expression n false 0 us) (resume n (f.returned line)) in
    on_token n fs (is_sign t.semicolon) (got zero_value) value (goes (found fs zero_value))
    (goes (reads_expression false 0 (push (f.returned line) fs)))
    (λ us. record { means = refl; left = omega arith })
    (λ us. now n (reads_expression false 0 (push (f.returned line) fs)) us (means n fs (value us))
    (pushed n (f.returned line) fs (expression n false 0 us)))
    ts

-- ---- a statement by its first token, and the block behind it

before_block : (n : ℕ) (fs : Frames a_block) (p : Placed) (r : Read FoundStatement) (ts : List Placed) (s : State)
    → Keeps n (means n (push f.block_behind fs) r) ts s → Keeps n (means n fs (in_programs.then_block (block n) r)) (p ∷ ts) s
before_block n fs p r ts s k =
    later n (means n fs (in_programs.then_block (block n) r)) p ts s
    (via n (means n fs (in_programs.then_block (block n) r)) (means n (push f.block_behind fs) r) ts s (pushed n f.block_behind fs r) k)

evaluated_keeps : (n : ℕ) (fs : Frames a_block) (p : Placed) (ts : List Placed)
    → Keeps n (means n fs (in_programs.then_block (block n) (in_programs.expression_statement (expression n) (p ∷ ts)))) (p ∷ ts)
    (expression_statement (push f.block_behind fs) p.line (p ∷ ts))
evaluated_keeps n fs p ts =
    let gs = push f.block_behind fs in
    let g = f.evaluated p.line in
    let r = and_then (expression n false 0 (p ∷ ts)) (resume n g) in
    now n (reads_expression false 0 (push g gs)) (p ∷ ts) (means n fs (in_programs.then_block (block n) r))
    (pushed n f.block_behind fs r ∙ pushed n g gs (expression n false 0 (p ∷ ts)))

keyword_keeps : (n : ℕ) (fs : Frames a_block) (k : Keyword) (line : ℕ) (p : Placed) (ts : List Placed)
    → Keeps n (means n fs (in_programs.by_keyword n (expression n) (block n) k line ts (p ∷ ts))) (p ∷ ts)
    (statement_by_keyword fs (push f.block_behind fs) k line ts (p ∷ ts))
keyword_keeps n fs t.if_word line p ts =
    let gs = push f.block_behind fs in
    let more = branches n (expression n) (block n) ts in
    before_block n fs p (and_then more (resume n (f.branches_of line))) ts (goes (reads_branches (push (f.branches_of line) gs)) ts)
    (now n (reads_branches (push (f.branches_of line) gs)) ts (means n gs (and_then more (resume n (f.branches_of line))))
    (pushed n (f.branches_of line) gs more))
keyword_keeps n fs t.for_word line p ts =
    before_block n fs p (in_programs.for_statement (expression n) (block n) line ts) ts (for_begins line (push f.block_behind fs) ts)
    (for_keeps n line (push f.block_behind fs) ts)
keyword_keeps n fs t.while_word line p ts =
    before_block n fs p (in_programs.while_statement (expression n) (block n) line ts) ts (while_begins line (push f.block_behind fs) ts)
    (while_keeps n line (push f.block_behind fs) ts)
keyword_keeps n fs t.fork_word line p ts =
    before_block n fs p (in_programs.fork_statement (expression n) (block n) line ts) ts (fork_begins line (push f.block_behind fs) ts)
    (fork_keeps n line (push f.block_behind fs) ts)
keyword_keeps n fs t.try_word line p ts =
    let gs = push f.block_behind fs in
    before_block n fs p (and_then (block n ts) (resume n (f.tried line))) ts (goes (reads_block (push (f.tried line) gs)) ts)
    (now n (reads_block (push (f.tried line) gs)) ts (means n gs (and_then (block n ts) (resume n (f.tried line))))
    (pushed n (f.tried line) gs (block n ts)))
keyword_keeps n fs t.break_word line p ts =
    before_block n fs p (in_programs.leaving_statement leave_loop line ts) ts (leaving_begins leave_loop line (push f.block_behind fs) ts)
    (leaving_keeps n leave_loop line (push f.block_behind fs) ts)
keyword_keeps n fs t.continue_word line p ts =
    before_block n fs p (in_programs.leaving_statement next_turn line ts) ts (leaving_begins next_turn line (push f.block_behind fs) ts)
    (leaving_keeps n next_turn line (push f.block_behind fs) ts)
keyword_keeps n fs t.return_word line p ts =
    before_block n fs p (in_programs.return_statement (expression n) line ts) ts (return_begins line (push f.block_behind fs) ts)
    (return_keeps n line (push f.block_behind fs) ts)
keyword_keeps n fs _ line p ts = record { means = refl; left = omega arith }

sign_keeps : (n : ℕ) (fs : Frames a_block) (s : Sign) (p : Placed) (ts : List Placed)
    → Keeps n (means n fs (in_programs.by_token n (expression n) (block n) (t.sign s) p.line ts (p ∷ ts))) (p ∷ ts)
    (statement_by_sign fs (push f.block_behind fs) s p.line ts (p ∷ ts))
sign_keeps n fs t.semicolon p ts = later n (means n fs (block n ts)) p ts (goes (reads_block fs) ts)
    (now n (reads_block fs) ts (means n fs (block n ts)) refl)
sign_keeps n fs t.open_parenthesis p ts = evaluated_keeps n fs p ts
sign_keeps n fs t.open_brace p ts = evaluated_keeps n fs p ts
sign_keeps n fs t.dollar p ts = evaluated_keeps n fs p ts
sign_keeps n fs t.backquote p ts = evaluated_keeps n fs p ts
sign_keeps n fs t.minus_sign p ts = evaluated_keeps n fs p ts
sign_keeps n fs t.not_sign p ts = evaluated_keeps n fs p ts
sign_keeps n fs _ p ts = record { means = refl; left = omega arith }

statement_keeps : (n : ℕ) (fs : Frames a_block) (x : Token) (p : Placed) (ts : List Placed)
    → Keeps n (means n fs (in_programs.by_token n (expression n) (block n) x p.line ts (p ∷ ts))) (p ∷ ts)
    (statement_by fs (push f.block_behind fs) x p.line ts (p ∷ ts))
statement_keeps n fs (t.keyword k) p ts = keyword_keeps n fs k p.line p ts
statement_keeps n fs (t.sign s) p ts = sign_keeps n fs s p ts
statement_keeps n fs (t.bad k) p ts = record { means = refl; left = omega arith }
statement_keeps n fs (t.word x) p ts = evaluated_keeps n fs p ts
statement_keeps n fs (t.error_name x) p ts = evaluated_keeps n fs p ts
statement_keeps n fs (t.integer x) p ts = evaluated_keeps n fs p ts
statement_keeps n fs (t.object c x) p ts = evaluated_keeps n fs p ts
statement_keeps n fs (t.string x) p ts = evaluated_keeps n fs p ts

block_by : (n : ℕ) (fs : Frames a_block) (ts : List Placed)
    → Keeps n (means n fs (in_programs.block_with n (block n) ts)) ts (block_begins fs ts)
block_by n fs [] = record { means = refl; left = omega arith }
block_by n fs (p ∷ ts) = statement_keeps n fs p.token p ts

pub block_keeps : (n : ℕ) (fs : Frames a_block) (ts : List Placed) → suc (length ts) < n → Keeps n (means n fs (block n ts)) ts (block_begins fs ts)
block_keeps n fs ts h =
    via n (means n fs (block n ts)) (means n fs (in_programs.block_with n (block n) ts)) ts (block_begins fs ts)
    (ap (λ r. means n fs r) (block_again n ts h)) (block_by n fs ts)

-- ---- branches and handlers

pub branches_keep : (n : ℕ) (fs : Frames some_branches_read) (ts : List Placed) → suc (length ts) < n
    → Keeps n (means n fs (branches n (expression n) (block n) ts)) ts (branches_begin fs ts)
branches_keep n fs ts h =
    via n (means n fs (branches n (expression n) (block n) ts))
    (means n fs (and_then (in_programs.in_parentheses (expression n) ts) (resume n f.condition))) ts (branches_begin fs ts)
    (ap (λ r. means n fs r) (branches_again n ts h)) (parenthesis_keeps n f.condition fs ts)

named_keeps : (n : ℕ) (x : Option Text) (fs : Frames some_arms_read) (ts : List Placed)
    → Keeps n (means n fs (in_programs.arm_named n (expression n) (block n) (arms n (expression n) (block n)) x ts)) ts (arm_named x fs ts)
named_keeps n x fs ts =
    let g = f.codes_of_arm x in
    let opened = λ (us : List Placed). and_then (by.error_codes n (expression n) false us) (resume n g) in
    on_token n fs (is_sign t.open_parenthesis) opened stuck (codes_begin false (push g fs)) stops
    (λ us. via n (means n fs (opened us)) (means n (push g fs) (by.error_codes n (expression n) false us)) us (codes_begin false (push g fs) us)
    (pushed n g fs (by.error_codes n (expression n) false us)) (codes_keep n false (push g fs) us))
    (λ us. record { means = refl; left = omega arith })
    ts

pub arms_keep : (n : ℕ) (fs : Frames some_arms_read) (ts : List Placed) → suc (length ts) < n
    → Keeps n (means n fs (arms n (expression n) (block n) ts)) ts (arms_begin fs ts)
arms_keep n fs ts h =
    let more = arms n (expression n) (block n) in
    via n (means n fs (more ts)) (means n fs (in_programs.one_arm n (expression n) (block n) more ts)) ts (arms_begin fs ts)
    (ap (λ r. means n fs r) (arms_again n ts h))
    (perhaps n fs (in_programs.arm_named n (expression n) (block n) more) (λ x l us. arm_named (Some (fold_case x)) fs us) (arm_named None fs)
    (λ x l us. named_keeps n (Some (fold_case x)) fs us) (λ us. named_keeps n None fs us) ts)
