-- Behind what was found: what each frame does of the work.
use Rattle.std.proofs.Common.{ℕ, zero, suc, ◌+◌, ◌*◌, ◌<◌, Bool, true, false, List, [], ◌∷◌, ◌++◌, length, refl, arith}
use Rattle.std.specs.Prelude.{Option, Some, None}
use Rattle.spec_value.specs.Datum.{Text}
use Rattle.spec_program.specs.Tree.{evaluate, give, instead, the_code, Target}
use Rattle.spec_program.specs.Tokens as t
use Rattle.spec_program.specs.Tokens.{FaultKind, Placed}
use Rattle.spec_program.specs.Reading.{is_sign, is_keyword}
use Rattle.spec_program.specs.ReadExpressions as by
use Rattle.spec_program.specs.ReadExpressions.{Found, Operand, Braces, FoundCodes}
use Rattle.spec_program.specs.ReadPrograms as in_programs
use Rattle.spec_program.specs.ReadPrograms.{FoundBlock}
use Rattle.spec_program.specs.Frames as f
use Rattle.spec_program.specs.Frames.{Kind, an_expression, an_operand, some_branches_read, some_arms_read, a_statement, Of, Frame, Frames, push}
use Rattle.spec_reader.specs.Next.{Next, found, reads_expression, reads_steps, reads_operators, reads_arguments, reads_block, reads_branches, reads_arms, goes, stops, on_keyword}
use Rattle.spec_reader.specs.Ends.{past_sign, past_keyword, arguments_to, codes_begin, body_begins}
use Rattle.spec_reader.specs.Behind.{verb_named, index_read, codes_read, is_any_level, assigned_or, target_part, target_read, braces_read, tried, branch_read, arm_read, behind}
use Rattle.spec_reader.specs.Work.{next_work, frames_work, work}
use Rattle.spec_reader.specs.Whole.{bad_at}
use Rattle.spec_reader.proofs.Working.{Does, on_token, past}
use Rattle.spec_reader.proofs.EndWorks.{arguments_work, items_work, codes_work, ended_works}

-- ---- an assignment, or operators

assigned_works : (m : ℕ) (k : FaultKind) (l : ℕ) (x y : Next) (c : Bool) (ts : List Placed)
    → next_work x + 10 * length ts < m + 10 → next_work y + 10 * length ts < m
    → Does m (bad_at k l) (assigned_or x y c ts) (assigned_or x y c (ts ++ bad_at k l ∷ []))
assigned_works m k l x y true ts h i =
    on_token m k l (is_sign t.assign) (goes x) (goes y) ts refl (λ us n. record { less = omega arith; same = refl })
    (record { less = omega arith; same = refl })
assigned_works m k l x y false ts h i = record { less = omega arith; same = refl }

target_works : (m : ℕ) (k : FaultKind) (l : ℕ) (b : Bool) (j : ℕ) (e : Found) (o : Option Target) (fs : Frames an_expression) (ts : List Placed)
    → 6 + frames_work fs + 10 * length ts < m
    → Does m (bad_at k l) (target_read b j e o fs ts) (target_read b j e o fs (ts ++ bad_at k l ∷ []))
target_works m k l b j e None fs ts h = record { less = omega arith; same = refl }
target_works m k l b j e (Some x) fs ts h =
    assigned_works m k l (reads_expression b 0 (push (f.assigned_to (target_part e) x) fs)) (reads_operators b j e fs) (is_any_level j) ts
    (omega arith) (omega arith)

braces_work : (m : ℕ) (k : FaultKind) (l : ℕ) (b : Bool) (j : ℕ) (o : Operand) (bs : Braces) (fs : Frames an_expression) (ts : List Placed)
    → 6 + frames_work fs + 10 * length ts < m
    → Does m (bad_at k l) (braces_read b j o bs fs ts) (braces_read b j o bs fs (ts ++ bad_at k l ∷ []))
braces_work m k l b j o by.no_braces fs ts h = target_works m k l b j o.found o.target fs ts h
braces_work m k l b j o (by.perhaps_scatter items ns) fs ts h =
    assigned_works m k l (reads_expression b 0 (push (f.scattered_to o.found.line items ns) fs)) (reads_operators b j o.found fs) (is_any_level j) ts
    (omega arith) (omega arith)
braces_work m k l b zero o (by.surely_scatter items ns) fs ts h =
    past m k l (is_sign t.assign) (reads_expression b 0 (push (f.scattered_to o.found.line items ns) fs)) ts refl (omega arith) (omega arith)
braces_work m k l b (suc j) o (by.surely_scatter items ns) fs ts h = record { less = omega arith; same = refl }

-- ---- parts with a choice of tokens

verb_works : (m : ℕ) (k : FaultKind) (l : ℕ) (b : Bool) (o v : Found) (fs : Frames an_operand) (ts : List Placed)
    → frames_work fs + 10 * length ts < m
    → Does m (bad_at k l) (verb_named b o v fs ts) (verb_named b o v fs (ts ++ bad_at k l ∷ []))
verb_works m k l b o v fs ts h =
    let gs = push (f.verb_arguments o v) (push (f.steps_behind b) fs) in
    on_token m k l (is_sign t.open_parenthesis) (arguments_to t.close_parenthesis b gs) stops ts refl
    (λ us n. arguments_work m k l t.close_parenthesis b gs us (omega arith)) (record { less = omega arith; same = refl })

index_works : (m : ℕ) (k : FaultKind) (l : ℕ) (b : Bool) (o : Operand) (fs : Frames an_operand) (i : Found) (ts : List Placed)
    → frames_work fs + 10 * length ts < m
    → Does m (bad_at k l) (index_read b o fs i ts) (index_read b o fs i (ts ++ bad_at k l ∷ []))
index_works m k l b o fs i ts h =
    let next = reads_steps b (by.index_of o i) fs in
    on_token m k l (is_sign t.double_dot) (goes (reads_expression true 0 (push (f.range_in b o i) fs))) (past_sign t.close_bracket next) ts refl
    (λ us n. record { less = omega arith; same = refl }) (past m k l (is_sign t.close_bracket) next ts refl (omega arith) (omega arith))

codes_read_works : (m : ℕ) (k : FaultKind) (l : ℕ) (b : Bool) (line : ℕ) (e : Found) (fs : Frames an_operand) (c : FoundCodes) (ts : List Placed)
    → frames_work fs + 10 * length ts < m
    → Does m (bad_at k l) (codes_read b line e fs c ts) (codes_read b line e fs c (ts ++ bad_at k l ∷ []))
codes_read_works m k l b line e fs c ts h =
    let next = found fs (by.caught_with line e c the_code []) in
    on_token m k l (is_sign t.arrow) (goes (reads_expression b 0 (push (f.caught_instead line e c) fs))) (past_sign t.quote next) ts refl
    (λ us n. record { less = omega arith; same = refl }) (past m k l (is_sign t.quote) next ts refl (omega arith) (omega arith))

tried_works : (m : ℕ) (k : FaultKind) (l line : ℕ) (fs : Frames a_statement) (p : FoundBlock) (ts : List Placed)
    → frames_work fs + 10 * length ts < m
    → Does m (bad_at k l) (tried line fs p ts) (tried line fs p (ts ++ bad_at k l ∷ []))
tried_works m k l line fs p ts h =
    let next = reads_arms (push (f.arms_of line p) fs) in
    on_token m k l (is_keyword t.finally_word) (goes (reads_block (push (f.to_word t.endtry_word) (push (f.finally_of line p) fs))))
    (past_keyword t.except_word next) ts refl
    (λ us n. record { less = omega arith; same = refl }) (past m k l (is_keyword t.except_word) next ts refl (omega arith) (omega arith))

branch_works : (m : ℕ) (k : FaultKind) (l : ℕ) (c : Found) (fs : Frames some_branches_read) (p : FoundBlock) (ts : List Placed)
    → frames_work fs + 10 * length ts < m
    → Does m (bad_at k l) (branch_read c fs p ts) (branch_read c fs p (ts ++ bad_at k l ∷ []))
branch_works m k l c fs p ts h =
    let gs = push (f.branch_before c p) fs in
    let next = reads_block (push (f.to_word t.endif_word) (push f.as_else gs)) in
    let last = found fs (in_programs.with_branch c p in_programs.no_more_branches) in
    on_token m k l (is_keyword t.elseif_word) (goes (reads_branches gs)) (λ us. on_keyword t.else_word (goes next) (past_keyword t.endif_word last) us)
    ts refl
    (λ us n. record { less = omega arith; same = refl })
    (on_token m k l (is_keyword t.else_word) (goes next) (past_keyword t.endif_word last) ts refl
    (λ us n. record { less = omega arith; same = refl }) (past m k l (is_keyword t.endif_word) last ts refl (omega arith) (omega arith)))

arm_works : (m : ℕ) (k : FaultKind) (l : ℕ) (x : Option Text) (c : FoundCodes) (fs : Frames some_arms_read) (p : FoundBlock) (ts : List Placed)
    → frames_work fs + 10 * length ts < m
    → Does m (bad_at k l) (arm_read x c fs p ts) (arm_read x c fs p (ts ++ bad_at k l ∷ []))
arm_works m k l x c fs p ts h =
    let last = found fs (in_programs.with_arm x c p in_programs.no_more_arms) in
    on_token m k l (is_keyword t.except_word) (goes (reads_arms (push (f.arm_before x c p) fs))) (past_keyword t.endtry_word last) ts refl
    (λ us n. record { less = omega arith; same = refl }) (past m k l (is_keyword t.endtry_word) last ts refl (omega arith) (omega arith))

-- ---- by the frame

pub behind_works : {a c : Kind} (k : FaultKind) (l : ℕ) (g : Frame a c) (fs : Frames c) (v : Of a) (ts : List Placed)
    → Does (work (goes (found (push g fs) v) ts)) (bad_at k l) (behind g fs v ts) (behind g fs v (ts ++ bad_at k l ∷ []))
behind_works k l (f.in_parentheses line) fs e ts =
    past _ k l (is_sign t.close_parenthesis) (found fs (record e { line = line })) ts refl (omega arith) (omega arith)
behind_works k l f.as_operand fs e ts = record { less = omega arith; same = refl }
behind_works k l (f.behind_sign u line) fs e ts = record { less = omega arith; same = refl }
behind_works k l (f.behind_argument b spliced) fs e ts =
    on_token _ k l (is_sign t.comma) (goes (reads_arguments b (push (f.argument_before spliced e) fs)))
    (goes (found fs (by.with_argument spliced e by.none_found))) ts refl
    (λ us n. record { less = omega arith; same = refl }) (record { less = omega arith; same = refl })
behind_works k l (f.argument_before spliced e) fs es ts = record { less = omega arith; same = refl }
behind_works k l (f.to_sign s) fs es ts =
    past _ k l (is_sign s) (found fs es) ts refl (omega arith) (omega arith)
behind_works k l (f.call_of x line) fs es ts = record { less = omega arith; same = refl }
behind_works k l (f.property_name b o) fs p ts = record { less = omega arith; same = refl }
behind_works k l (f.verb_name b o) fs v ts = verb_works _ k l b o.found v fs ts (omega arith)
behind_works k l (f.verb_arguments o v) fs es ts = record { less = omega arith; same = refl }
behind_works k l (f.steps_behind b) fs o ts = record { less = omega arith; same = refl }
behind_works k l (f.index_in b o) fs i ts = index_works _ k l b o fs i ts (omega arith)
behind_works k l (f.range_in b o i) fs j ts =
    past _ k l (is_sign t.close_bracket) (reads_steps b (by.range_of o i j) fs) ts refl (omega arith) (omega arith)
behind_works k l (f.value_behind b j) fs o ts = braces_work _ k l b j o o.braces fs ts (omega arith)
behind_works k l (f.right_of b j a x) fs c ts = record { less = omega arith; same = refl }
behind_works k l (f.chosen_first b j c) fs x ts =
    past _ k l (is_sign t.bar) (reads_expression b 1 (push (f.chosen_second b j c x) fs)) ts refl (omega arith) (omega arith)
behind_works k l (f.chosen_second b j c x) fs y ts = record { less = omega arith; same = refl }
behind_works k l (f.assigned_to a x) fs e ts = record { less = omega arith; same = refl }
behind_works k l (f.scattered_to line items ns) fs e ts = record { less = omega arith; same = refl }
behind_works k l (f.item_expression b a spliced) fs e ts = items_work _ k l b (by.list_alone a) (f.other spliced e) fs ts (omega arith)
behind_works k l (f.item_default b a x) fs e ts = items_work _ k l b (by.scatter_alone a) (f.with_its_default x e) fs ts (omega arith)
behind_works k l (f.item_before i) fs g ts = record { less = omega arith; same = refl }
behind_works k l (f.in_braces line) fs g ts = record { less = omega arith; same = refl }
behind_works k l (f.caught_in b line) fs e ts =
    let gs = push (f.caught_codes b line e) fs in
    on_token _ k l (is_sign t.not_sign) (codes_begin b gs) stops ts refl (λ us n. codes_work _ k l b gs us (omega arith))
    (record { less = omega arith; same = refl })
behind_works k l (f.caught_codes b line e) fs c ts = codes_read_works _ k l b line e fs c ts (omega arith)
behind_works k l f.as_codes fs es ts = record { less = omega arith; same = refl }
behind_works k l (f.caught_instead line e c) fs d ts =
    past _ k l (is_sign t.quote) (found fs (by.caught_with line e c (instead d.tree) d.nodes)) ts refl (omega arith) (omega arith)
behind_works k l (f.statement_before s) fs p ts = record { less = omega arith; same = refl }
behind_works k l f.block_behind fs s ts = record { less = omega arith; same = refl }
behind_works k l (f.to_word w) fs p ts =
    past _ k l (is_keyword w) (found fs p) ts refl (omega arith) (omega arith)
behind_works k l f.in_head fs e ts =
    past _ k l (is_sign t.close_parenthesis) (found fs e) ts refl (omega arith) (omega arith)
behind_works k l (f.evaluated line) fs e ts = ended_works _ k l (in_programs.simple line (evaluate e.tree) e.nodes) fs ts (omega arith)
behind_works k l (f.returned line) fs e ts = ended_works _ k l (in_programs.simple line (give e.tree) e.nodes) fs ts (omega arith)
behind_works k l (f.branches_of line) fs b ts = record { less = omega arith; same = refl }
behind_works k l f.condition fs c ts = record { less = omega arith; same = refl }
behind_works k l (f.block_of_branch c) fs p ts = branch_works _ k l c fs p ts (omega arith)
behind_works k l (f.branch_before c p) fs b ts = record { less = omega arith; same = refl }
behind_works k l f.as_else fs p ts = record { less = omega arith; same = refl }
behind_works k l (f.head_of line h) fs e ts = record { less = omega arith; same = refl }
behind_works k l (f.range_first line x) fs a ts =
    past _ k l (is_sign t.double_dot) (reads_expression false 0 (push (f.range_last line x a) fs)) ts refl (omega arith) (omega arith)
behind_works k l (f.range_last line x a) fs b ts =
    past _ k l (is_sign t.close_bracket) (body_begins line (f.range_body x a b) fs) ts refl (omega arith) (omega arith)
behind_works k l (f.block_of_body line b) fs p ts = record { less = omega arith; same = refl }
behind_works k l (f.tried line) fs p ts = tried_works _ k l line fs p ts (omega arith)
behind_works k l (f.finally_of line p) fs q ts = record { less = omega arith; same = refl }
behind_works k l (f.arms_of line p) fs a ts = record { less = omega arith; same = refl }
behind_works k l (f.codes_of_arm x) fs c ts =
    past _ k l (is_sign t.close_parenthesis) (reads_block (push (f.block_of_arm x c) fs)) ts refl (omega arith) (omega arith)
behind_works k l (f.block_of_arm x c) fs p ts = arm_works _ k l x c fs p ts (omega arith)
behind_works k l (f.arm_before x c p) fs a ts = record { less = omega arith; same = refl }
