-- Behind what was found: each frame keeps what is still to be read.
use Rattle.std.proofs.Common.{ℕ, Bool, true, false, List, [], refl, ◌∙◌, arith}
use Rattle.std.specs.Prelude.{Option}
use Rattle.spec_value.specs.Datum.{Text}
use Rattle.spec_program.specs.Tree.{evaluate, give, instead, the_code}
use Rattle.spec_program.specs.Tokens as t
use Rattle.spec_program.specs.Tokens.{Placed}
use Rattle.spec_program.specs.Reading.{got, stuck, and_then, if_keyword, past_sign as past_this, past_keyword as past_word, is_sign, is_keyword}
use Rattle.spec_program.specs.ReadExpressions as by
use Rattle.spec_program.specs.ReadExpressions.{Found, Operand, FoundCodes, some_arguments, steps, operators, expression}
use Rattle.spec_program.specs.ReadPrograms as in_programs
use Rattle.spec_program.specs.ReadPrograms.{FoundBlock, branches, arms, block}
use Rattle.spec_program.specs.Frames as f
use Rattle.spec_program.specs.Frames.{Kind, an_expression, an_operand, some_arguments_read, some_branches_read, some_arms_read, a_statement, Of, Frame, Frames, push, resume, means, body_read}
use Rattle.spec_program.proofs.MovesHold.{pushed}
use Rattle.spec_reader.specs.Next.{found, reads_expression, reads_steps, reads_arguments, reads_block, reads_branches, reads_arms, goes, stops, on_keyword}
use Rattle.spec_reader.specs.Ends.{past_sign, past_keyword, codes_begin, body_begins}
use Rattle.spec_reader.specs.Behind.{argument_read, index_read, codes_read, tried, branch_read, arm_read, behind}
use Rattle.spec_reader.specs.Laws.{Keeps}
use Rattle.spec_reader.proofs.Keeping.{now, via, on_token, past}
use Rattle.spec_reader.proofs.Parts.{verb_keeps, codes_keep, items_keep, body_means, braces_keep}

argument_keeps : (n : ℕ) (b spliced : Bool) (fs : Frames some_arguments_read) (e : Found) (ts : List Placed)
    → Keeps n (means n fs (resume n (f.behind_argument b spliced) e ts)) ts (argument_read b spliced fs e ts)
argument_keeps n b spliced fs e ts =
    let gs = push (f.argument_before spliced e) fs in
    let last = found fs (by.with_argument spliced e by.none_found) in
    via n (means n fs (resume n (f.behind_argument b spliced) e ts)) (means n gs (by.further_ones (some_arguments n (expression n) b) ts)) ts
    (argument_read b spliced fs e ts)
    (pushed n (f.argument_before spliced e) fs (by.further_ones (some_arguments n (expression n) b) ts))
    (on_token n gs (is_sign t.comma) (some_arguments n (expression n) b) (got by.none_found) (goes (reads_arguments b gs)) (goes last)
    (λ us. now n (reads_arguments b gs) us (means n gs (some_arguments n (expression n) b us)) refl)
    (λ us. now n last us (means n gs (got by.none_found us)) refl)
    ts)

index_keeps : (n : ℕ) (b : Bool) (o : Operand) (fs : Frames an_operand) (i : Found) (ts : List Placed)
    → Keeps n (means n fs (resume n (f.index_in b o) i ts)) ts (index_read b o fs i ts)
index_keeps n b o fs i ts =
    let ranged = λ (us : List Placed). and_then (expression n true 0 us) (resume n (f.range_in b o i)) in
    let closed = λ (us : List Placed). steps n (expression n) b (by.index_of o i) us in
    let next = reads_steps b (by.index_of o i) fs in
    on_token n fs (is_sign t.double_dot) ranged (λ vs. past_this t.close_bracket vs closed)
    (goes (reads_expression true 0 (push (f.range_in b o i) fs))) (past_sign t.close_bracket next)
    (λ us. now n (reads_expression true 0 (push (f.range_in b o i) fs)) us (means n fs (ranged us))
    (pushed n (f.range_in b o i) fs (expression n true 0 us)))
    (λ us. past n fs (is_sign t.close_bracket) closed next (λ vs. refl) us)
    ts

codes_keeps : (n : ℕ) (b : Bool) (line : ℕ) (e : Found) (fs : Frames an_operand) (c : FoundCodes) (ts : List Placed)
    → Keeps n (means n fs (resume n (f.caught_codes b line e) c ts)) ts (codes_read b line e fs c ts)
codes_keeps n b line e fs c ts =
    let g = f.caught_instead line e c in
    let instead_of = λ (us : List Placed). and_then (expression n b 0 us) (resume n g) in
    let whole = got (by.caught_with line e c the_code []) in
    let next = found fs (by.caught_with line e c the_code []) in
    on_token n fs (is_sign t.arrow) instead_of (λ us. past_this t.quote us whole) (goes (reads_expression b 0 (push g fs))) (past_sign t.quote next)
    (λ us. now n (reads_expression b 0 (push g fs)) us (means n fs (instead_of us)) (pushed n g fs (expression n b 0 us)))
    (λ us. past n fs (is_sign t.quote) whole next (λ vs. refl) us)
    ts

tried_keeps : (n line : ℕ) (fs : Frames a_statement) (p : FoundBlock) (ts : List Placed)
    → Keeps n (means n fs (resume n (f.tried line) p ts)) ts (tried line fs p ts)
tried_keeps n line fs p ts =
    let g = f.finally_of line p in
    let h = f.arms_of line p in
    let next = reads_block (push (f.to_word t.endtry_word) (push g fs)) in
    let cleanup = λ (us : List Placed). and_then (in_programs.block_to t.endtry_word (block n) us) (resume n g) in
    let handled = λ (us : List Placed). and_then (arms n (expression n) (block n) us) (resume n h) in
    on_token n fs (is_keyword t.finally_word) cleanup (λ us. past_word t.except_word us handled) (goes next)
    (past_keyword t.except_word (reads_arms (push h fs)))
    (λ us. now n next us (means n fs (cleanup us))
    (pushed n g fs (in_programs.block_to t.endtry_word (block n) us) ∙ pushed n (f.to_word t.endtry_word) (push g fs) (block n us)))
    (λ us. past n fs (is_keyword t.except_word) handled (reads_arms (push h fs)) (λ vs. pushed n h fs (arms n (expression n) (block n) vs)) us)
    ts

branch_keeps : (n : ℕ) (c : Found) (fs : Frames some_branches_read) (p : FoundBlock) (ts : List Placed)
    → Keeps n (means n fs (resume n (f.block_of_branch c) p ts)) ts (branch_read c fs p ts)
branch_keeps n c fs p ts =
    let g = f.branch_before c p in
    let gs = push g fs in
    let more = branches n (expression n) (block n) in
    let otherwise = λ (us : List Placed). and_then (in_programs.block_to t.endif_word (block n) us) (resume n f.as_else) in
    let ended = λ (us : List Placed). past_word t.endif_word us (got in_programs.no_more_branches) in
    let others = λ (us : List Placed). if_keyword t.else_word otherwise ended us in
    let else_next = reads_block (push (f.to_word t.endif_word) (push f.as_else gs)) in
    let last = found fs (in_programs.with_branch c p in_programs.no_more_branches) in
    via n (means n fs (resume n (f.block_of_branch c) p ts)) (means n gs (if_keyword t.elseif_word more others ts)) ts (branch_read c fs p ts)
    (pushed n g fs (if_keyword t.elseif_word more others ts))
    (on_token n gs (is_keyword t.elseif_word) more others (goes (reads_branches gs))
    (λ us. on_keyword t.else_word (goes else_next) (past_keyword t.endif_word last) us)
    (λ us. now n (reads_branches gs) us (means n gs (more us)) refl)
    (λ us. on_token n gs (is_keyword t.else_word) otherwise ended (goes else_next) (past_keyword t.endif_word last)
    (λ vs. now n else_next vs (means n gs (otherwise vs))
    (pushed n f.as_else gs (in_programs.block_to t.endif_word (block n) vs) ∙ pushed n (f.to_word t.endif_word) (push f.as_else gs) (block n vs)))
    (λ vs. past n gs (is_keyword t.endif_word) (got in_programs.no_more_branches) last (λ ws. refl) vs)
    us)
    ts)

arm_keeps : (n : ℕ) (x : Option Text) (c : FoundCodes) (fs : Frames some_arms_read) (p : FoundBlock) (ts : List Placed)
    → Keeps n (means n fs (resume n (f.block_of_arm x c) p ts)) ts (arm_read x c fs p ts)
arm_keeps n x c fs p ts =
    let g = f.arm_before x c p in
    let gs = push g fs in
    let more = arms n (expression n) (block n) in
    let ended = λ (us : List Placed). past_word t.endtry_word us (got in_programs.no_more_arms) in
    let last = found fs (in_programs.with_arm x c p in_programs.no_more_arms) in
    via n (means n fs (resume n (f.block_of_arm x c) p ts)) (means n gs (if_keyword t.except_word more ended ts)) ts (arm_read x c fs p ts)
    (pushed n g fs (if_keyword t.except_word more ended ts))
    (on_token n gs (is_keyword t.except_word) more ended (goes (reads_arms gs)) (past_keyword t.endtry_word last)
    (λ us. now n (reads_arms gs) us (means n gs (more us)) refl)
    (λ us. past n gs (is_keyword t.endtry_word) (got in_programs.no_more_arms) last (λ vs. refl) us)
    ts)

pub behind_keeps : {a c : Kind} (n : ℕ) (g : Frame a c) (fs : Frames c) (v : Of a) (ts : List Placed)
    → Keeps n (means n fs (resume n g v ts)) ts (behind g fs v ts)
behind_keeps n (f.in_parentheses line) fs e ts = past n fs (is_sign t.close_parenthesis) (got (record e { line = line }))
    (found fs (record e { line = line })) (λ us. refl) ts
behind_keeps n f.as_operand fs e ts = record { means = refl; left = omega arith }
behind_keeps n (f.behind_sign u line) fs e ts = record { means = refl; left = omega arith }
behind_keeps n (f.behind_argument b spliced) fs e ts = argument_keeps n b spliced fs e ts
behind_keeps n (f.argument_before spliced e) fs es ts = record { means = refl; left = omega arith }
behind_keeps n (f.to_sign s) fs es ts = past n fs (is_sign s) (got es) (found fs es) (λ us. refl) ts
behind_keeps n (f.call_of x line) fs es ts = record { means = refl; left = omega arith }
behind_keeps n (f.property_name b o) fs p ts = record { means = refl; left = omega arith }
behind_keeps n (f.verb_name b o) fs v ts = verb_keeps n b o.found v fs ts
behind_keeps n (f.verb_arguments o v) fs es ts = record { means = refl; left = omega arith }
behind_keeps n (f.steps_behind b) fs o ts = record { means = refl; left = omega arith }
behind_keeps n (f.index_in b o) fs i ts = index_keeps n b o fs i ts
behind_keeps n (f.range_in b o i) fs j ts =
    past n fs (is_sign t.close_bracket) (steps n (expression n) b (by.range_of o i j)) (reads_steps b (by.range_of o i j) fs) (λ us. refl) ts
behind_keeps n (f.value_behind b k) fs o ts = braces_keep n b k o o.braces fs ts
behind_keeps n (f.right_of b k a j) fs c ts = record { means = refl; left = omega arith }
behind_keeps n (f.chosen_first b k c) fs x ts =
    past n fs (is_sign t.bar) (λ us. and_then (expression n b 1 us) (resume n (f.chosen_second b k c x)))
    (reads_expression b 1 (push (f.chosen_second b k c x) fs))
    (λ us. pushed n (f.chosen_second b k c x) fs (expression n b 1 us)) ts
behind_keeps n (f.chosen_second b k c x) fs y ts = record { means = refl; left = omega arith }
behind_keeps n (f.assigned_to a x) fs e ts = record { means = refl; left = omega arith }
behind_keeps n (f.scattered_to line items ns) fs e ts = record { means = refl; left = omega arith }
behind_keeps n (f.item_expression b a spliced) fs e ts = items_keep n b (by.list_alone a) (f.other spliced e) fs ts
behind_keeps n (f.item_default b a x) fs e ts = items_keep n b (by.scatter_alone a) (f.with_its_default x e) fs ts
behind_keeps n (f.item_before i) fs g ts = record { means = refl; left = omega arith }
behind_keeps n (f.in_braces line) fs g ts = record { means = refl; left = omega arith }
behind_keeps n (f.caught_in b line) fs e ts =
    on_token n fs (is_sign t.not_sign) (λ us. and_then (by.error_codes n (expression n) b us) (resume n (f.caught_codes b line e))) stuck
    (codes_begin b (push (f.caught_codes b line e) fs)) stops
    (λ us. via n (means n fs (and_then (by.error_codes n (expression n) b us) (resume n (f.caught_codes b line e))))
    (means n (push (f.caught_codes b line e) fs) (by.error_codes n (expression n) b us)) us (codes_begin b (push (f.caught_codes b line e) fs) us)
    (pushed n (f.caught_codes b line e) fs (by.error_codes n (expression n) b us))
    (codes_keep n b (push (f.caught_codes b line e) fs) us))
    (λ us. record { means = refl; left = omega arith })
    ts
behind_keeps n (f.caught_codes b line e) fs c ts = codes_keeps n b line e fs c ts
behind_keeps n f.as_codes fs es ts = record { means = refl; left = omega arith }
behind_keeps n (f.caught_instead line e c) fs d ts =
    past n fs (is_sign t.quote) (got (by.caught_with line e c (instead d.tree) d.nodes))
    (found fs (by.caught_with line e c (instead d.tree) d.nodes)) (λ us. refl) ts
behind_keeps n (f.statement_before s) fs p ts = record { means = refl; left = omega arith }
behind_keeps n f.block_behind fs s ts =
    now n (reads_block (push (f.statement_before s) fs)) ts (means n fs (resume n f.block_behind s ts))
    (pushed n (f.statement_before s) fs (block n ts))
behind_keeps n (f.to_word k) fs p ts = past n fs (is_keyword k) (got p) (found fs p) (λ us. refl) ts
behind_keeps n f.in_head fs e ts = past n fs (is_sign t.close_parenthesis) (got e) (found fs e) (λ us. refl) ts
behind_keeps n (f.evaluated line) fs e ts =
    past n fs (is_sign t.semicolon) (got (in_programs.simple line (evaluate e.tree) e.nodes))
    (found fs (in_programs.simple line (evaluate e.tree) e.nodes)) (λ us. refl) ts
behind_keeps n (f.returned line) fs e ts =
    past n fs (is_sign t.semicolon) (got (in_programs.simple line (give e.tree) e.nodes)) (found fs (in_programs.simple line (give e.tree) e.nodes))
    (λ us. refl) ts
behind_keeps n (f.branches_of line) fs b ts = record { means = refl; left = omega arith }
behind_keeps n f.condition fs c ts =
    now n (reads_block (push (f.block_of_branch c) fs)) ts (means n fs (resume n f.condition c ts)) (pushed n (f.block_of_branch c) fs (block n ts))
behind_keeps n (f.block_of_branch c) fs p ts = branch_keeps n c fs p ts
behind_keeps n (f.branch_before c p) fs b ts = record { means = refl; left = omega arith }
behind_keeps n f.as_else fs p ts = record { means = refl; left = omega arith }
behind_keeps n (f.head_of line h) fs e ts =
    now n (body_begins line (f.body_of h e) fs) ts (means n fs (resume n (f.head_of line h) e ts)) (body_means n line (f.body_of h e) fs ts)
behind_keeps n (f.range_first line x) fs a ts =
    past n fs (is_sign t.double_dot) (λ us. and_then (expression n false 0 us) (resume n (f.range_last line x a)))
    (reads_expression false 0 (push (f.range_last line x a) fs))
    (λ us. pushed n (f.range_last line x a) fs (expression n false 0 us)) ts
behind_keeps n (f.range_last line x a) fs b ts =
    past n fs (is_sign t.close_bracket) (body_read n line (f.range_body x a b)) (body_begins line (f.range_body x a b) fs)
    (λ us. body_means n line (f.range_body x a b) fs us) ts
behind_keeps n (f.block_of_body line b) fs p ts = record { means = refl; left = omega arith }
behind_keeps n (f.tried line) fs p ts = tried_keeps n line fs p ts
behind_keeps n (f.finally_of line p) fs q ts = record { means = refl; left = omega arith }
behind_keeps n (f.arms_of line p) fs a ts = record { means = refl; left = omega arith }
behind_keeps n (f.codes_of_arm x) fs c ts =
    past n fs (is_sign t.close_parenthesis) (λ us. and_then (block n us) (resume n (f.block_of_arm x c))) (reads_block (push (f.block_of_arm x c) fs))
    (λ us. pushed n (f.block_of_arm x c) fs (block n us)) ts
behind_keeps n (f.block_of_arm x c) fs p ts = arm_keeps n x c fs p ts
behind_keeps n (f.arm_before x c p) fs a ts = record { means = refl; left = omega arith }
