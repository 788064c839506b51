-- Parts that several frames share.
use Rattle.std.proofs.Common.{◌≡◌, ℕ, zero, suc, Bool, List, refl, ◌∙◌, arith}
use Rattle.std.specs.Prelude.{Option, Some, None}
use Rattle.spec_program.specs.Tree.{Target}
use Rattle.spec_program.specs.Tokens as t
use Rattle.spec_program.specs.Tokens.{Sign, Placed}
use Rattle.spec_program.specs.Reading.{Read, got, stuck, and_then, if_sign, is_sign, is_keyword, past_sign as past_this}
use Rattle.spec_program.specs.ReadExpressions as by
use Rattle.spec_program.specs.ReadExpressions.{Found, Operand, Braces, Allowed, some_arguments, steps, items_from, operators, expression}
use Rattle.spec_program.specs.ReadPrograms.{block}
use Rattle.spec_program.specs.Frames as f
use Rattle.spec_program.specs.Frames.{Kind, an_expression, an_operand, some_arguments_read, some_items_read, some_codes_read, a_statement, Of, Frame, Item, Body, Frames, push, resume, means, body_read}
use Rattle.spec_program.specs.BracedMoves.{all_codes}
use Rattle.spec_program.specs.ItemChoices.{goes_on}
use Rattle.spec_program.proofs.MovesHold.{pushed}
use Rattle.spec_reader.specs.Next.{Next, found, reads_expression, reads_operators, reads_arguments, reads_items, goes, stops, next_means}
use Rattle.spec_reader.specs.Ends.{past_sign, arguments_to, items_on, codes_begin, body_begins}
use Rattle.spec_reader.specs.Behind.{verb_named, is_any_level, assigned_or, target_part, target_read, braces_read}
use Rattle.spec_reader.specs.Laws.{Keeps}
use Rattle.spec_reader.proofs.Keeping.{now, via, on_token, past}

pub arguments_keep : (n : ℕ) (s : Sign) (b : Bool) (fs : Frames some_arguments_read) (ts : List Placed)
    → Keeps n (means n fs (by.arguments_to s n (expression n) b ts)) ts (arguments_to s b fs ts)
arguments_keep n s b fs ts =
    on_token n fs (is_sign s) (got by.none_found) (λ us. and_then (some_arguments n (expression n) b us) (resume n (f.to_sign s)))
    (goes (found fs by.none_found)) (goes (reads_arguments b (push (f.to_sign s) fs)))
    (λ us. now n (found fs by.none_found) us (means n fs (got by.none_found us)) refl)
    (λ us. now n (reads_arguments b (push (f.to_sign s) fs)) us (means n fs
    (and_then (some_arguments n (expression n) b us) (resume n (f.to_sign s))))
    (pushed n (f.to_sign s) fs (some_arguments n (expression n) b us)))
    ts

pub verb_keeps : (n : ℕ) (b : Bool) (o v : Found) (fs : Frames an_operand) (ts : List Placed)
    → Keeps n (means n fs (and_then (by.verb_of n (expression n) b o v ts) (steps n (expression n) b))) ts (verb_named b o v fs ts)
verb_keeps n b o v fs ts =
    let gs = push (f.steps_behind b) fs in
    let of_verb = λ (us : List Placed). and_then (by.arguments_to t.close_parenthesis n (expression n) b us) (resume n (f.verb_arguments o v)) in
    via n (means n fs (and_then (by.verb_of n (expression n) b o v ts) (steps n (expression n) b)))
    (means n gs (by.verb_of n (expression n) b o v ts)) ts (verb_named b o v fs ts)
    (pushed n (f.steps_behind b) fs (by.verb_of n (expression n) b o v ts))
    (on_token n gs (is_sign t.open_parenthesis) of_verb stuck (arguments_to t.close_parenthesis b (push (f.verb_arguments o v) gs)) stops
    (λ us. via n (means n gs (of_verb us)) (means n (push (f.verb_arguments o v) gs) (by.arguments_to t.close_parenthesis n (expression n) b us)) us
    (arguments_to t.close_parenthesis b (push (f.verb_arguments o v) gs) us)
    (pushed n (f.verb_arguments o v) gs (by.arguments_to t.close_parenthesis n (expression n) b us))
    (arguments_keep n t.close_parenthesis b (push (f.verb_arguments o v) gs) us))
    (λ us. record { means = refl; left = omega arith })
    ts)

pub codes_keep : (n : ℕ) (b : Bool) (fs : Frames some_codes_read) (ts : List Placed)
    → Keeps n (means n fs (by.error_codes n (expression n) b ts)) ts (codes_begin b fs ts)
codes_keep n b fs ts =
    on_token n fs (is_keyword t.any_word) (got all_codes) (λ us. and_then (some_arguments n (expression n) b us) (resume n f.as_codes))
    (goes (found fs all_codes)) (goes (reads_arguments b (push f.as_codes fs)))
    (λ us. now n (found fs all_codes) us (means n fs (got all_codes us)) refl)
    (λ us. now n (reads_arguments b (push f.as_codes fs)) us (means n fs (and_then (some_arguments n (expression n) b us) (resume n f.as_codes)))
    (pushed n f.as_codes fs (some_arguments n (expression n) b us)))
    ts

pub items_keep : (n : ℕ) (b : Bool) (a : Allowed) (i : Item) (fs : Frames some_items_read) (ts : List Placed)
    → Keeps n (means n fs (goes_on n b a i ts)) ts (items_on b a i fs ts)
items_keep n b a i fs ts =
    let gs = push (f.item_before i) fs in
    let behind = λ (us : List Placed). past_this t.close_brace us (got (by.no_more a)) in
    via n (means n fs (goes_on n b a i ts)) (means n gs (if_sign t.comma (items_from n (expression n) b a) behind ts)) ts (items_on b a i fs ts)
    (pushed n (f.item_before i) fs (if_sign t.comma (items_from n (expression n) b a) behind ts))
    (on_token n gs (is_sign t.comma) (items_from n (expression n) b a) behind (goes (reads_items b a gs))
    (past_sign t.close_brace (found fs (f.with_item i (by.no_more a))))
    (λ us. now n (reads_items b a gs) us (means n gs (items_from n (expression n) b a us)) refl)
    (λ us. past n gs (is_sign t.close_brace) (got (by.no_more a)) (found fs (f.with_item i (by.no_more a))) (λ vs. refl) us)
    ts)

pub body_means : (n line : ℕ) (b : Body) (fs : Frames a_statement) (ts : List Placed)
    → means n fs (body_read n line b ts) ≡ next_means n (body_begins line b fs) ts
body_means n line b fs ts =
    pushed n (f.block_of_body line b) fs (and_then (block n ts) (resume n (f.to_word (f.end_word b))))
    ∙ pushed n (f.to_word (f.end_word b)) (push (f.block_of_body line b) fs) (block n ts)

-- ---- an assignment, or operators

assigned_keep : (n : ℕ) (fs : Frames an_expression) (there absent : List Placed → Read Found) (x y : Next) (k : ℕ)
    → ((us : List Placed) → means n fs (there us) ≡ next_means n x us) → ((us : List Placed) → means n fs (absent us) ≡ next_means n y us)
    → (ts : List Placed) → Keeps n (means n fs (by.if_any_level k there absent ts)) ts (assigned_or x y (is_any_level k) ts)
assigned_keep n fs there absent x y zero h g ts =
    on_token n fs (is_sign t.assign) there absent (goes x) (goes y)
    (λ us. now n x us (means n fs (there us)) (h us)) (λ us. now n y us (means n fs (absent us)) (g us)) ts
assigned_keep n fs there absent x y (suc k) h g ts = now n y ts (means n fs (absent ts)) (g ts)

target_keeps : (n : ℕ) (b : Bool) (k : ℕ) (e : Found) (target : Option Target) (fs : Frames an_expression) (ts : List Placed)
    → Keeps n (means n fs (by.target_or_value (expression n) b k e target (operators n (expression n) b k e) ts)) ts (target_read b k e target fs ts)
target_keeps n b k e None fs ts = now n (reads_operators b k e fs) ts (means n fs (operators n (expression n) b k e ts)) refl
target_keeps n b k e (Some x) fs ts =
    let g = f.assigned_to (target_part e) x in
    assigned_keep n fs (λ us. and_then (expression n b 0 us) (resume n g)) (operators n (expression n) b k e)
    (reads_expression b 0 (push g fs)) (reads_operators b k e fs) k
    (λ us. pushed n g fs (expression n b 0 us)) (λ us. refl) ts

pub braces_keep : (n : ℕ) (b : Bool) (k : ℕ) (o : Operand) (bs : Braces) (fs : Frames an_expression) (ts : List Placed)
    → Keeps n (means n fs (by.braces_or_value (expression n) b k o bs (operators n (expression n) b k o.found) ts)) ts (braces_read b k o bs fs ts)
braces_keep n b k o by.no_braces fs ts = target_keeps n b k o.found o.target fs ts
braces_keep n b k o (by.perhaps_scatter items ns) fs ts =
    let g = f.scattered_to o.found.line items ns in
    assigned_keep n fs (λ us. and_then (expression n b 0 us) (resume n g)) (operators n (expression n) b k o.found)
    (reads_expression b 0 (push g fs)) (reads_operators b k o.found fs) k
    (λ us. pushed n g fs (expression n b 0 us)) (λ us. refl) ts
braces_keep n b zero o (by.surely_scatter items ns) fs ts =
    let g = f.scattered_to o.found.line items ns in
    past n fs (is_sign t.assign) (λ us. and_then (expression n b 0 us) (resume n g)) (reads_expression b 0 (push g fs))
    (λ us. pushed n g fs (expression n b 0 us)) ts
braces_keep n b (suc k) o (by.surely_scatter items ns) fs ts = record { means = refl; left = omega arith }
