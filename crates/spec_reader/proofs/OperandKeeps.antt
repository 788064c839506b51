-- Where an operand, what is behind it, or arguments are read: each token keeps what is still to be read.
use Rattle.std.proofs.Common.{◌≡◌, ℕ, ◌<◌, Bool, true, false, List, [], ◌∷◌, length, refl, ap, ◌∙◌, arith}
use Rattle.std.specs.Prelude.{nat_le}
use Rattle.spec_value.specs.Datum as value
use Rattle.spec_value.specs.Datum.{Datum, Text}
use Rattle.spec_value.specs.Operators.{negation, not_true}
use Rattle.spec_program.specs.Spelling.{operator_level, right_level}
use Rattle.spec_program.specs.Tree.{literal, listing, no_arguments}
use Rattle.spec_program.specs.Tokens as t
use Rattle.spec_program.specs.Tokens.{Token, Placed}
use Rattle.spec_program.specs.Reading.{Read, got, stuck, and_then, chosen, if_sign, is_sign}
use Rattle.spec_program.specs.ReadExpressions as by
use Rattle.spec_program.specs.ReadExpressions.{Found, Operand, Joint, joint, some_arguments, steps, items_from, operators, expression}
use Rattle.spec_program.specs.ReadPrograms.{FoundBlock}
use Rattle.spec_program.specs.Frames as f
use Rattle.spec_program.specs.Frames.{an_expression, an_operand, some_arguments_read, Frames, push, resume, means}
use Rattle.spec_program.specs.Moves.{at}
use Rattle.spec_program.specs.FurtherMoves.{name_at}
use Rattle.spec_program.specs.BracedMoves.{all_allowed}
use Rattle.spec_program.proofs.MovesHold.{pushed, arguments_again, steps_again, operators_again, expression_move}
use Rattle.spec_reader.specs.Next.{Next, found, reads_expression, reads_steps, reads_items, State, goes, next_means, on, if_there}
use Rattle.spec_reader.specs.Ends.{arguments_to}
use Rattle.spec_reader.specs.Begins.{literal_begins, variable_at, word_begins, system_begins, dollar_alone, dollar_begins, brace_begins, operand_by, operand_begins, name_begins, step_by, steps_unless, if_tight, joint_by, operators_begin, arguments_begin}
use Rattle.spec_reader.specs.Laws.{Keeps}
use Rattle.spec_reader.proofs.Keeping.{now, via, later, on_token}
use Rattle.spec_reader.proofs.Parts.{arguments_keep}

-- past a token
next_is : (n : ℕ) (x : Next) (p : Placed) (ts : List Placed) (r : Read FoundBlock) → r ≡ next_means n x ts → Keeps n r (p ∷ ts) (goes x ts)
next_is n x p ts r e = later n r p ts (goes x ts) (now n x ts r e)

-- ---- operands

word_keeps : (n : ℕ) (b : Bool) (x : Text) (line : ℕ) (fs : Frames an_operand) (ts : List Placed)
    → Keeps n (means n (push (f.steps_behind b) fs) (by.word_first n (expression n) b x line ts)) ts (word_begins b x line fs ts)
word_keeps n b x line fs ts =
    let gs = push (f.steps_behind b) fs in
    let called = λ (us : List Placed). and_then (by.arguments_to t.close_parenthesis n (expression n) b us) (resume n (f.call_of x line)) in
    on_token n gs (is_sign t.open_parenthesis) called (got (variable_at line x)) (arguments_to t.close_parenthesis b (push (f.call_of x line) gs))
    (goes (reads_steps b (variable_at line x) fs))
    (λ us. via n (means n gs (called us)) (means n (push (f.call_of x line) gs) (by.arguments_to t.close_parenthesis n (expression n) b us)) us
    (arguments_to t.close_parenthesis b (push (f.call_of x line) gs) us)
    (pushed n (f.call_of x line) gs (by.arguments_to t.close_parenthesis n (expression n) b us))
    (arguments_keep n t.close_parenthesis b (push (f.call_of x line) gs) us))
    (λ us. record { means = refl; left = omega arith })
    ts

system_keeps : (n : ℕ) (b : Bool) (line : ℕ) (x : Found) (fs : Frames an_operand) (ts : List Placed)
    → Keeps n (means n (push (f.steps_behind b) fs) (by.system_first n (expression n) b line x ts)) ts (system_begins b line x fs ts)
system_keeps n b line x fs [] = record { means = refl; left = omega arith }
system_keeps n b line x fs (p ∷ ts) = by_sign (is_sign t.open_parenthesis p.token)
  where
    gs : Frames an_operand
    gs = push (f.steps_behind b) fs

    g : f.Frame f.some_arguments_read an_operand
    g = f.verb_arguments (by.system_at line) x

    called : List Placed → Read Operand
    called us = and_then (by.arguments_to t.close_parenthesis n (expression n) b us) (resume n g)

    named : Operand
    named = by.property_of (by.system_at line) x

    by_sign : (c : Bool)
        → Keeps n (means n gs (chosen c (λ us. chosen c called stuck ts (p ∷ ts)) (got named) ts (p ∷ ts))) (p ∷ ts)
        (on (arguments_to t.close_parenthesis b (push g gs)) (goes (reads_steps b named fs)) (if_there c p ts))
    by_sign true =
        later n (means n gs (called ts)) p ts (arguments_to t.close_parenthesis b (push g gs) ts)
        (via n (means n gs (called ts)) (means n (push g gs) (by.arguments_to t.close_parenthesis n (expression n) b ts)) ts
        (arguments_to t.close_parenthesis b (push g gs) ts)
        (pushed n g gs (by.arguments_to t.close_parenthesis n (expression n) b ts))
        (arguments_keep n t.close_parenthesis b (push g gs) ts))
    by_sign false = record { means = refl; left = omega arith }

alone_keeps : (n : ℕ) (b : Bool) (line : ℕ) (fs : Frames an_operand) (ts : List Placed)
    → Keeps n (means n (push (f.steps_behind b) fs) (by.dollar_alone b line ts)) ts (dollar_alone b line fs ts)
alone_keeps n true line fs ts = record { means = refl; left = omega arith }
alone_keeps n false line fs ts = record { means = refl; left = omega arith }

dollar_keeps : (n : ℕ) (b : Bool) (line : ℕ) (fs : Frames an_operand) (ts : List Placed)
    → Keeps n (means n (push (f.steps_behind b) fs) (by.dollar_first n (expression n) b line ts)) ts (dollar_begins b line fs ts)
dollar_keeps n b line fs [] = alone_keeps n b line fs []
dollar_keeps n b line fs (p ∷ ts) = by_token p.token p.line
  where
    by_token : (k : Token) (l : ℕ)
        → Keeps n (means n (push (f.steps_behind b) fs) (by.dollar_first n (expression n) b line (at l k ∷ ts))) (at l k ∷ ts)
        (dollar_begins b line fs (at l k ∷ ts))
    by_token (t.word x) l =
        later n (means n (push (f.steps_behind b) fs) (by.system_first n (expression n) b line (name_at l x) ts)) (at l (t.word x)) ts
        (system_begins b line (name_at l x) fs ts) (system_keeps n b line (name_at l x) fs ts)
    by_token (t.keyword k) l = alone_keeps n b line fs (at l (t.keyword k) ∷ ts)
    by_token (t.error_name k) l = alone_keeps n b line fs (at l (t.error_name k) ∷ ts)
    by_token (t.integer k) l = alone_keeps n b line fs (at l (t.integer k) ∷ ts)
    by_token (t.object c k) l = alone_keeps n b line fs (at l (t.object c k) ∷ ts)
    by_token (t.string k) l = alone_keeps n b line fs (at l (t.string k) ∷ ts)
    by_token (t.sign k) l = alone_keeps n b line fs (at l (t.sign k) ∷ ts)
    by_token (t.bad k) l = alone_keeps n b line fs (at l (t.bad k) ∷ ts)

brace_keeps : (n : ℕ) (b : Bool) (k line : ℕ) (fs : Frames an_operand) (ts : List Placed)
    → Keeps n (means n (push (f.steps_behind b) fs) (by.in_braces n (expression n) b k line ts)) ts (brace_begins b k line fs ts)
brace_keeps n b k line fs ts =
    let gs = push (f.steps_behind b) fs in
    let empty = by.whole (by.found_at line (listing no_arguments) []) in
    let items = λ (us : List Placed). and_then (items_from n (expression n) b (all_allowed k) us) (resume n (f.in_braces line)) in
    on_token n gs (is_sign t.close_brace) (got empty) items (goes (reads_steps b empty fs))
    (goes (reads_items b (all_allowed k) (push (f.in_braces line) gs)))
    (λ us. record { means = refl; left = omega arith })
    (λ us. now n (reads_items b (all_allowed k) (push (f.in_braces line) gs)) us (means n gs (items us))
    (pushed n (f.in_braces line) gs (items_from n (expression n) b (all_allowed k) us)))
    ts

-- what is read before the steps behind it
before_steps : (n : ℕ) (b : Bool) (fs : Frames an_operand) (p : Placed) (r : Read Operand) (ts : List Placed) (s : State)
    → Keeps n (means n (push (f.steps_behind b) fs) r) ts s → Keeps n (means n fs (by.with_steps n (expression n) b r)) (p ∷ ts) s
before_steps n b fs p r ts s k =
    later n (means n fs (by.with_steps n (expression n) b r)) p ts s
    (via n (means n fs (by.with_steps n (expression n) b r)) (means n (push (f.steps_behind b) fs) r) ts s (pushed n (f.steps_behind b) fs r) k)

operand_by_sign : (n : ℕ) (b : Bool) (k : ℕ) (fs : Frames an_operand) (s : t.Sign) (line : ℕ) (p : Placed) (ts : List Placed)
    → Keeps n (means n fs (by.operand_by n (expression n) b k (t.sign s) line ts (p ∷ ts))) (p ∷ ts) (operand_by b k fs (t.sign s) line ts (p ∷ ts))
operand_by_sign n b k fs t.minus_sign line p ts =
    let g = f.behind_sign negation line in
    next_is n (reads_expression b 7 (push g fs)) p ts (means n fs (and_then (expression n b 7 ts) (resume n g))) (pushed n g fs (expression n b 7 ts))
operand_by_sign n b k fs t.not_sign line p ts =
    let g = f.behind_sign not_true line in
    next_is n (reads_expression b 7 (push g fs)) p ts (means n fs (and_then (expression n b 7 ts) (resume n g))) (pushed n g fs (expression n b 7 ts))
operand_by_sign n b k fs t.dollar line p ts =
    before_steps n b fs p (by.dollar_first n (expression n) b line ts) ts (dollar_begins b line fs ts) (dollar_keeps n b line fs ts)
operand_by_sign n b k fs t.open_parenthesis line p ts =
    let gs = push (f.steps_behind b) fs in
    let g = f.in_parentheses line in
    let closed = and_then (expression n b 0 ts) (resume n g) in
    before_steps n b fs p (and_then closed (resume n f.as_operand)) ts (goes (reads_expression b 0 (push g (push f.as_operand gs))) ts)
    (now n (reads_expression b 0 (push g (push f.as_operand gs))) ts (means n gs (and_then closed (resume n f.as_operand)))
    (pushed n f.as_operand gs closed ∙ pushed n g (push f.as_operand gs) (expression n b 0 ts)))
operand_by_sign n b k fs t.open_brace line p ts =
    before_steps n b fs p (by.in_braces n (expression n) b k line ts) ts (brace_begins b k line fs ts) (brace_keeps n b k line fs ts)
operand_by_sign n b k fs t.backquote line p ts =
    let gs = push (f.steps_behind b) fs in
    let g = f.caught_in b line in
    before_steps n b fs p (and_then (expression n b 0 ts) (resume n g)) ts (goes (reads_expression b 0 (push g gs)) ts)
    (now n (reads_expression b 0 (push g gs)) ts (means n gs (and_then (expression n b 0 ts) (resume n g))) (pushed n g gs (expression n b 0 ts)))
operand_by_sign n b k fs _ line p ts = record { means = refl; left = omega arith }

literal_keeps : (n : ℕ) (b : Bool) (line : ℕ) (v : Datum) (fs : Frames an_operand) (p : Placed) (ts : List Placed)
    → Keeps n (means n fs (by.with_steps n (expression n) b (by.literal_at line v ts))) (p ∷ ts) (literal_begins b line v fs ts)
literal_keeps n b line v fs p ts =
    let o = by.whole (by.found_at line (literal v) []) in
    next_is n (reads_steps b o fs) p ts (means n fs (steps n (expression n) b o ts)) refl

operand_by_token : (n : ℕ) (b : Bool) (k : ℕ) (fs : Frames an_operand) (x : Token) (line : ℕ) (p : Placed) (ts : List Placed)
    → Keeps n (means n fs (by.operand_by n (expression n) b k x line ts (p ∷ ts))) (p ∷ ts) (operand_by b k fs x line ts (p ∷ ts))
operand_by_token n b k fs (t.sign s) line p ts = operand_by_sign n b k fs s line p ts
operand_by_token n b k fs (t.integer m) line p ts = literal_keeps n b line (value.integer (by.integer_value m)) fs p ts
operand_by_token n b k fs (t.object below m) line p ts = literal_keeps n b line (value.object (by.object_value below m)) fs p ts
operand_by_token n b k fs (t.string x) line p ts = literal_keeps n b line (value.text x) fs p ts
operand_by_token n b k fs (t.error_name e) line p ts = literal_keeps n b line (value.error e) fs p ts
operand_by_token n b k fs (t.keyword w) line p ts = record { means = refl; left = omega arith }
operand_by_token n b k fs (t.bad w) line p ts = record { means = refl; left = omega arith }
operand_by_token n b k fs (t.word x) line p ts =
    before_steps n b fs p (by.word_first n (expression n) b x line ts) ts (word_begins b x line fs ts) (word_keeps n b x line fs ts)

pub operand_keeps : (n : ℕ) (b : Bool) (k : ℕ) (fs : Frames an_operand) (ts : List Placed)
    → Keeps n (means n fs (by.operand n (expression n) b k ts)) ts (operand_begins b k fs ts)
operand_keeps n b k fs [] = record { means = refl; left = omega arith }
operand_keeps n b k fs (p ∷ ts) = operand_by_token n b k fs p.token p.line p ts

pub expression_keeps : (n : ℕ) (b : Bool) (k : ℕ) (fs : Frames an_expression) (ts : List Placed) → length ts < n
    → Keeps n (means n fs (expression n b k ts)) ts (operand_begins b k (push (f.value_behind b k) fs) ts)
expression_keeps n b k fs ts h =
    via n (means n fs (expression n b k ts)) (means n (push (f.value_behind b k) fs) (by.operand n (expression n) b k ts)) ts
    (operand_begins b k (push (f.value_behind b k) fs) ts)
    (expression_move n b k ts fs h) (operand_keeps n b k (push (f.value_behind b k) fs) ts)

-- ---- steps

name_keeps : (n : ℕ) (b : Bool) (fs : Frames an_expression) (ts : List Placed)
    → Keeps n (means n fs (by.name (expression n) b ts)) ts (name_begins b fs ts)
name_keeps n b fs [] = record { means = refl; left = omega arith }
name_keeps n b fs (p ∷ ts) = by_token p.token p.line
  where
    by_sign : (s : t.Sign) (l : ℕ) → Keeps n (means n fs (by.name (expression n) b (at l (t.sign s) ∷ ts))) (at l (t.sign s) ∷ ts)
        (name_begins b fs (at l (t.sign s) ∷ ts))
    by_sign t.open_parenthesis l =
        next_is n (reads_expression b 0 (push (f.in_parentheses l) fs)) (at l (t.sign t.open_parenthesis)) ts
        (means n fs (and_then (expression n b 0 ts) (resume n (f.in_parentheses l))))
        (pushed n (f.in_parentheses l) fs (expression n b 0 ts))
    by_sign _ l = record { means = refl; left = omega arith }

    by_token : (k : Token) (l : ℕ) → Keeps n (means n fs (by.name (expression n) b (at l k ∷ ts))) (at l k ∷ ts) (name_begins b fs (at l k ∷ ts))
    by_token (t.word x) l = next_is n (found fs (name_at l x)) (at l (t.word x)) ts (means n fs (got (name_at l x) ts)) refl
    by_token (t.sign s) l = by_sign s l
    by_token _ l = record { means = refl; left = omega arith }

step_keeps : (n : ℕ) (b : Bool) (o : Operand) (fs : Frames an_operand) (x : Token) (p : Placed) (ts : List Placed)
    → Keeps n (means n fs (by.step_after n (expression n) b (steps n (expression n) b) o x ts (p ∷ ts))) (p ∷ ts) (step_by b o fs x ts (p ∷ ts))
step_keeps n b o fs (t.sign s) p ts = by_sign s
  where
    named : (g : f.Frame an_expression an_operand)
        → Keeps n (means n fs (and_then (by.name (expression n) b ts) (resume n g))) (p ∷ ts) (name_begins b (push g fs) ts)
    named g =
        later n (means n fs (and_then (by.name (expression n) b ts) (resume n g))) p ts (name_begins b (push g fs) ts)
        (via n (means n fs (and_then (by.name (expression n) b ts) (resume n g))) (means n (push g fs) (by.name (expression n) b ts)) ts
        (name_begins b (push g fs) ts)
        (pushed n g fs (by.name (expression n) b ts)) (name_keeps n b (push g fs) ts))

    by_sign : (s : t.Sign)
        → Keeps n (means n fs (by.step_after n (expression n) b (steps n (expression n) b) o (t.sign s) ts (p ∷ ts))) (p ∷ ts)
        (step_by b o fs (t.sign s) ts (p ∷ ts))
    by_sign t.dot = named (f.property_name b o)
    by_sign t.colon = named (f.verb_name b o)
    by_sign t.open_bracket =
        next_is n (reads_expression true 0 (push (f.index_in b o) fs)) p ts
        (means n fs (and_then (expression n true 0 ts) (resume n (f.index_in b o))))
        (pushed n (f.index_in b o) fs (expression n true 0 ts))
    by_sign _ = record { means = refl; left = omega arith }
step_keeps n b o fs _ p ts = record { means = refl; left = omega arith }

steps_by : (n : ℕ) (c b : Bool) (o : Operand) (fs : Frames an_operand) (ts : List Placed)
    → Keeps n (means n fs (by.steps_unless c n (expression n) b (steps n (expression n) b) o ts)) ts (steps_unless c b o fs ts)
steps_by n true b o fs ts = record { means = refl; left = omega arith }
steps_by n false b o fs [] = record { means = refl; left = omega arith }
steps_by n false b o fs (p ∷ ts) = step_keeps n b o fs p.token p ts

pub steps_keep : (n : ℕ) (b : Bool) (o : Operand) (fs : Frames an_operand) (ts : List Placed) → length ts < n
    → Keeps n (means n fs (steps n (expression n) b o ts)) ts (steps_unless (by.is_surely_scatter o.braces) b o fs ts)
steps_keep n b o fs ts h =
    let again = by.steps_unless (by.is_surely_scatter o.braces) n (expression n) b (steps n (expression n) b) o ts in
    via n (means n fs (steps n (expression n) b o ts)) (means n fs again) ts (steps_unless (by.is_surely_scatter o.braces) b o fs ts)
    (ap (λ r. means n fs r) (steps_again n b o ts h)) (steps_by n (by.is_surely_scatter o.braces) b o fs ts)

-- ---- operators

tight_keeps : (n : ℕ) (fs : Frames an_expression) (a : Found) (c : Bool) (more : List Placed → Read Found) (x : Next) (p : Placed) (ts : List Placed)
    → means n fs (more ts) ≡ next_means n x ts
    → Keeps n (means n fs (by.if_tight c more (got a) ts (p ∷ ts))) (p ∷ ts) (if_tight c x (found fs a) ts (p ∷ ts))
tight_keeps n fs a true more x p ts e = next_is n x p ts (means n fs (more ts)) e
tight_keeps n fs a false more x p ts e = record { means = refl; left = omega arith }

joint_keeps : (n : ℕ) (b : Bool) (k : ℕ) (a : Found) (fs : Frames an_expression) (j : Joint) (p : Placed) (ts : List Placed)
    → Keeps n (means n fs (by.join_by (expression n) b (operators n (expression n) b k) k a j ts (p ∷ ts))) (p ∷ ts) (joint_by b k a fs j ts (p ∷ ts))
joint_keeps n b k a fs (by.operator o) p ts =
    let g = f.right_of b k a (f.by_operator o) in
    tight_keeps n fs a (nat_le k (operator_level o)) (λ us. and_then (expression n b (right_level o) us) (resume n g))
    (reads_expression b (right_level o) (push g fs)) p ts
    (pushed n g fs (expression n b (right_level o) ts))
joint_keeps n b k a fs by.and_joint p ts =
    let g = f.right_of b k a f.by_both in
    tight_keeps n fs a (nat_le k 2) (λ us. and_then (expression n b 3 us) (resume n g)) (reads_expression b 3 (push g fs)) p ts
    (pushed n g fs (expression n b 3 ts))
joint_keeps n b k a fs by.or_joint p ts =
    let g = f.right_of b k a f.by_either in
    tight_keeps n fs a (nat_le k 2) (λ us. and_then (expression n b 3 us) (resume n g)) (reads_expression b 3 (push g fs)) p ts
    (pushed n g fs (expression n b 3 ts))
joint_keeps n b k a fs by.question_joint p ts =
    let g = f.chosen_first b k a in
    tight_keeps n fs a (nat_le k 1) (λ us. and_then (expression n b 0 us) (resume n g)) (reads_expression b 0 (push g fs)) p ts
    (pushed n g fs (expression n b 0 ts))
joint_keeps n b k a fs by.no_joint p ts = record { means = refl; left = omega arith }

operators_by : (n : ℕ) (b : Bool) (k : ℕ) (a : Found) (fs : Frames an_expression) (ts : List Placed)
    → Keeps n (means n fs (by.join_next (expression n) b (operators n (expression n) b k) k a ts)) ts (operators_begin b k a fs ts)
operators_by n b k a fs [] = record { means = refl; left = omega arith }
operators_by n b k a fs (p ∷ ts) = joint_keeps n b k a fs (joint p.token) p ts

pub operators_keep : (n : ℕ) (b : Bool) (k : ℕ) (a : Found) (fs : Frames an_expression) (ts : List Placed) → length ts < n
    → Keeps n (means n fs (operators n (expression n) b k a ts)) ts (operators_begin b k a fs ts)
operators_keep n b k a fs ts h =
    via n (means n fs (operators n (expression n) b k a ts)) (means n fs (by.join_next (expression n) b (operators n (expression n) b k) k a ts)) ts
    (operators_begin b k a fs ts)
    (ap (λ r. means n fs r) (operators_again n b k a ts h)) (operators_by n b k a fs ts)

-- ---- arguments

pub some_arguments_keep : (n : ℕ) (b : Bool) (fs : Frames some_arguments_read) (ts : List Placed) → length ts < n
    → Keeps n (means n fs (some_arguments n (expression n) b ts)) ts (arguments_begin b fs ts)
some_arguments_keep n b fs ts h =
    let one = λ (c : Bool) (us : List Placed). by.one_argument (expression n) b (some_arguments n (expression n) b) c us in
    via n (means n fs (some_arguments n (expression n) b ts)) (means n fs (if_sign t.at_sign (one true) (one false) ts)) ts (arguments_begin b fs ts)
    (ap (λ r. means n fs r) (arguments_again n b ts h))
    (on_token n fs (is_sign t.at_sign) (one true) (one false)
    (goes (reads_expression b 0 (push (f.behind_argument b true) fs))) (goes (reads_expression b 0 (push (f.behind_argument b false) fs)))
    (λ us. now n (reads_expression b 0 (push (f.behind_argument b true) fs)) us (means n fs (one true us))
    (pushed n (f.behind_argument b true) fs (expression n b 0 us)))
    (λ us. now n (reads_expression b 0 (push (f.behind_argument b false) fs)) us (means n fs (one false us))
    (pushed n (f.behind_argument b false) fs (expression n b 0 us)))
    ts)
