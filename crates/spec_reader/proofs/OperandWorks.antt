-- Where an operand, what is behind it, or arguments are read: what each token does of the work.
use Rattle.std.proofs.Common.{ℕ, suc, ◌+◌, ◌*◌, ◌<◌, Bool, true, false, List, [], ◌∷◌, ◌++◌, length, refl, arith}
use Rattle.std.specs.Prelude.{nat_le}
use Rattle.spec_value.specs.Datum.{Text}
use Rattle.spec_program.specs.Spelling.{operator_level, right_level}
use Rattle.spec_program.specs.Tree.{listing, no_arguments}
use Rattle.spec_program.specs.Tokens as t
use Rattle.spec_program.specs.Tokens.{FaultKind, Token, Placed}
use Rattle.spec_program.specs.Reading.{is_sign}
use Rattle.spec_program.specs.ReadExpressions as by
use Rattle.spec_program.specs.ReadExpressions.{Found, Operand, Joint, joint}
use Rattle.spec_program.specs.Frames as f
use Rattle.spec_program.specs.Frames.{an_expression, an_operand, some_arguments_read, Frames, push}
use Rattle.spec_program.specs.FurtherMoves.{name_at}
use Rattle.spec_program.specs.BracedMoves.{all_allowed}
use Rattle.spec_reader.specs.Next.{Next, found, reads_expression, reads_steps, reads_items, goes}
use Rattle.spec_reader.specs.Ends.{arguments_to}
use Rattle.spec_reader.specs.Begins.{variable_at, word_begins, system_begins, dollar_alone, dollar_begins, brace_begins, operand_by, operand_begins, name_by, name_begins, step_by, steps_unless, if_tight, joint_by, operators_begin, arguments_begin}
use Rattle.spec_reader.specs.Work.{next_work, frames_work}
use Rattle.spec_reader.specs.Whole.{bad_at}
use Rattle.spec_reader.proofs.Working.{Does, on_token, on_a_word}
use Rattle.spec_reader.proofs.EndWorks.{arguments_work}

-- ---- operands, past their first token

word_works : (m : ℕ) (k : FaultKind) (l : ℕ) (b : Bool) (x : Text) (line : ℕ) (fs : Frames an_operand) (ts : List Placed)
    → 6 + frames_work fs + 10 * length ts < m
    → Does m (bad_at k l) (word_begins b x line fs ts) (word_begins b x line fs (ts ++ bad_at k l ∷ []))
word_works m k l b x line fs ts h =
    let gs = push (f.call_of x line) (push (f.steps_behind b) fs) in
    on_token m k l (is_sign t.open_parenthesis) (arguments_to t.close_parenthesis b gs) (goes (reads_steps b (variable_at line x) fs)) ts refl
    (λ us n. arguments_work m k l t.close_parenthesis b gs us (omega arith)) (record { less = omega arith; same = refl })

system_works : (m : ℕ) (k : FaultKind) (l : ℕ) (b : Bool) (line : ℕ) (x : Found) (fs : Frames an_operand) (ts : List Placed)
    → 6 + frames_work fs + 10 * length ts < m
    → Does m (bad_at k l) (system_begins b line x fs ts) (system_begins b line x fs (ts ++ bad_at k l ∷ []))
system_works m k l b line x fs ts h =
    let gs = push (f.verb_arguments (by.system_at line) x) (push (f.steps_behind b) fs) in
    on_token m k l (is_sign t.open_parenthesis) (arguments_to t.close_parenthesis b gs)
    (goes (reads_steps b (by.property_of (by.system_at line) x) fs)) ts refl
    (λ us n. arguments_work m k l t.close_parenthesis b gs us (omega arith)) (record { less = omega arith; same = refl })

alone_works : (m : ℕ) (k : FaultKind) (l : ℕ) (b : Bool) (line : ℕ) (fs : Frames an_operand) (ts : List Placed)
    → 6 + frames_work fs + 10 * length ts < m
    → Does m (bad_at k l) (dollar_alone b line fs ts) (dollar_alone b line fs (ts ++ bad_at k l ∷ []))
alone_works m k l true line fs ts h = record { less = omega arith; same = refl }
alone_works m k l false line fs ts h = record { less = omega arith; same = refl }

dollar_works : (m : ℕ) (k : FaultKind) (l : ℕ) (b : Bool) (line : ℕ) (fs : Frames an_operand) (ts : List Placed)
    → 6 + frames_work fs + 10 * length ts < m
    → Does m (bad_at k l) (dollar_begins b line fs ts) (dollar_begins b line fs (ts ++ bad_at k l ∷ []))
dollar_works m k l b line fs ts h =
    on_a_word m k l (λ x at us. system_begins b line (name_at at x) fs us) (dollar_alone b line fs) ts
    (λ x at us n. system_works m k l b line (name_at at x) fs us (omega arith)) (alone_works m k l b line fs ts h)

brace_works : (m : ℕ) (k : FaultKind) (l : ℕ) (b : Bool) (j line : ℕ) (fs : Frames an_operand) (ts : List Placed)
    → 6 + frames_work fs + 10 * length ts < m
    → Does m (bad_at k l) (brace_begins b j line fs ts) (brace_begins b j line fs (ts ++ bad_at k l ∷ []))
brace_works m k l b j line fs ts h =
    on_token m k l (is_sign t.close_brace) (goes (reads_steps b (by.whole (by.found_at line (listing no_arguments) [])) fs))
    (goes (reads_items b (all_allowed j) (push (f.in_braces line) (push (f.steps_behind b) fs)))) ts refl
    (λ us n. record { less = omega arith; same = refl }) (record { less = omega arith; same = refl })

operand_by_sign : (m : ℕ) (k : FaultKind) (l : ℕ) (b : Bool) (j : ℕ) (fs : Frames an_operand) (s : t.Sign) (line : ℕ) (p : Placed) (ts : List Placed)
    → 6 + frames_work fs + 10 * length ts < m → 10 * suc (length ts) < m
    → Does m (bad_at k l) (operand_by b j fs (t.sign s) line ts (p ∷ ts))
    (operand_by b j fs (t.sign s) line (ts ++ bad_at k l ∷ []) (p ∷ (ts ++ bad_at k l ∷ [])))
operand_by_sign m k l b j fs t.minus_sign line p ts h i = record { less = omega arith; same = refl }
operand_by_sign m k l b j fs t.not_sign line p ts h i = record { less = omega arith; same = refl }
operand_by_sign m k l b j fs t.dollar line p ts h i = dollar_works m k l b line fs ts h
operand_by_sign m k l b j fs t.open_parenthesis line p ts h i = record { less = omega arith; same = refl }
operand_by_sign m k l b j fs t.open_brace line p ts h i = brace_works m k l b j line fs ts h
operand_by_sign m k l b j fs t.backquote line p ts h i = record { less = omega arith; same = refl }
operand_by_sign m k l b j fs _ line p ts h i = record { less = omega arith; same = refl }

operand_by_token : (m : ℕ) (k : FaultKind) (l : ℕ) (b : Bool) (j : ℕ) (fs : Frames an_operand) (x : Token) (line : ℕ) (p : Placed) (ts : List Placed)
    → 6 + frames_work fs + 10 * length ts < m → 10 * suc (length ts) < m
    → Does m (bad_at k l) (operand_by b j fs x line ts (p ∷ ts)) (operand_by b j fs x line (ts ++ bad_at k l ∷ []) (p ∷ (ts ++ bad_at k l ∷ [])))
operand_by_token m k l b j fs (t.sign s) line p ts h i = operand_by_sign m k l b j fs s line p ts h i
operand_by_token m k l b j fs (t.word x) line p ts h i = word_works m k l b x line fs ts h
operand_by_token m k l b j fs _ line p ts h i = record { less = omega arith; same = refl }

operand_works : (m : ℕ) (k : FaultKind) (l : ℕ) (b : Bool) (j : ℕ) (fs : Frames an_operand) (ts : List Placed)
    → frames_work fs + 10 * length ts < m + 4 → 10 * length ts < m
    → Does m (bad_at k l) (operand_begins b j fs ts) (operand_begins b j fs (ts ++ bad_at k l ∷ []))
operand_works m k l b j fs [] h i = record { less = omega arith; same = refl }
operand_works m k l b j fs (p ∷ ts) h i = operand_by_token m k l b j fs p.token p.line p ts (omega arith) (omega arith)

pub expression_works : (k : FaultKind) (l : ℕ) (b : Bool) (j : ℕ) (fs : Frames an_expression) (ts : List Placed)
    → Does (next_work (reads_expression b j fs) + 10 * length ts) (bad_at k l) (operand_begins b j (push (f.value_behind b j) fs) ts)
    (operand_begins b j (push (f.value_behind b j) fs) (ts ++ bad_at k l ∷ []))
expression_works k l b j fs ts = operand_works _ k l b j (push (f.value_behind b j) fs) ts (omega arith) (omega arith)

-- ---- steps

name_works : (m : ℕ) (k : FaultKind) (l : ℕ) (b : Bool) (fs : Frames an_expression) (ts : List Placed)
    → frames_work fs + 10 * length ts < m
    → Does m (bad_at k l) (name_begins b fs ts) (name_begins b fs (ts ++ bad_at k l ∷ []))
name_works m k l b fs [] h = record { less = omega arith; same = refl }
name_works m k l b fs (p ∷ ts) h = by_token p.token p.line
  where
    rest : List Placed
    rest = ts ++ bad_at k l ∷ []

    by_sign : (s : t.Sign) (line : ℕ) → Does m (bad_at k l) (name_by b fs (t.sign s) line ts (p ∷ ts)) (name_by b fs (t.sign s) line rest (p ∷ rest))
    by_sign t.open_parenthesis line = record { less = omega arith; same = refl }
    by_sign _ line = record { less = omega arith; same = refl }

    by_token : (x : Token) (line : ℕ) → Does m (bad_at k l) (name_by b fs x line ts (p ∷ ts)) (name_by b fs x line rest (p ∷ rest))
    by_token (t.sign s) line = by_sign s line
    by_token _ line = record { less = omega arith; same = refl }

step_works : (k : FaultKind) (l : ℕ) (b : Bool) (o : Operand) (fs : Frames an_operand) (x : Token) (p : Placed) (ts : List Placed)
    → Does (next_work (reads_steps b o fs) + 10 * length (p ∷ ts)) (bad_at k l) (step_by b o fs x ts (p ∷ ts))
    (step_by b o fs x (ts ++ bad_at k l ∷ []) (p ∷ (ts ++ bad_at k l ∷ [])))
step_works k l b o fs (t.sign s) p ts = by_sign s
  where
    rest : List Placed
    rest = ts ++ bad_at k l ∷ []

    by_sign : (s : t.Sign)
        → Does (next_work (reads_steps b o fs) + 10 * length (p ∷ ts)) (bad_at k l) (step_by b o fs (t.sign s) ts (p ∷ ts))
        (step_by b o fs (t.sign s) rest (p ∷ rest))
    by_sign t.dot = name_works _ k l b (push (f.property_name b o) fs) ts (omega arith)
    by_sign t.colon = name_works _ k l b (push (f.verb_name b o) fs) ts (omega arith)
    by_sign t.open_bracket = record { less = omega arith; same = refl }
    by_sign _ = record { less = omega arith; same = refl }
step_works k l b o fs _ p ts = record { less = omega arith; same = refl }

pub steps_work : (k : FaultKind) (l : ℕ) (c b : Bool) (o : Operand) (fs : Frames an_operand) (ts : List Placed)
    → Does (next_work (reads_steps b o fs) + 10 * length ts) (bad_at k l) (steps_unless c b o fs ts) (steps_unless c b o fs (ts ++ bad_at k l ∷ []))
steps_work k l true b o fs ts = record { less = omega arith; same = refl }
steps_work k l false b o fs [] = record { less = omega arith; same = refl }
steps_work k l false b o fs (p ∷ ts) = step_works k l b o fs p.token p ts

-- ---- operators

tight_works : (m : ℕ) (k : FaultKind) (l : ℕ) (c : Bool) (x y : Next) (p : Placed) (ts : List Placed)
    → next_work x + 10 * length ts < m → next_work y + 10 * suc (length ts) < m
    → Does m (bad_at k l) (if_tight c x y ts (p ∷ ts)) (if_tight c x y (ts ++ bad_at k l ∷ []) (p ∷ (ts ++ bad_at k l ∷ [])))
tight_works m k l true x y p ts h i = record { less = omega arith; same = refl }
tight_works m k l false x y p ts h i = record { less = omega arith; same = refl }

joint_works : (k : FaultKind) (l : ℕ) (b : Bool) (j : ℕ) (a : Found) (fs : Frames an_expression) (x : Joint) (p : Placed) (ts : List Placed)
    → Does (6 + frames_work fs + 10 * length (p ∷ ts)) (bad_at k l) (joint_by b j a fs x ts (p ∷ ts))
    (joint_by b j a fs x (ts ++ bad_at k l ∷ []) (p ∷ (ts ++ bad_at k l ∷ [])))
joint_works k l b j a fs (by.operator o) p ts =
    tight_works _ k l (nat_le j (operator_level o)) (reads_expression b (right_level o) (push (f.right_of b j a (f.by_operator o)) fs)) (found fs a)
    p ts (omega arith) (omega arith)
joint_works k l b j a fs by.and_joint p ts =
    tight_works _ k l (nat_le j 2) (reads_expression b 3 (push (f.right_of b j a f.by_both) fs)) (found fs a) p ts (omega arith) (omega arith)
joint_works k l b j a fs by.or_joint p ts =
    tight_works _ k l (nat_le j 2) (reads_expression b 3 (push (f.right_of b j a f.by_either) fs)) (found fs a) p ts (omega arith) (omega arith)
joint_works k l b j a fs by.question_joint p ts =
    tight_works _ k l (nat_le j 1) (reads_expression b 0 (push (f.chosen_first b j a) fs)) (found fs a) p ts (omega arith) (omega arith)
joint_works k l b j a fs by.no_joint p ts = record { less = omega arith; same = refl }

pub operators_work : (k : FaultKind) (l : ℕ) (b : Bool) (j : ℕ) (a : Found) (fs : Frames an_expression) (ts : List Placed)
    → Does (6 + frames_work fs + 10 * length ts) (bad_at k l) (operators_begin b j a fs ts) (operators_begin b j a fs (ts ++ bad_at k l ∷ []))
operators_work k l b j a fs [] = record { less = omega arith; same = refl }
operators_work k l b j a fs (p ∷ ts) = joint_works k l b j a fs (joint p.token) p ts

-- ---- arguments

pub some_arguments_work : (k : FaultKind) (l : ℕ) (b : Bool) (fs : Frames some_arguments_read) (ts : List Placed)
    → Does (3 + frames_work fs + 10 * length ts) (bad_at k l) (arguments_begin b fs ts) (arguments_begin b fs (ts ++ bad_at k l ∷ []))
some_arguments_work k l b fs ts =
    on_token _ k l (is_sign t.at_sign) (goes (reads_expression b 0 (push (f.behind_argument b true) fs)))
    (goes (reads_expression b 0 (push (f.behind_argument b false) fs))) ts refl
    (λ us n. record { less = omega arith; same = refl }) (record { less = omega arith; same = refl })
