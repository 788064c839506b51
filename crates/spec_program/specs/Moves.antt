-- Each move of a machine over frames keeps what they mean: of a number that is enough, nothing is left in the laws but that it is.
use Rattle.std.specs.Prelude.{ℕ, suc, ◌<◌, ◌≡◌, nat_le, Bool, true, false, List, [], ◌∷◌, length}
use Rattle.spec_value.specs.Datum as value
use Rattle.spec_value.specs.Datum.{Text, ErrorCode}
use Rattle.spec_value.specs.Operators.{negation, not_true, BinaryOperator}
use Rattle.spec_program.specs.Spelling.{operator_level, right_level}
use Rattle.spec_program.specs.Tokens as t
use Rattle.spec_program.specs.Tokens.{Sign, Token, Placed}
use Rattle.spec_program.specs.Reading.{Read, got, stuck, and_then, if_sign, is_sign}
use Rattle.spec_program.specs.ReadExpressions as by
use Rattle.spec_program.specs.ReadExpressions.{Found, FoundArguments, Operand, Allowed, Joint, some_arguments, steps, items_from, operators, expression}
use Rattle.spec_program.specs.ReadPrograms as in_programs
use Rattle.spec_program.specs.ReadPrograms.{branches, arms, block}
use Rattle.spec_program.specs.Frames as f
use Rattle.spec_program.specs.Frames.{Kind, an_expression, an_operand, some_arguments_read, Of, Frame, Frames, push, resume, means}

-- ---- each reader by itself: with a number that is enough it goes on with the same number

abbrev pub ExpressionAgain : Type 0
ExpressionAgain = (n : ℕ) (b : Bool) (k : ℕ) (ts : List Placed) → length ts < n → expression n b k ts ≡ by.expression_with n (expression n) b k ts

abbrev pub ArgumentsAgain : Type 0
ArgumentsAgain =
    (n : ℕ) (b : Bool) (ts : List Placed) → length ts < n
    → some_arguments n (expression n) b ts
    ≡ if_sign t.at_sign
    (by.one_argument (expression n) b (some_arguments n (expression n) b) true)
    (by.one_argument (expression n) b (some_arguments n (expression n) b) false)
    ts

abbrev pub StepsAgain : Type 0
StepsAgain =
    (n : ℕ) (b : Bool) (o : Operand) (ts : List Placed) → length ts < n
    → steps n (expression n) b o ts ≡ by.steps_unless (by.is_surely_scatter o.braces) n (expression n) b (steps n (expression n) b) o ts

abbrev pub ItemsAgain : Type 0
ItemsAgain =
    (n : ℕ) (b : Bool) (a : Allowed) (ts : List Placed) → length ts < n
    → items_from n (expression n) b a ts ≡ by.item_by a.as_list (expression n) b (items_from n (expression n) b) a ts

abbrev pub OperatorsAgain : Type 0
OperatorsAgain =
    (n : ℕ) (b : Bool) (k : ℕ) (a : Found) (ts : List Placed) → length ts < n
    → operators n (expression n) b k a ts ≡ by.join_next (expression n) b (operators n (expression n) b k) k a ts

abbrev pub BlockAgain : Type 0
BlockAgain = (n : ℕ) (ts : List Placed) → suc (length ts) < n → block n ts ≡ in_programs.block_with n (block n) ts

abbrev pub BranchesAgain : Type 0
BranchesAgain =
    (n : ℕ) (ts : List Placed) → suc (length ts) < n
    → branches n (expression n) (block n) ts ≡ in_programs.one_branch (expression n) (block n) (branches n (expression n) (block n)) ts

abbrev pub ArmsAgain : Type 0
ArmsAgain =
    (n : ℕ) (ts : List Placed) → suc (length ts) < n
    → arms n (expression n) (block n) ts ≡ in_programs.one_arm n (expression n) (block n) (arms n (expression n) (block n)) ts

-- ---- a frame more is what is read and then the frame

abbrev pub PushIsThen : Type 0
PushIsThen = (a c : Kind) (n : ℕ) (f : Frame a c) (fs : Frames c) (r : Read (Of a)) → means n (push f fs) r ≡ means n fs (and_then r (resume n f))

-- ---- the moves

abbrev pub at : ℕ → Token → Placed
at line k = record { token = k; line = line }

abbrev pub begins_with : Sign → List Placed → Bool
begins_with s [] = false
begins_with s (p ∷ ts) = is_sign s p.token

-- an expression is an operand and then its operators, or an assignment
abbrev pub ExpressionMove : Type 0
ExpressionMove =
    (n : ℕ) (b : Bool) (k : ℕ) (ts : List Placed) (fs : Frames an_expression) → length ts < n
    → means n fs (expression n b k ts) ≡ means n (push (f.value_behind b k) fs) (by.operand n (expression n) b k ts)

-- with which token an operand begins
pub record OperandMoves (n : ℕ) (b : Bool) (k line : ℕ) (ts : List Placed) (fs : Frames an_operand) : Type 0 where
  pub minus :
      means n fs (by.operand n (expression n) b k (at line (t.sign t.minus_sign) ∷ ts)) ≡ means n (push (f.behind_sign negation line) fs) (expression n b 7 ts)
  pub not_sign :
      means n fs (by.operand n (expression n) b k (at line (t.sign t.not_sign) ∷ ts)) ≡ means n (push (f.behind_sign not_true line) fs) (expression n b 7 ts)
  pub parenthesis :
      means n fs (by.operand n (expression n) b k (at line (t.sign t.open_parenthesis) ∷ ts))
      ≡ means n (push (f.in_parentheses line) (push f.as_operand (push (f.steps_behind b) fs))) (expression n b 0 ts)
  pub backquote :
      means n fs (by.operand n (expression n) b k (at line (t.sign t.backquote) ∷ ts))
      ≡ means n (push (f.caught_in b line) (push (f.steps_behind b) fs)) (expression n b 0 ts)
  pub brace :
      means n fs (by.operand n (expression n) b k (at line (t.sign t.open_brace) ∷ ts))
      ≡ means n (push (f.steps_behind b) fs) (by.in_braces n (expression n) b k line ts)
  pub dollar :
      means n fs (by.operand n (expression n) b k (at line (t.sign t.dollar) ∷ ts))
      ≡ means n (push (f.steps_behind b) fs) (by.dollar_first n (expression n) b line ts)
  pub name :
      (x : Text)
      → means n fs (by.operand n (expression n) b k (at line (t.word x) ∷ ts)) ≡ means n (push (f.steps_behind b) fs) (by.word_first n (expression n) b x line ts)
  pub number :
      (i : ℕ)
      → means n fs (by.operand n (expression n) b k (at line (t.integer i) ∷ ts))
      ≡ means n (push (f.steps_behind b) fs) (by.literal_at line (value.integer (by.integer_value i)) ts)
  pub string :
      (x : Text)
      → means n fs (by.operand n (expression n) b k (at line (t.string x) ∷ ts)) ≡ means n (push (f.steps_behind b) fs) (by.literal_at line (value.text x) ts)
  pub object :
      (below : Bool) (i : ℕ)
      → means n fs (by.operand n (expression n) b k (at line (t.object below i) ∷ ts))
      ≡ means n (push (f.steps_behind b) fs) (by.literal_at line (value.object (by.object_value below i)) ts)
  pub error_name :
      (e : ErrorCode)
      → means n fs (by.operand n (expression n) b k (at line (t.error_name e) ∷ ts)) ≡ means n (push (f.steps_behind b) fs) (by.literal_at line (value.error e) ts)

-- arguments: what is there, and what is behind one
pub record ArgumentMoves (n : ℕ) (b : Bool) (fs : Frames some_arguments_read) : Type 0 where
  pub none :
      (s : Sign) (p : Placed) (ts : List Placed) → is_sign s p.token ≡ true
      → means n fs (by.arguments_to s n (expression n) b (p ∷ ts)) ≡ means n fs (got by.none_found ts)
  pub some :
      (s : Sign) (ts : List Placed) → begins_with s ts ≡ false
      → means n fs (by.arguments_to s n (expression n) b ts) ≡ means n (push (f.to_sign s) fs) (some_arguments n (expression n) b ts)
  pub plain :
      (ts : List Placed) → length ts < n → begins_with t.at_sign ts ≡ false
      → means n fs (some_arguments n (expression n) b ts) ≡ means n (push (f.behind_argument b false) fs) (expression n b 0 ts)
  pub spliced :
      (p : Placed) (ts : List Placed) → suc (length ts) < n → is_sign t.at_sign p.token ≡ true
      → means n fs (some_arguments n (expression n) b (p ∷ ts)) ≡ means n (push (f.behind_argument b true) fs) (expression n b 0 ts)
  pub another :
      (c : Bool) (e : Found) (p : Placed) (ts : List Placed) → is_sign t.comma p.token ≡ true
      → means n (push (f.behind_argument b c) fs) (got e (p ∷ ts)) ≡ means n (push (f.argument_before c e) fs) (some_arguments n (expression n) b ts)
  pub last :
      (c : Bool) (e : Found) (ts : List Placed) → begins_with t.comma ts ≡ false
      → means n (push (f.behind_argument b c) fs) (got e ts) ≡ means n fs (got (by.with_argument c e by.none_found) ts)
  pub joined :
      (c : Bool) (e : Found) (es : FoundArguments) (ts : List Placed)
      → means n (push (f.argument_before c e) fs) (got es ts) ≡ means n fs (got (by.with_argument c e es) ts)
  pub closed :
      (s : Sign) (es : FoundArguments) (p : Placed) (ts : List Placed) → is_sign s p.token ≡ true
      → means n (push (f.to_sign s) fs) (got es (p ∷ ts)) ≡ means n fs (got es ts)
  pub unclosed :
      (s : Sign) (es : FoundArguments) (ts : List Placed) → begins_with s ts ≡ false
      → means n (push (f.to_sign s) fs) (got es ts) ≡ stuck ts

-- whether what joins binds as tightly as is wanted
abbrev pub is_tight : ℕ → Joint → Bool
is_tight k (by.operator o) = nat_le k (operator_level o)
is_tight k by.and_joint = nat_le k 2
is_tight k by.or_joint = nat_le k 2
is_tight k by.question_joint = nat_le k 1
is_tight k by.no_joint = false

-- behind an operand
pub record OperatorMoves (n : ℕ) (b : Bool) (k : ℕ) (a : Found) (p : Placed) (ts : List Placed) (fs : Frames an_expression) : Type 0 where
  pub operator :
      (o : BinaryOperator) → by.joint p.token ≡ by.operator o → nat_le k (operator_level o) ≡ true
      → means n fs (operators n (expression n) b k a (p ∷ ts)) ≡ means n (push (f.right_of b k a (f.by_operator o)) fs) (expression n b (right_level o) ts)
  pub both :
      by.joint p.token ≡ by.and_joint → nat_le k 2 ≡ true
      → means n fs (operators n (expression n) b k a (p ∷ ts)) ≡ means n (push (f.right_of b k a f.by_both) fs) (expression n b 3 ts)
  pub either :
      by.joint p.token ≡ by.or_joint → nat_le k 2 ≡ true
      → means n fs (operators n (expression n) b k a (p ∷ ts)) ≡ means n (push (f.right_of b k a f.by_either) fs) (expression n b 3 ts)
  pub question :
      by.joint p.token ≡ by.question_joint → nat_le k 1 ≡ true
      → means n fs (operators n (expression n) b k a (p ∷ ts)) ≡ means n (push (f.chosen_first b k a) fs) (expression n b 0 ts)
  pub looser :
      is_tight k (by.joint p.token) ≡ false
      → means n fs (operators n (expression n) b k a (p ∷ ts)) ≡ means n fs (got a (p ∷ ts))

abbrev pub OperandMovesHold : Type 0
OperandMovesHold = (n : ℕ) (b : Bool) (k line : ℕ) (ts : List Placed) (fs : Frames an_operand) → OperandMoves n b k line ts fs

abbrev pub ArgumentMovesHold : Type 0
ArgumentMovesHold = (n : ℕ) (b : Bool) (fs : Frames some_arguments_read) → ArgumentMoves n b fs

abbrev pub OperatorMovesHold : Type 0
OperatorMovesHold =
    (n : ℕ) (b : Bool) (k : ℕ) (a : Found) (p : Placed) (ts : List Placed) (fs : Frames an_expression)
    → suc (length ts) < n → OperatorMoves n b k a p ts fs

-- nothing is behind it
abbrev pub OperatorsEnd : Type 0
OperatorsEnd = (n : ℕ) (b : Bool) (k : ℕ) (a : Found) (fs : Frames an_expression) → 0 < n → means n fs (operators n (expression n) b k a []) ≡ means n fs (got a [])
