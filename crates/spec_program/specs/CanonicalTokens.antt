-- The tokens of the canonical spelling of an expression, and where they stand.
use Rattle.std.specs.Prelude.{◌≡◌, ℕ, suc, pos, negsuc, nat_le, Bool, true, false, List, [], ◌∷◌, ◌++◌, Option, Some, None, if◌then◌else◌}
use Rattle.spec_value.specs.Datum as value
use Rattle.spec_value.specs.Datum.{Datum, Text}
use Rattle.spec_value.specs.Operators.{UnaryOperator, negation, not_true, BinaryOperator, plus, minus, times, divided_by, remainder_by, to_the, equals, differs, less, less_or_equal, greater, greater_or_equal, is_in}
use Rattle.spec_program.specs.Tree.{Expr, literal, variable, own_length, unary, binary, both, either, conditional, listing, call, property, verb_call, index, range, caught, assignment, scatter, Arguments, no_arguments, argument, splice, Codes, any_code, codes_in, Fallback, the_code, instead, Target, to_variable, to_property, to_index, to_range, Items, no_items, required, optional, remaining, defaulted}
use Rattle.spec_program.specs.Spelling.{level, left_level, right_level, plain_name, is_system}
use Rattle.spec_program.specs.Tokens as t
use Rattle.spec_program.specs.Tokens.{Sign, Token, Placed}
use Rattle.spec_program.specs.ReadExpressions as by
use Rattle.spec_program.specs.Moves.{at, is_tight}

abbrev pub unary_token : UnaryOperator → Token
unary_token negation = t.sign t.minus_sign
unary_token not_true = t.sign t.not_sign

abbrev pub binary_token : BinaryOperator → Token
binary_token plus = t.sign t.plus_sign
binary_token minus = t.sign t.minus_sign
binary_token times = t.sign t.times_sign
binary_token divided_by = t.sign t.slash
binary_token remainder_by = t.sign t.percent
binary_token to_the = t.sign t.caret
binary_token equals = t.sign t.equal
binary_token differs = t.sign t.differs_sign
binary_token less = t.sign t.less_sign
binary_token less_or_equal = t.sign t.less_equal
binary_token greater = t.sign t.greater_sign
binary_token greater_or_equal = t.sign t.greater_equal
binary_token is_in = t.keyword t.in_word

abbrev pub between : Sign → List Token → Sign → List Token
between before ks after = t.sign before ∷ (ks ++ t.sign after ∷ [])

abbrev pub in_parentheses : List Token → List Token
in_parentheses ks = between t.open_parenthesis ks t.close_parenthesis

-- where a construct binds less tightly than its place wants, it stands in parentheses
abbrev pub at_level : ℕ → ℕ → List Token → List Token
at_level wanted own ks = if nat_le wanted own then ks else in_parentheses ks

-- no list is a literal
abbrev pub literal_tokens : Datum → List Token
literal_tokens (value.integer (pos n)) = t.integer n ∷ []
literal_tokens (value.integer (negsuc n)) = t.integer (suc n) ∷ []
literal_tokens (value.object (pos n)) = t.object false n ∷ []
literal_tokens (value.object (negsuc n)) = t.object true (suc n) ∷ []
literal_tokens (value.text x) = t.string x ∷ []
literal_tokens (value.error e) = t.error_name e ∷ []
literal_tokens (value.list vs) = []

abbrev pub name_tokens : Option Text → List Token → List Token
name_tokens (Some x) ks = t.word x ∷ []
name_tokens None ks = in_parentheses ks

abbrev pub dotted : Sign → List Token → Bool → Option Text → List Token → List Token
dotted s o true (Some x) ks = t.sign t.dollar ∷ t.word x ∷ []
dotted s o system name ks = o ++ (t.sign s ∷ name_tokens name ks)

abbrev mutual
  pub expression_tokens : Expr → List Token
  expression_tokens (literal v) = literal_tokens v
  expression_tokens (variable x) = t.word x ∷ []
  expression_tokens own_length = t.sign t.dollar ∷ []
  expression_tokens (unary u a) = unary_token u ∷ at_level 7 (level a) (expression_tokens a)
  expression_tokens (binary op a b) =
      at_level (left_level op) (level a) (expression_tokens a) ++ (binary_token op ∷ at_level (right_level op) (level b) (expression_tokens b))
  expression_tokens (both a b) = at_level 2 (level a) (expression_tokens a) ++ (t.sign t.and_sign ∷ at_level 3 (level b) (expression_tokens b))
  expression_tokens (either a b) = at_level 2 (level a) (expression_tokens a) ++ (t.sign t.or_sign ∷ at_level 3 (level b) (expression_tokens b))
  expression_tokens (conditional c a b) =
      at_level 2 (level c) (expression_tokens c)
      ++ (t.sign t.question ∷ (expression_tokens a ++ (t.sign t.bar ∷ at_level 1 (level b) (expression_tokens b))))
  expression_tokens (listing es) = between t.open_brace (arguments_tokens es) t.close_brace
  expression_tokens (call f es) = t.word f ∷ in_parentheses (arguments_tokens es)
  expression_tokens (property o p) = dotted t.dot (at_level 8 (level o) (expression_tokens o)) (is_system o) (plain_name p) (expression_tokens p)
  expression_tokens (verb_call o v es) =
      dotted t.colon (at_level 8 (level o) (expression_tokens o)) (is_system o) (plain_name v) (expression_tokens v) ++ in_parentheses (arguments_tokens es)
  expression_tokens (index x i) = at_level 8 (level x) (expression_tokens x) ++ between t.open_bracket (expression_tokens i) t.close_bracket
  expression_tokens (range x a b) =
      at_level 8 (level x) (expression_tokens x)
      ++ between t.open_bracket (expression_tokens a ++ (t.sign t.double_dot ∷ expression_tokens b)) t.close_bracket
  expression_tokens (caught e codes d) =
      between t.backquote (expression_tokens e ++ (t.sign t.not_sign ∷ (codes_tokens codes ++ fallback_tokens d))) t.quote
  expression_tokens (assignment x e) = target_tokens x ++ (t.sign t.assign ∷ expression_tokens e)
  expression_tokens (scatter xs e) = between t.open_brace (items_tokens xs) t.close_brace ++ (t.sign t.assign ∷ expression_tokens e)

  pub arguments_tokens : Arguments → List Token
  arguments_tokens no_arguments = []
  arguments_tokens (argument e es) = expression_tokens e ++ further_arguments es
  arguments_tokens (splice e es) = t.sign t.at_sign ∷ (expression_tokens e ++ further_arguments es)

  pub further_arguments : Arguments → List Token
  further_arguments no_arguments = []
  further_arguments (argument e es) = t.sign t.comma ∷ (expression_tokens e ++ further_arguments es)
  further_arguments (splice e es) = t.sign t.comma ∷ t.sign t.at_sign ∷ (expression_tokens e ++ further_arguments es)

  pub codes_tokens : Codes → List Token
  codes_tokens any_code = t.keyword t.any_word ∷ []
  codes_tokens (codes_in es) = arguments_tokens es

  pub fallback_tokens : Fallback → List Token
  fallback_tokens the_code = []
  fallback_tokens (instead e) = t.sign t.arrow ∷ expression_tokens e

  pub target_tokens : Target → List Token
  target_tokens (to_variable x) = t.word x ∷ []
  target_tokens (to_property o p) = dotted t.dot (at_level 8 (level o) (expression_tokens o)) (is_system o) (plain_name p) (expression_tokens p)
  target_tokens (to_index x i) = target_tokens x ++ between t.open_bracket (expression_tokens i) t.close_bracket
  target_tokens (to_range x a b) = target_tokens x ++ between t.open_bracket (expression_tokens a ++ (t.sign t.double_dot ∷ expression_tokens b)) t.close_bracket

  pub items_tokens : Items → List Token
  items_tokens no_items = []
  items_tokens (required x more) = t.word x ∷ further_items more
  items_tokens (optional x more) = t.sign t.question ∷ t.word x ∷ further_items more
  items_tokens (remaining x more) = t.sign t.at_sign ∷ t.word x ∷ further_items more
  items_tokens (defaulted x e more) = t.sign t.question ∷ t.word x ∷ t.sign t.assign ∷ (expression_tokens e ++ further_items more)

  pub further_items : Items → List Token
  further_items no_items = []
  further_items (required x more) = t.sign t.comma ∷ t.word x ∷ further_items more
  further_items (optional x more) = t.sign t.comma ∷ t.sign t.question ∷ t.word x ∷ further_items more
  further_items (remaining x more) = t.sign t.comma ∷ t.sign t.at_sign ∷ t.word x ∷ further_items more
  further_items (defaulted x e more) =
      t.sign t.comma ∷ t.sign t.question ∷ t.word x ∷ t.sign t.assign ∷ (expression_tokens e ++ further_items more)

-- `Laid ks ts us`: ts are these tokens, on any lines, and us behind them
pub data Laid : List Token → List Placed → List Placed → Type 0 where
  none : {us : List Placed} → Laid [] us us
  next : {k : Token} {ks : List Token} {ts us : List Placed} (line : ℕ) → Laid ks ts us → Laid (k ∷ ks) (at line k ∷ ts) us

-- what may stand behind an expression: nothing that an operand takes, and no operator that binds so tightly
abbrev pub is_loose : Token → Bool
is_loose (t.word x) = false
is_loose (t.sign t.open_parenthesis) = false
is_loose (t.sign t.dot) = false
is_loose (t.sign t.colon) = false
is_loose (t.sign t.open_bracket) = false
is_loose (t.sign t.assign) = false
is_loose k = true

abbrev pub Loose : List Placed → Type 0
Loose [] = Unit {0}
Loose (p ∷ ts) = is_loose p.token ≡ true

abbrev pub Stops : ℕ → List Placed → Type 0
Stops k [] = Unit {0}
Stops k (p ∷ ts) = is_tight k (by.joint p.token) ≡ false
