-- The one canonical spelling of a program (Programmer's Manual, "The MOO Programming Language", and `verb_code()`): a line for each head, end word and simple statement.
use Rattle.std.specs.Prelude.{ℕ, zero, suc, ℤ, pos, negsuc, nat_le, List, [], ◌∷◌, ◌++◌, if◌then◌else◌, Option, Some, None, Bool, true, false, codes}
use Rattle.std.specs.Fmt.{decimal}
use Rattle.spec_value.specs.Datum.{Datum, integer, object, text, error, list, Text}
use Rattle.spec_value.specs.Literal.{literal as value_text}
use Rattle.spec_value.specs.Operators.{UnaryOperator, negation, not_true, BinaryOperator, plus, minus, times, divided_by, remainder_by, to_the, equals, differs, less, less_or_equal, greater, greater_or_equal, is_in}
use Rattle.spec_program.specs.Tree.{Expr, literal, variable, own_length, unary, binary, both, either, conditional, listing, call, property, verb_call, index, range, caught, assignment, scatter, Arguments, no_arguments, argument, splice, Codes, any_code, codes_in, Fallback, the_code, instead, Target, to_variable, to_property, to_index, to_range, Items, no_items, required, optional, remaining, defaulted, Statement, evaluate, give, give_zero, branch, for_each, for_range, repeat, fork, guarded, finished, leave_loop, next_turn, Program, the_end, seq, Branches, no_branches, on, Otherwise, no_else, else_do, Arms, no_arms, except}
use Rattle.spec_program.specs.Names.{is_identifier}

-- ---- how tightly a construct binds: the greater the tighter

abbrev pub operator_level : BinaryOperator → ℕ
operator_level to_the = 6
operator_level times = 5
operator_level divided_by = 5
operator_level remainder_by = 5
operator_level plus = 4
operator_level minus = 4
operator_level _ = 3

abbrev pub level : Expr → ℕ
level (assignment t e) = 0
level (scatter items e) = 0
level (conditional c a b) = 1
level (both a b) = 2
level (either a b) = 2
level (binary op a b) = operator_level op
level (unary u a) = 7
level e = 8

-- powers group to the right, all others to the left
abbrev pub left_level : BinaryOperator → ℕ
left_level to_the = 7
left_level op = operator_level op

abbrev pub right_level : BinaryOperator → ℕ
right_level to_the = 6
right_level op = suc (operator_level op)

-- ---- signs, and what stands between them

abbrev pub unary_sign : UnaryOperator → Text
unary_sign negation = codes "-"
unary_sign not_true = codes "!"

abbrev pub binary_sign : BinaryOperator → Text
binary_sign plus = codes " + "
binary_sign minus = codes " - "
binary_sign times = codes " * "
binary_sign divided_by = codes " / "
binary_sign remainder_by = codes " % "
binary_sign to_the = codes " ^ "
binary_sign equals = codes " == "
binary_sign differs = codes " != "
binary_sign less = codes " < "
binary_sign less_or_equal = codes " <= "
binary_sign greater = codes " > "
binary_sign greater_or_equal = codes " >= "
binary_sign is_in = codes " in "

abbrev pub within : Text → Text → Text → Text
within before t after = before ++ (t ++ after)

abbrev pub in_parentheses : Text → Text
in_parentheses t = within (codes "(") t (codes ")")

-- where a construct binds less tightly than its place wants, it stands in parentheses
abbrev pub at_level : ℕ → ℕ → Text → Text
at_level wanted own t = if nat_le wanted own then t else in_parentheses t

-- ---- literals: the least integer is written as the number after the greatest

abbrev pub literal_text : Datum → Text
literal_text (integer (pos n)) = decimal n
literal_text (integer (negsuc n)) = decimal (suc n)
literal_text v = value_text v

-- ---- names: an identifier stands for itself, any other expression in parentheses

abbrev pub identifier_or_none : Text → Option Text
identifier_or_none t = if is_identifier t then Some t else None

abbrev pub plain_name : Expr → Option Text
plain_name (literal (text t)) = identifier_or_none t
plain_name e = None

abbrev pub name_text : Option Text → Text → Text
name_text (Some t) spelled = t
name_text None spelled = in_parentheses spelled

-- `$` stands for what is on #0 and has a plain name
abbrev pub is_system : Expr → Bool
is_system (literal (object (pos zero))) = true
is_system e = false

abbrev pub dotted : Text → Text → Bool → Option Text → Text → Text
dotted sign o true (Some t) spelled = 36 ∷ t
dotted sign o system name spelled = o ++ (sign ++ name_text name spelled)

-- ---- expressions

abbrev mutual
  pub expression_text : Expr → Text
  expression_text (literal v) = literal_text v
  expression_text (variable x) = x
  expression_text own_length = codes "$"
  expression_text (unary u a) = unary_sign u ++ at_level 7 (level a) (expression_text a)
  expression_text (binary op a b) =
      within (at_level (left_level op) (level a) (expression_text a)) (binary_sign op) (at_level (right_level op) (level b) (expression_text b))
  expression_text (both a b) = within (at_level 2 (level a) (expression_text a)) (codes " && ") (at_level 3 (level b) (expression_text b))
  expression_text (either a b) = within (at_level 2 (level a) (expression_text a)) (codes " || ") (at_level 3 (level b) (expression_text b))
  expression_text (conditional c a b) =
      at_level 2 (level c) (expression_text c) ++ within (codes " ? ") (expression_text a) (codes " | " ++ at_level 1 (level b) (expression_text b))
  expression_text (listing es) = within (codes "{") (arguments_text es) (codes "}")
  expression_text (call f es) = f ++ in_parentheses (arguments_text es)
  expression_text (property o p) = dotted (codes ".") (at_level 8 (level o) (expression_text o)) (is_system o) (plain_name p) (expression_text p)
  expression_text (verb_call o v es) =
      dotted (codes ":") (at_level 8 (level o) (expression_text o)) (is_system o) (plain_name v) (expression_text v) ++ in_parentheses (arguments_text es)
  expression_text (index x i) = at_level 8 (level x) (expression_text x) ++ within (codes "[") (expression_text i) (codes "]")
  expression_text (range x a b) =
      at_level 8 (level x) (expression_text x) ++ within (codes "[") (within (expression_text a) (codes "..") (expression_text b)) (codes "]")
  expression_text (caught e codes_of d) =
      within (codes "`") (within (expression_text e) (codes " ! ") (codes_text codes_of ++ fallback_text d)) (codes "'")
  expression_text (assignment t e) = within (target_text t) (codes " = ") (expression_text e)
  expression_text (scatter items e) = within (codes "{") (items_text items) (codes "}") ++ (codes " = " ++ expression_text e)

  pub arguments_text : Arguments → Text
  arguments_text no_arguments = []
  arguments_text (argument e es) = expression_text e ++ further_arguments es
  arguments_text (splice e es) = 64 ∷ (expression_text e ++ further_arguments es)

  -- a comma and a space before each
  pub further_arguments : Arguments → Text
  further_arguments no_arguments = []
  further_arguments (argument e es) = codes ", " ++ (expression_text e ++ further_arguments es)
  further_arguments (splice e es) = codes ", @" ++ (expression_text e ++ further_arguments es)

  pub codes_text : Codes → Text
  codes_text any_code = codes "ANY"
  codes_text (codes_in es) = arguments_text es

  pub fallback_text : Fallback → Text
  fallback_text the_code = []
  fallback_text (instead e) = codes " => " ++ expression_text e

  pub target_text : Target → Text
  target_text (to_variable x) = x
  target_text (to_property o p) = dotted (codes ".") (at_level 8 (level o) (expression_text o)) (is_system o) (plain_name p) (expression_text p)
  target_text (to_index t i) = target_text t ++ within (codes "[") (expression_text i) (codes "]")
  target_text (to_range t a b) = target_text t ++ within (codes "[") (within (expression_text a) (codes "..") (expression_text b)) (codes "]")

  pub items_text : Items → Text
  items_text no_items = []
  items_text (required x more) = x ++ further_items more
  items_text (optional x more) = 63 ∷ (x ++ further_items more)
  items_text (remaining x more) = 64 ∷ (x ++ further_items more)
  items_text (defaulted x e more) = 63 ∷ (within x (codes " = ") (expression_text e) ++ further_items more)

  pub further_items : Items → Text
  further_items no_items = []
  further_items (required x more) = codes ", " ++ (x ++ further_items more)
  further_items (optional x more) = codes ", ?" ++ (x ++ further_items more)
  further_items (remaining x more) = codes ", @" ++ (x ++ further_items more)
  further_items (defaulted x e more) = codes ", ?" ++ (within x (codes " = ") (expression_text e) ++ further_items more)

-- ---- statements, each line behind as many spaces

abbrev pub before_name : Option Text → Text
before_name None = []
before_name (Some x) = 32 ∷ x

abbrev pub head : Text → Text → Text
head word e = word ++ (codes " " ++ in_parentheses e)

abbrev pub deeper : Text → Text
deeper indent = 32 ∷ 32 ∷ indent

abbrev mutual
  pub statement_lines : Text → Statement → List Text
  statement_lines indent (evaluate e) = (indent ++ (expression_text e ++ codes ";")) ∷ []
  statement_lines indent (give e) = (indent ++ within (codes "return ") (expression_text e) (codes ";")) ∷ []
  statement_lines indent give_zero = (indent ++ codes "return;") ∷ []
  statement_lines indent (branch bs q) = branches_lines indent (codes "if") bs ++ (otherwise_lines indent q ++ (indent ++ codes "endif") ∷ [])
  statement_lines indent (for_each x e p) =
      (indent ++ (codes "for " ++ head (x ++ codes " in") (expression_text e))) ∷ (program_lines (deeper indent) p ++ (indent ++ codes "endfor") ∷ [])
  statement_lines indent (for_range x a b p) =
      (indent ++ (codes "for " ++ (x ++ within (codes " in [") (within (expression_text a) (codes "..") (expression_text b)) (codes "]"))))
      ∷ (program_lines (deeper indent) p ++ (indent ++ codes "endfor") ∷ [])
  statement_lines indent (repeat x c p) =
      (indent ++ head (codes "while" ++ before_name x) (expression_text c)) ∷ (program_lines (deeper indent) p ++ (indent ++ codes "endwhile") ∷ [])
  statement_lines indent (fork x e p) =
      (indent ++ head (codes "fork" ++ before_name x) (expression_text e)) ∷ (program_lines (deeper indent) p ++ (indent ++ codes "endfork") ∷ [])
  statement_lines indent (guarded p arms) =
      (indent ++ codes "try") ∷ (program_lines (deeper indent) p ++ (arms_lines indent arms ++ (indent ++ codes "endtry") ∷ []))
  statement_lines indent (finished p q) =
      (indent ++ codes "try") ∷ (program_lines (deeper indent) p ++ ((indent ++ codes "finally") ∷ (program_lines (deeper indent) q ++ (indent ++ codes "endtry") ∷ [])))
  statement_lines indent (leave_loop x) = (indent ++ within (codes "break") (before_name x) (codes ";")) ∷ []
  statement_lines indent (next_turn x) = (indent ++ within (codes "continue") (before_name x) (codes ";")) ∷ []

  pub program_lines : Text → Program → List Text
  program_lines indent the_end = []
  program_lines indent (seq s more) = statement_lines indent s ++ program_lines indent more

  -- the first of them with `if`, the others with `elseif`
  pub branches_lines : Text → Text → Branches → List Text
  branches_lines indent word no_branches = []
  branches_lines indent word (on c p more) =
      (indent ++ head word (expression_text c)) ∷ (program_lines (deeper indent) p ++ branches_lines indent (codes "elseif") more)

  pub otherwise_lines : Text → Otherwise → List Text
  otherwise_lines indent no_else = []
  otherwise_lines indent (else_do p) = (indent ++ codes "else") ∷ program_lines (deeper indent) p

  pub arms_lines : Text → Arms → List Text
  arms_lines indent no_arms = []
  arms_lines indent (except x codes_of p more) =
      (indent ++ head (codes "except" ++ before_name x) (codes_text codes_of)) ∷ (program_lines (deeper indent) p ++ arms_lines indent more)

-- the lines of a whole program
abbrev pub canonical_lines : Program → List Text
canonical_lines p = program_lines [] p
