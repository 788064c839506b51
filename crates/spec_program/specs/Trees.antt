-- Which source trees are programs (Programmer's Manual, "The MOO Programming Language"): those that some text spells.
use Rattle.std.specs.Prelude.{ℕ, suc, max, pos, negsuc, nat_le, ◌==◌, Bool, true, false, not, ◌&&◌, ◌||◌, List, [], ◌∷◌, Option, Some, None}
use Rattle.std.specs.List.{list_all, list_any}
use Rattle.spec_value.specs.Datum.{Datum, integer, object, text, error, list, Text, is_text, same_text, in_number_range}
use Rattle.spec_program.specs.Tree.{Expr, literal, variable, own_length, unary, binary, both, either, conditional, listing, call, property, verb_call, index, range, caught, assignment, scatter, Arguments, no_arguments, argument, splice, Codes, any_code, codes_in, Fallback, the_code, instead, Target, to_variable, to_property, to_index, to_range, Items, no_items, required, optional, remaining, defaulted, Statement, evaluate, give, give_zero, branch, for_each, for_range, repeat, fork, guarded, finished, leave_loop, next_turn, Program, the_end, seq, Branches, no_branches, on, Otherwise, no_else, else_do, Arms, no_arms, except}
use Rattle.spec_program.specs.Names.{is_digit, keywords}
use Rattle.spec_program.specs.ReadPrograms.{same_name, names_none, greatest_depth}

-- ---- names of variables, functions and loops: identifiers in lower case, and no keywords

abbrev pub begins_name : ℕ → Bool
begins_name c = (c == 95) || (nat_le 97 c && nat_le c 122)

abbrev pub continues_name : ℕ → Bool
continues_name c = begins_name c || is_digit c

abbrev pub is_lower_word : Text → Bool
is_lower_word [] = false
is_lower_word (c ∷ t) = begins_name c && list_all continues_name t

abbrev pub is_name : Text → Bool
is_name t = is_lower_word t && not (list_any (same_text t) keywords)

abbrev pub may_name : Option Text → Bool
may_name None = true
may_name (Some x) = is_name x

-- ---- literals: no list is one, and of the negative integers the least alone, which is written as the number after the greatest

abbrev pub is_literal : Datum → Bool
is_literal (integer (pos n)) = nat_le n 2147483647
is_literal (integer (negsuc n)) = n == 2147483647
is_literal (object o) = in_number_range o
is_literal (text t) = is_text t
is_literal (error e) = true
is_literal (list vs) = false

-- ---- expressions, in brackets or not: `$` stands in brackets alone

-- a range is only the last step of a target
abbrev pub goes_on : Target → Bool
goes_on (to_range t a b) = false
goes_on t = true

-- a scatter has an item, and one at most takes the rest
abbrev pub has_item : Items → Bool
has_item no_items = false
has_item xs = true

abbrev pub takes_rest : Items → Bool
takes_rest no_items = false
takes_rest (required x more) = takes_rest more
takes_rest (optional x more) = takes_rest more
takes_rest (remaining x more) = true
takes_rest (defaulted x d more) = takes_rest more

abbrev pub rest_once : Items → Bool
rest_once no_items = true
rest_once (required x more) = rest_once more
rest_once (optional x more) = rest_once more
rest_once (remaining x more) = not (takes_rest more)
rest_once (defaulted x d more) = rest_once more

abbrev pub has_argument : Arguments → Bool
has_argument no_arguments = false
has_argument es = true

abbrev mutual
  pub expr_fits : Bool → Expr → Bool
  expr_fits b (literal v) = is_literal v
  expr_fits b (variable x) = is_name x
  expr_fits b own_length = b
  expr_fits b (unary u a) = expr_fits b a
  expr_fits b (binary op a c) = expr_fits b a && expr_fits b c
  expr_fits b (both a c) = expr_fits b a && expr_fits b c
  expr_fits b (either a c) = expr_fits b a && expr_fits b c
  expr_fits b (conditional c x y) = expr_fits b c && (expr_fits b x && expr_fits b y)
  expr_fits b (listing es) = arguments_fit b es
  expr_fits b (call f es) = is_name f && arguments_fit b es
  expr_fits b (property o p) = expr_fits b o && expr_fits b p
  expr_fits b (verb_call o v es) = expr_fits b o && (expr_fits b v && arguments_fit b es)
  expr_fits b (index x i) = expr_fits b x && expr_fits true i
  expr_fits b (range x i j) = expr_fits b x && (expr_fits true i && expr_fits true j)
  expr_fits b (caught e codes d) = expr_fits b e && (codes_fit b codes && fallback_fits b d)
  expr_fits b (assignment t e) = target_fits b t && expr_fits b e
  expr_fits b (scatter xs e) = (has_item xs && rest_once xs) && (items_fit b xs && expr_fits b e)

  pub arguments_fit : Bool → Arguments → Bool
  arguments_fit b no_arguments = true
  arguments_fit b (argument e more) = expr_fits b e && arguments_fit b more
  arguments_fit b (splice e more) = expr_fits b e && arguments_fit b more

  pub codes_fit : Bool → Codes → Bool
  codes_fit b any_code = true
  codes_fit b (codes_in es) = has_argument es && arguments_fit b es

  pub fallback_fits : Bool → Fallback → Bool
  fallback_fits b the_code = true
  fallback_fits b (instead e) = expr_fits b e

  pub target_fits : Bool → Target → Bool
  target_fits b (to_variable x) = is_name x
  target_fits b (to_property o p) = expr_fits b o && expr_fits b p
  target_fits b (to_index t i) = (goes_on t && target_fits b t) && expr_fits true i
  target_fits b (to_range t i j) = (goes_on t && target_fits b t) && (expr_fits true i && expr_fits true j)

  pub items_fit : Bool → Items → Bool
  items_fit b no_items = true
  items_fit b (required x more) = is_name x && items_fit b more
  items_fit b (optional x more) = is_name x && items_fit b more
  items_fit b (remaining x more) = is_name x && items_fit b more
  items_fit b (defaulted x d more) = is_name x && (expr_fits b d && items_fit b more)

-- ---- statements, in loops with these names, the innermost first; a `for` loop has the name of its variable

-- a `break` or `continue` without a name means the innermost loop
abbrev pub is_around : List (Option Text) → Option Text → Bool
is_around loops x = list_any (λ own. names_none x || same_name x own) loops

abbrev pub has_branch : Branches → Bool
has_branch no_branches = false
has_branch bs = true

abbrev pub has_arm : Arms → Bool
has_arm no_arms = false
has_arm arms = true

-- a fork's body stands in no loop
abbrev mutual
  pub statement_fits : List (Option Text) → Statement → Bool
  statement_fits loops (evaluate e) = expr_fits false e
  statement_fits loops (give e) = expr_fits false e
  statement_fits loops give_zero = true
  statement_fits loops (branch bs q) = has_branch bs && (branches_fit loops bs && otherwise_fits loops q)
  statement_fits loops (for_each x e p) = is_name x && (expr_fits false e && program_fits (Some x ∷ loops) p)
  statement_fits loops (for_range x a c p) = is_name x && ((expr_fits false a && expr_fits false c) && program_fits (Some x ∷ loops) p)
  statement_fits loops (repeat x c p) = may_name x && (expr_fits false c && program_fits (x ∷ loops) p)
  statement_fits loops (fork x e p) = may_name x && (expr_fits false e && program_fits [] p)
  statement_fits loops (guarded p arms) = has_arm arms && (program_fits loops p && arms_fit loops arms)
  statement_fits loops (finished p q) = program_fits loops p && program_fits loops q
  statement_fits loops (leave_loop x) = may_name x && is_around loops x
  statement_fits loops (next_turn x) = may_name x && is_around loops x

  pub program_fits : List (Option Text) → Program → Bool
  program_fits loops the_end = true
  program_fits loops (seq s more) = statement_fits loops s && program_fits loops more

  pub branches_fit : List (Option Text) → Branches → Bool
  branches_fit loops no_branches = true
  branches_fit loops (on c p more) = expr_fits false c && (program_fits loops p && branches_fit loops more)

  pub otherwise_fits : List (Option Text) → Otherwise → Bool
  otherwise_fits loops no_else = true
  otherwise_fits loops (else_do p) = program_fits loops p

  pub arms_fit : List (Option Text) → Arms → Bool
  arms_fit loops no_arms = true
  arms_fit loops (except x codes p more) = (may_name x && codes_fit false codes) && (program_fits loops p && arms_fit loops more)

-- ---- how many statements and expressions a path of the tree has at most; a target counts as an expression

abbrev mutual
  pub expr_height : Expr → ℕ
  expr_height (literal v) = 1
  expr_height (variable x) = 1
  expr_height own_length = 1
  expr_height (unary u a) = suc (expr_height a)
  expr_height (binary op a b) = suc (max (expr_height a) (expr_height b))
  expr_height (both a b) = suc (max (expr_height a) (expr_height b))
  expr_height (either a b) = suc (max (expr_height a) (expr_height b))
  expr_height (conditional c a b) = suc (max (expr_height c) (max (expr_height a) (expr_height b)))
  expr_height (listing es) = suc (arguments_height es)
  expr_height (call f es) = suc (arguments_height es)
  expr_height (property o p) = suc (max (expr_height o) (expr_height p))
  expr_height (verb_call o v es) = suc (max (expr_height o) (max (expr_height v) (arguments_height es)))
  expr_height (index x i) = suc (max (expr_height x) (expr_height i))
  expr_height (range x a b) = suc (max (expr_height x) (max (expr_height a) (expr_height b)))
  expr_height (caught e codes d) = suc (max (expr_height e) (max (codes_height codes) (fallback_height d)))
  expr_height (assignment t e) = suc (max (target_height t) (expr_height e))
  expr_height (scatter xs e) = suc (max (items_height xs) (expr_height e))

  pub arguments_height : Arguments → ℕ
  arguments_height no_arguments = 0
  arguments_height (argument e more) = max (expr_height e) (arguments_height more)
  arguments_height (splice e more) = max (expr_height e) (arguments_height more)

  pub codes_height : Codes → ℕ
  codes_height any_code = 0
  codes_height (codes_in es) = arguments_height es

  pub fallback_height : Fallback → ℕ
  fallback_height the_code = 0
  fallback_height (instead e) = expr_height e

  pub target_height : Target → ℕ
  target_height (to_variable x) = 1
  target_height (to_property o p) = suc (max (expr_height o) (expr_height p))
  target_height (to_index t i) = suc (max (target_height t) (expr_height i))
  target_height (to_range t a b) = suc (max (target_height t) (max (expr_height a) (expr_height b)))

  pub items_height : Items → ℕ
  items_height no_items = 0
  items_height (required x more) = items_height more
  items_height (optional x more) = items_height more
  items_height (remaining x more) = items_height more
  items_height (defaulted x d more) = max (expr_height d) (items_height more)

abbrev mutual
  pub statement_height : Statement → ℕ
  statement_height (evaluate e) = suc (expr_height e)
  statement_height (give e) = suc (expr_height e)
  statement_height give_zero = 1
  statement_height (branch bs q) = suc (max (branches_height bs) (otherwise_height q))
  statement_height (for_each x e p) = suc (max (expr_height e) (program_height p))
  statement_height (for_range x a b p) = suc (max (expr_height a) (max (expr_height b) (program_height p)))
  statement_height (repeat x c p) = suc (max (expr_height c) (program_height p))
  statement_height (fork x e p) = suc (max (expr_height e) (program_height p))
  statement_height (guarded p arms) = suc (max (program_height p) (arms_height arms))
  statement_height (finished p q) = suc (max (program_height p) (program_height q))
  statement_height (leave_loop x) = 1
  statement_height (next_turn x) = 1

  pub program_height : Program → ℕ
  program_height the_end = 0
  program_height (seq s more) = max (statement_height s) (program_height more)

  pub branches_height : Branches → ℕ
  branches_height no_branches = 0
  branches_height (on c p more) = max (expr_height c) (max (program_height p) (branches_height more))

  pub otherwise_height : Otherwise → ℕ
  otherwise_height no_else = 0
  otherwise_height (else_do p) = program_height p

  pub arms_height : Arms → ℕ
  arms_height no_arms = 0
  arms_height (except x codes p more) = max (codes_height codes) (max (program_height p) (arms_height more))

-- ---- programs

abbrev pub is_tree : Program → Bool
is_tree p = program_fits [] p && nat_le (program_height p) greatest_depth
