-- How the logic stores programs.
use Rattle.std.specs.Prelude.{◌≡◌, ℕ, List, [], ◌∷◌, ◌==◌, cond, refl}
use Rattle.std.specs.Coded.{Coded, code_by}
use base.Stored.{Gv, gnil, gnum, gcons}
use denote.Struct.Codes.{itself}
use Rattle.spec_value.specs.DatumCode.{number_in, gv_0, gv_1, gv_2, from_text, to_text, text_back, from_name, to_name, name_back, from_datum, datum_in, datum_back}
use Rattle.spec_value.specs.Operators.{UnaryOperator, negation, not_true, BinaryOperator, plus, minus, times, divided_by, remainder_by, to_the, equals, differs, less, less_or_equal, greater, greater_or_equal, is_in}
use Rattle.spec_program.specs.Tree.{Expr, literal, variable, own_length, unary, binary, both, either, conditional, listing, call, property, verb_call, index, range, caught, assignment, scatter, Arguments, no_arguments, argument, splice, Codes, any_code, codes_in, Fallback, the_code, instead, Target, to_variable, to_property, to_index, to_range, Items, no_items, required, optional, remaining, defaulted, Statement, evaluate, give, give_zero, branch, for_each, for_range, repeat, fork, guarded, finished, leave_loop, next_turn, Program, the_end, seq, Branches, no_branches, on, Otherwise, no_else, else_do, Arms, no_arms, except}

-- ---- operators

abbrev pub from_unary : UnaryOperator → Gv
from_unary negation = gnum 0
from_unary not_true = gnum 1

abbrev pub to_unary : Gv → UnaryOperator
to_unary g = cond (number_in g == 0) negation not_true

pub unary_back : (u : UnaryOperator) → to_unary (from_unary u) ≡ u
unary_back negation = refl
unary_back not_true = refl

abbrev pub unary_operator_code : Coded UnaryOperator
unary_operator_code = code_by Gv itself from_unary to_unary unary_back

abbrev pub from_binary : BinaryOperator → Gv
from_binary plus = gnum 0
from_binary minus = gnum 1
from_binary times = gnum 2
from_binary divided_by = gnum 3
from_binary remainder_by = gnum 4
from_binary to_the = gnum 5
from_binary equals = gnum 6
from_binary differs = gnum 7
from_binary less = gnum 8
from_binary less_or_equal = gnum 9
from_binary greater = gnum 10
from_binary greater_or_equal = gnum 11
from_binary is_in = gnum 12

abbrev pub binary_at : ℕ → BinaryOperator
binary_at n =
    cond (n == 0) plus (cond (n == 1) minus (cond (n == 2) times (cond (n == 3) divided_by (cond (n == 4) remainder_by (cond (n == 5) to_the (cond (n == 6) equals (cond (n == 7) differs (cond (n == 8) less (cond (n == 9) less_or_equal (cond (n == 10) greater (cond (n == 11) greater_or_equal is_in)))))))))))

abbrev pub to_binary : Gv → BinaryOperator
to_binary g = binary_at (number_in g)

pub binary_back : (o : BinaryOperator) → to_binary (from_binary o) ≡ o
binary_back plus = refl
binary_back minus = refl
binary_back times = refl
binary_back divided_by = refl
binary_back remainder_by = refl
binary_back to_the = refl
binary_back equals = refl
binary_back differs = refl
binary_back less = refl
binary_back less_or_equal = refl
binary_back greater = refl
binary_back greater_or_equal = refl
binary_back is_in = refl

abbrev pub binary_operator_code : Coded BinaryOperator
binary_operator_code = code_by Gv itself from_binary to_binary binary_back

-- ---- expressions

abbrev mutual
  pub from_expr : Expr → Gv
  from_expr (literal a) = gcons (gnum 0) (gcons (from_datum a) gnil)
  from_expr (variable a) = gcons (gnum 1) (gcons (from_text a) gnil)
  from_expr own_length = gcons (gnum 2) gnil
  from_expr (unary a b) = gcons (gnum 3) (gcons (from_unary a) (gcons (from_expr b) gnil))
  from_expr (binary a b c) = gcons (gnum 4) (gcons (from_binary a) (gcons (from_expr b) (gcons (from_expr c) gnil)))
  from_expr (both a b) = gcons (gnum 5) (gcons (from_expr a) (gcons (from_expr b) gnil))
  from_expr (either a b) = gcons (gnum 6) (gcons (from_expr a) (gcons (from_expr b) gnil))
  from_expr (conditional a b c) = gcons (gnum 7) (gcons (from_expr a) (gcons (from_expr b) (gcons (from_expr c) gnil)))
  from_expr (listing a) = gcons (gnum 8) (gcons (from_arguments a) gnil)
  from_expr (call a b) = gcons (gnum 9) (gcons (from_text a) (gcons (from_arguments b) gnil))
  from_expr (property a b) = gcons (gnum 10) (gcons (from_expr a) (gcons (from_expr b) gnil))
  from_expr (verb_call a b c) = gcons (gnum 11) (gcons (from_expr a) (gcons (from_expr b) (gcons (from_arguments c) gnil)))
  from_expr (index a b) = gcons (gnum 12) (gcons (from_expr a) (gcons (from_expr b) gnil))
  from_expr (range a b c) = gcons (gnum 13) (gcons (from_expr a) (gcons (from_expr b) (gcons (from_expr c) gnil)))
  from_expr (caught a b c) = gcons (gnum 14) (gcons (from_expr a) (gcons (from_codes b) (gcons (from_fallback c) gnil)))
  from_expr (assignment a b) = gcons (gnum 15) (gcons (from_target a) (gcons (from_expr b) gnil))
  from_expr (scatter a b) = gcons (gnum 16) (gcons (from_items a) (gcons (from_expr b) gnil))

  pub from_arguments : Arguments → Gv
  from_arguments no_arguments = gcons (gnum 0) gnil
  from_arguments (argument a b) = gcons (gnum 1) (gcons (from_expr a) (gcons (from_arguments b) gnil))
  from_arguments (splice a b) = gcons (gnum 2) (gcons (from_expr a) (gcons (from_arguments b) gnil))

  pub from_codes : Codes → Gv
  from_codes any_code = gcons (gnum 0) gnil
  from_codes (codes_in a) = gcons (gnum 1) (gcons (from_arguments a) gnil)

  pub from_fallback : Fallback → Gv
  from_fallback the_code = gcons (gnum 0) gnil
  from_fallback (instead a) = gcons (gnum 1) (gcons (from_expr a) gnil)

  pub from_target : Target → Gv
  from_target (to_variable a) = gcons (gnum 0) (gcons (from_text a) gnil)
  from_target (to_property a b) = gcons (gnum 1) (gcons (from_expr a) (gcons (from_expr b) gnil))
  from_target (to_index a b) = gcons (gnum 2) (gcons (from_target a) (gcons (from_expr b) gnil))
  from_target (to_range a b c) = gcons (gnum 3) (gcons (from_target a) (gcons (from_expr b) (gcons (from_expr c) gnil)))

  pub from_items : Items → Gv
  from_items no_items = gcons (gnum 0) gnil
  from_items (required a b) = gcons (gnum 1) (gcons (from_text a) (gcons (from_items b) gnil))
  from_items (optional a b) = gcons (gnum 2) (gcons (from_text a) (gcons (from_items b) gnil))
  from_items (remaining a b) = gcons (gnum 3) (gcons (from_text a) (gcons (from_items b) gnil))
  from_items (defaulted a b c) = gcons (gnum 4) (gcons (from_text a) (gcons (from_expr b) (gcons (from_items c) gnil)))

-- what is stored, read as each of them
pub record Node : Type 0 where
  pub expr : Expr
  pub arguments : Arguments
  pub codes : Codes
  pub fallback : Fallback
  pub target : Target
  pub items : Items

abbrev pub no_node : Node
no_node = record { expr = own_length; arguments = no_arguments; codes = any_code; fallback = the_code; target = to_variable []; items = no_items }

abbrev pub node_0 : List Node → Node
node_0 [] = no_node
node_0 (p ∷ ps) = p

abbrev pub node_1 : List Node → Node
node_1 [] = no_node
node_1 (p ∷ ps) = node_0 ps

abbrev pub node_2 : List Node → Node
node_2 [] = no_node
node_2 (p ∷ ps) = node_1 ps

abbrev pub node_3 : List Node → Node
node_3 [] = no_node
node_3 (p ∷ ps) = node_2 ps

abbrev pub expr_at : ℕ → Gv → List Node → Expr
expr_at n g ps =
    cond (n == 0) (literal (datum_in (gv_0 g)))
    (cond (n == 1) (variable (to_text (gv_0 g)))
    (cond (n == 2) own_length
    (cond (n == 3) (unary (to_unary (gv_0 g)) (node_1 ps).expr)
    (cond (n == 4) (binary (to_binary (gv_0 g)) (node_1 ps).expr (node_2 ps).expr)
    (cond (n == 5) (both (node_0 ps).expr (node_1 ps).expr)
    (cond (n == 6) (either (node_0 ps).expr (node_1 ps).expr)
    (cond (n == 7) (conditional (node_0 ps).expr (node_1 ps).expr (node_2 ps).expr)
    (cond (n == 8) (listing (node_0 ps).arguments)
    (cond (n == 9) (call (to_text (gv_0 g)) (node_1 ps).arguments)
    (cond (n == 10) (property (node_0 ps).expr (node_1 ps).expr)
    (cond (n == 11) (verb_call (node_0 ps).expr (node_1 ps).expr (node_2 ps).arguments)
    (cond (n == 12) (index (node_0 ps).expr (node_1 ps).expr)
    (cond (n == 13) (range (node_0 ps).expr (node_1 ps).expr (node_2 ps).expr)
    (cond (n == 14) (caught (node_0 ps).expr (node_1 ps).codes (node_2 ps).fallback)
    (cond (n == 15) (assignment (node_0 ps).target (node_1 ps).expr)
    (scatter (node_0 ps).items (node_1 ps).expr))))))))))))))))

abbrev pub arguments_at : ℕ → Gv → List Node → Arguments
arguments_at n g ps =
    cond (n == 0) no_arguments
    (cond (n == 1) (argument (node_0 ps).expr (node_1 ps).arguments)
    (splice (node_0 ps).expr (node_1 ps).arguments))

abbrev pub codes_at : ℕ → Gv → List Node → Codes
codes_at n g ps =
    cond (n == 0) any_code
    (codes_in (node_0 ps).arguments)

abbrev pub fallback_at : ℕ → Gv → List Node → Fallback
fallback_at n g ps =
    cond (n == 0) the_code
    (instead (node_0 ps).expr)

abbrev pub target_at : ℕ → Gv → List Node → Target
target_at n g ps =
    cond (n == 0) (to_variable (to_text (gv_0 g)))
    (cond (n == 1) (to_property (node_0 ps).expr (node_1 ps).expr)
    (cond (n == 2) (to_index (node_0 ps).target (node_1 ps).expr)
    (to_range (node_0 ps).target (node_1 ps).expr (node_2 ps).expr)))

abbrev pub items_at : ℕ → Gv → List Node → Items
items_at n g ps =
    cond (n == 0) no_items
    (cond (n == 1) (required (to_text (gv_0 g)) (node_1 ps).items)
    (cond (n == 2) (optional (to_text (gv_0 g)) (node_1 ps).items)
    (cond (n == 3) (remaining (to_text (gv_0 g)) (node_1 ps).items)
    (defaulted (to_text (gv_0 g)) (node_1 ps).expr (node_2 ps).items))))

abbrev pub node_of : ℕ → Gv → List Node → Node
node_of n g ps = record { expr = expr_at n g ps; arguments = arguments_at n g ps; codes = codes_at n g ps; fallback = fallback_at n g ps; target = target_at n g ps; items = items_at n g ps }

abbrev pub to_node : Gv → Node × List Node
to_node gnil = (no_node, [])
to_node (gnum n) = (no_node, [])
to_node (gcons a b) = (node_of (number_in a) b (to_node b).1, (to_node a).0 ∷ (to_node b).1)

abbrev mutual
  pub expr_back : (x : Expr) → (to_node (from_expr x)).0.expr ≡ x
  expr_back (literal a) = λ i. literal (datum_back a i)
  expr_back (variable a) = λ i. variable (text_back a i)
  expr_back own_length = refl
  expr_back (unary a b) = λ i. unary (unary_back a i) (expr_back b i)
  expr_back (binary a b c) = λ i. binary (binary_back a i) (expr_back b i) (expr_back c i)
  expr_back (both a b) = λ i. both (expr_back a i) (expr_back b i)
  expr_back (either a b) = λ i. either (expr_back a i) (expr_back b i)
  expr_back (conditional a b c) = λ i. conditional (expr_back a i) (expr_back b i) (expr_back c i)
  expr_back (listing a) = λ i. listing (arguments_back a i)
  expr_back (call a b) = λ i. call (text_back a i) (arguments_back b i)
  expr_back (property a b) = λ i. property (expr_back a i) (expr_back b i)
  expr_back (verb_call a b c) = λ i. verb_call (expr_back a i) (expr_back b i) (arguments_back c i)
  expr_back (index a b) = λ i. index (expr_back a i) (expr_back b i)
  expr_back (range a b c) = λ i. range (expr_back a i) (expr_back b i) (expr_back c i)
  expr_back (caught a b c) = λ i. caught (expr_back a i) (codes_back b i) (fallback_back c i)
  expr_back (assignment a b) = λ i. assignment (target_back a i) (expr_back b i)
  expr_back (scatter a b) = λ i. scatter (items_back a i) (expr_back b i)

  pub arguments_back : (x : Arguments) → (to_node (from_arguments x)).0.arguments ≡ x
  arguments_back no_arguments = refl
  arguments_back (argument a b) = λ i. argument (expr_back a i) (arguments_back b i)
  arguments_back (splice a b) = λ i. splice (expr_back a i) (arguments_back b i)

  pub codes_back : (x : Codes) → (to_node (from_codes x)).0.codes ≡ x
  codes_back any_code = refl
  codes_back (codes_in a) = λ i. codes_in (arguments_back a i)

  pub fallback_back : (x : Fallback) → (to_node (from_fallback x)).0.fallback ≡ x
  fallback_back the_code = refl
  fallback_back (instead a) = λ i. instead (expr_back a i)

  pub target_back : (x : Target) → (to_node (from_target x)).0.target ≡ x
  target_back (to_variable a) = λ i. to_variable (text_back a i)
  target_back (to_property a b) = λ i. to_property (expr_back a i) (expr_back b i)
  target_back (to_index a b) = λ i. to_index (target_back a i) (expr_back b i)
  target_back (to_range a b c) = λ i. to_range (target_back a i) (expr_back b i) (expr_back c i)

  pub items_back : (x : Items) → (to_node (from_items x)).0.items ≡ x
  items_back no_items = refl
  items_back (required a b) = λ i. required (text_back a i) (items_back b i)
  items_back (optional a b) = λ i. optional (text_back a i) (items_back b i)
  items_back (remaining a b) = λ i. remaining (text_back a i) (items_back b i)
  items_back (defaulted a b c) = λ i. defaulted (text_back a i) (expr_back b i) (items_back c i)

abbrev pub read_expr : Gv → Expr
read_expr g = (to_node g).0.expr

abbrev pub expr_code : Coded Expr
expr_code = code_by Gv itself from_expr read_expr expr_back

abbrev pub read_arguments : Gv → Arguments
read_arguments g = (to_node g).0.arguments

abbrev pub arguments_code : Coded Arguments
arguments_code = code_by Gv itself from_arguments read_arguments arguments_back

abbrev pub read_codes : Gv → Codes
read_codes g = (to_node g).0.codes

abbrev pub codes_code : Coded Codes
codes_code = code_by Gv itself from_codes read_codes codes_back

abbrev pub read_fallback : Gv → Fallback
read_fallback g = (to_node g).0.fallback

abbrev pub fallback_code : Coded Fallback
fallback_code = code_by Gv itself from_fallback read_fallback fallback_back

abbrev pub read_target : Gv → Target
read_target g = (to_node g).0.target

abbrev pub target_code : Coded Target
target_code = code_by Gv itself from_target read_target target_back

abbrev pub read_items : Gv → Items
read_items g = (to_node g).0.items

abbrev pub items_code : Coded Items
items_code = code_by Gv itself from_items read_items items_back

-- ---- statements

abbrev mutual
  pub from_statement : Statement → Gv
  from_statement (evaluate a) = gcons (gnum 0) (gcons (from_expr a) gnil)
  from_statement (give a) = gcons (gnum 1) (gcons (from_expr a) gnil)
  from_statement give_zero = gcons (gnum 2) gnil
  from_statement (branch a b) = gcons (gnum 3) (gcons (from_branches a) (gcons (from_otherwise b) gnil))
  from_statement (for_each a b c) = gcons (gnum 4) (gcons (from_text a) (gcons (from_expr b) (gcons (from_program c) gnil)))
  from_statement (for_range a b c d) = gcons (gnum 5) (gcons (from_text a) (gcons (from_expr b) (gcons (from_expr c) (gcons (from_program d) gnil))))
  from_statement (repeat a b c) = gcons (gnum 6) (gcons (from_name a) (gcons (from_expr b) (gcons (from_program c) gnil)))
  from_statement (fork a b c) = gcons (gnum 7) (gcons (from_name a) (gcons (from_expr b) (gcons (from_program c) gnil)))
  from_statement (guarded a b) = gcons (gnum 8) (gcons (from_program a) (gcons (from_arms b) gnil))
  from_statement (finished a b) = gcons (gnum 9) (gcons (from_program a) (gcons (from_program b) gnil))
  from_statement (leave_loop a) = gcons (gnum 10) (gcons (from_name a) gnil)
  from_statement (next_turn a) = gcons (gnum 11) (gcons (from_name a) gnil)

  pub from_program : Program → Gv
  from_program the_end = gcons (gnum 0) gnil
  from_program (seq a b) = gcons (gnum 1) (gcons (from_statement a) (gcons (from_program b) gnil))

  pub from_branches : Branches → Gv
  from_branches no_branches = gcons (gnum 0) gnil
  from_branches (on a b c) = gcons (gnum 1) (gcons (from_expr a) (gcons (from_program b) (gcons (from_branches c) gnil)))

  pub from_otherwise : Otherwise → Gv
  from_otherwise no_else = gcons (gnum 0) gnil
  from_otherwise (else_do a) = gcons (gnum 1) (gcons (from_program a) gnil)

  pub from_arms : Arms → Gv
  from_arms no_arms = gcons (gnum 0) gnil
  from_arms (except a b c d) = gcons (gnum 1) (gcons (from_name a) (gcons (from_codes b) (gcons (from_program c) (gcons (from_arms d) gnil))))

-- what is stored, read as each of them
pub record Part : Type 0 where
  pub statement : Statement
  pub program : Program
  pub branches : Branches
  pub otherwise : Otherwise
  pub arms : Arms

abbrev pub no_part : Part
no_part = record { statement = give_zero; program = the_end; branches = no_branches; otherwise = no_else; arms = no_arms }

abbrev pub part_0 : List Part → Part
part_0 [] = no_part
part_0 (p ∷ ps) = p

abbrev pub part_1 : List Part → Part
part_1 [] = no_part
part_1 (p ∷ ps) = part_0 ps

abbrev pub part_2 : List Part → Part
part_2 [] = no_part
part_2 (p ∷ ps) = part_1 ps

abbrev pub part_3 : List Part → Part
part_3 [] = no_part
part_3 (p ∷ ps) = part_2 ps

abbrev pub statement_at : ℕ → Gv → List Part → Statement
statement_at n g ps =
    cond (n == 0) (evaluate (read_expr (gv_0 g)))
    (cond (n == 1) (give (read_expr (gv_0 g)))
    (cond (n == 2) give_zero
    (cond (n == 3) (branch (part_0 ps).branches (part_1 ps).otherwise)
    (cond (n == 4) (for_each (to_text (gv_0 g)) (read_expr (gv_1 g)) (part_2 ps).program)
    (cond (n == 5) (for_range (to_text (gv_0 g)) (read_expr (gv_1 g)) (read_expr (gv_2 g)) (part_3 ps).program)
    (cond (n == 6) (repeat (to_name (gv_0 g)) (read_expr (gv_1 g)) (part_2 ps).program)
    (cond (n == 7) (fork (to_name (gv_0 g)) (read_expr (gv_1 g)) (part_2 ps).program)
    (cond (n == 8) (guarded (part_0 ps).program (part_1 ps).arms)
    (cond (n == 9) (finished (part_0 ps).program (part_1 ps).program)
    (cond (n == 10) (leave_loop (to_name (gv_0 g)))
    (next_turn (to_name (gv_0 g)))))))))))))

abbrev pub program_at : ℕ → Gv → List Part → Program
program_at n g ps =
    cond (n == 0) the_end
    (seq (part_0 ps).statement (part_1 ps).program)

abbrev pub branches_at : ℕ → Gv → List Part → Branches
branches_at n g ps =
    cond (n == 0) no_branches
    (on (read_expr (gv_0 g)) (part_1 ps).program (part_2 ps).branches)

abbrev pub otherwise_at : ℕ → Gv → List Part → Otherwise
otherwise_at n g ps =
    cond (n == 0) no_else
    (else_do (part_0 ps).program)

abbrev pub arms_at : ℕ → Gv → List Part → Arms
arms_at n g ps =
    cond (n == 0) no_arms
    (except (to_name (gv_0 g)) (read_codes (gv_1 g)) (part_2 ps).program (part_3 ps).arms)

abbrev pub part_of : ℕ → Gv → List Part → Part
part_of n g ps = record { statement = statement_at n g ps; program = program_at n g ps; branches = branches_at n g ps; otherwise = otherwise_at n g ps; arms = arms_at n g ps }

abbrev pub to_part : Gv → Part × List Part
to_part gnil = (no_part, [])
to_part (gnum n) = (no_part, [])
to_part (gcons a b) = (part_of (number_in a) b (to_part b).1, (to_part a).0 ∷ (to_part b).1)

abbrev mutual
  pub statement_back : (x : Statement) → (to_part (from_statement x)).0.statement ≡ x
  statement_back (evaluate a) = λ i. evaluate (expr_back a i)
  statement_back (give a) = λ i. give (expr_back a i)
  statement_back give_zero = refl
  statement_back (branch a b) = λ i. branch (branches_back a i) (otherwise_back b i)
  statement_back (for_each a b c) = λ i. for_each (text_back a i) (expr_back b i) (program_back c i)
  statement_back (for_range a b c d) = λ i. for_range (text_back a i) (expr_back b i) (expr_back c i) (program_back d i)
  statement_back (repeat a b c) = λ i. repeat (name_back a i) (expr_back b i) (program_back c i)
  statement_back (fork a b c) = λ i. fork (name_back a i) (expr_back b i) (program_back c i)
  statement_back (guarded a b) = λ i. guarded (program_back a i) (arms_back b i)
  statement_back (finished a b) = λ i. finished (program_back a i) (program_back b i)
  statement_back (leave_loop a) = λ i. leave_loop (name_back a i)
  statement_back (next_turn a) = λ i. next_turn (name_back a i)

  pub program_back : (x : Program) → (to_part (from_program x)).0.program ≡ x
  program_back the_end = refl
  program_back (seq a b) = λ i. seq (statement_back a i) (program_back b i)

  pub branches_back : (x : Branches) → (to_part (from_branches x)).0.branches ≡ x
  branches_back no_branches = refl
  branches_back (on a b c) = λ i. on (expr_back a i) (program_back b i) (branches_back c i)

  pub otherwise_back : (x : Otherwise) → (to_part (from_otherwise x)).0.otherwise ≡ x
  otherwise_back no_else = refl
  otherwise_back (else_do a) = λ i. else_do (program_back a i)

  pub arms_back : (x : Arms) → (to_part (from_arms x)).0.arms ≡ x
  arms_back no_arms = refl
  arms_back (except a b c d) = λ i. except (name_back a i) (codes_back b i) (program_back c i) (arms_back d i)

abbrev pub read_statement : Gv → Statement
read_statement g = (to_part g).0.statement

abbrev pub statement_code : Coded Statement
statement_code = code_by Gv itself from_statement read_statement statement_back

abbrev pub read_program : Gv → Program
read_program g = (to_part g).0.program

abbrev pub program_code : Coded Program
program_code = code_by Gv itself from_program read_program program_back

abbrev pub read_branches : Gv → Branches
read_branches g = (to_part g).0.branches

abbrev pub branches_code : Coded Branches
branches_code = code_by Gv itself from_branches read_branches branches_back

abbrev pub read_otherwise : Gv → Otherwise
read_otherwise g = (to_part g).0.otherwise

abbrev pub otherwise_code : Coded Otherwise
otherwise_code = code_by Gv itself from_otherwise read_otherwise otherwise_back

abbrev pub read_arms : Gv → Arms
read_arms g = (to_part g).0.arms

abbrev pub arms_code : Coded Arms
arms_code = code_by Gv itself from_arms read_arms arms_back
