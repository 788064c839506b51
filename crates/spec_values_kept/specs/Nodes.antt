-- How many nodes a program's tree has: at least as many as each construct of it has parts, and no more than twice the characters of a text that spells it.
use Rattle.std.specs.Prelude.{◌≡◌, ◌≤◌, ℕ, suc, ◌+◌, ◌*◌, List, length}
use Rattle.spec_value.specs.Datum.{Text}
use Rattle.spec_program.specs.Tree.{Expr, literal, variable, own_length, unary, binary, both, either, conditional, listing, call, property, verb_call, index, range, caught, assignment, scatter, Arguments, no_arguments, argument, splice, Codes, any_code, codes_in, Fallback, the_code, instead, Target, to_variable, to_property, to_index, to_range, Items, no_items, required, optional, remaining, defaulted, Statement, evaluate, give, give_zero, branch, for_each, for_range, repeat, fork, guarded, finished, leave_loop, next_turn, Program, the_end, seq, Branches, no_branches, on, Otherwise, no_else, else_do, Arms, no_arms, except}
use Rattle.spec_program.specs.Construct.{Construct, of_expr, of_target, of_default, of_statement, of_program, Piece}
use Rattle.spec_program.specs.Place.{parts, Linked}
use Rattle.spec_program.specs.ReadPrograms.{program, parsed}

abbrev mutual
  pub expr_nodes : Expr → ℕ
  expr_nodes (literal v) = 1
  expr_nodes (variable x) = 1
  expr_nodes own_length = 1
  expr_nodes (unary u a) = suc (expr_nodes a)
  expr_nodes (binary op a b) = suc (expr_nodes a + expr_nodes b)
  expr_nodes (both a b) = suc (expr_nodes a + expr_nodes b)
  expr_nodes (either a b) = suc (expr_nodes a + expr_nodes b)
  expr_nodes (conditional c a b) = suc (expr_nodes c + (expr_nodes a + expr_nodes b))
  expr_nodes (listing es) = suc (arguments_nodes es)
  expr_nodes (call f es) = suc (arguments_nodes es)
  expr_nodes (property o p) = suc (expr_nodes o + expr_nodes p)
  expr_nodes (verb_call o v es) = suc (expr_nodes o + (expr_nodes v + arguments_nodes es))
  expr_nodes (index x i) = suc (expr_nodes x + expr_nodes i)
  expr_nodes (range x a b) = suc (expr_nodes x + (expr_nodes a + expr_nodes b))
  expr_nodes (caught e codes d) = suc (expr_nodes e + (codes_nodes codes + fallback_nodes d))
  expr_nodes (assignment t e) = suc (target_nodes t + expr_nodes e)
  expr_nodes (scatter xs e) = suc (items_nodes xs + expr_nodes e)

  pub arguments_nodes : Arguments → ℕ
  arguments_nodes no_arguments = 0
  arguments_nodes (argument e more) = expr_nodes e + arguments_nodes more
  arguments_nodes (splice e more) = expr_nodes e + arguments_nodes more

  pub codes_nodes : Codes → ℕ
  codes_nodes any_code = 0
  codes_nodes (codes_in es) = arguments_nodes es

  pub fallback_nodes : Fallback → ℕ
  fallback_nodes the_code = 0
  fallback_nodes (instead e) = expr_nodes e

  pub target_nodes : Target → ℕ
  target_nodes (to_variable x) = 1
  target_nodes (to_property o p) = suc (expr_nodes o + expr_nodes p)
  target_nodes (to_index t i) = suc (target_nodes t + expr_nodes i)
  target_nodes (to_range t a b) = suc (target_nodes t + (expr_nodes a + expr_nodes b))

  pub items_nodes : Items → ℕ
  items_nodes no_items = 0
  items_nodes (required x more) = suc (items_nodes more)
  items_nodes (optional x more) = suc (items_nodes more)
  items_nodes (remaining x more) = suc (items_nodes more)
  items_nodes (defaulted x e more) = suc (expr_nodes e + items_nodes more)

abbrev mutual
  pub statement_nodes : Statement → ℕ
  statement_nodes (evaluate e) = suc (expr_nodes e)
  statement_nodes (give e) = suc (expr_nodes e)
  statement_nodes give_zero = 1
  statement_nodes (branch bs q) = suc (branches_nodes bs + otherwise_nodes q)
  statement_nodes (for_each x e p) = suc (suc (expr_nodes e + program_nodes p))
  statement_nodes (for_range x a b p) = suc (suc (expr_nodes a + (expr_nodes b + program_nodes p)))
  statement_nodes (repeat n c p) = suc (suc (expr_nodes c + program_nodes p))
  statement_nodes (fork n e p) = suc (suc (expr_nodes e + program_nodes p))
  statement_nodes (guarded p arms) = suc (program_nodes p + arms_nodes arms)
  statement_nodes (finished p q) = suc (suc (program_nodes p + program_nodes q))
  statement_nodes (leave_loop x) = 1
  statement_nodes (next_turn x) = 1

  pub program_nodes : Program → ℕ
  program_nodes the_end = 0
  program_nodes (seq s more) = statement_nodes s + program_nodes more

  pub branches_nodes : Branches → ℕ
  branches_nodes no_branches = 0
  branches_nodes (on c p bs) = suc (expr_nodes c + (program_nodes p + branches_nodes bs))

  pub otherwise_nodes : Otherwise → ℕ
  otherwise_nodes no_else = 0
  otherwise_nodes (else_do p) = suc (program_nodes p)

  pub arms_nodes : Arms → ℕ
  arms_nodes no_arms = 0
  arms_nodes (except x codes p more) = suc (codes_nodes codes + (program_nodes p + arms_nodes more))

abbrev pub construct_nodes : Construct → ℕ
construct_nodes (of_expr a) = expr_nodes a
construct_nodes (of_target t) = target_nodes t
construct_nodes (of_default x a) = suc (expr_nodes a)
construct_nodes (of_statement t) = statement_nodes t
construct_nodes (of_program p) = program_nodes p

-- ---- laws

-- a construct has no more parts than nodes
abbrev pub PartsFew : Type 0
PartsFew = (c : Construct) → length (parts c) ≤ construct_nodes c

-- and no more nodes than what it is a part of
abbrev pub NodesWithin : Type 0
NodesWithin = (c root : Construct) (ps : List Piece) → Linked c ps root → construct_nodes c ≤ construct_nodes root

-- a text spells no more than two for each of its characters
abbrev pub ParsedFew : Type 0
ParsedFew = (t : Text) (p : Program) → parsed t ≡ program p → program_nodes p ≤ 2 * length t
