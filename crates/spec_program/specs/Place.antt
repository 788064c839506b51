-- Where a verb's program stands (Programmer's Manual, "The MOO Programming Language"): the parts of each construct, counted from 1 as written, and what the construct holds while a part is under way.
use Rattle.std.specs.Prelude.{◌≡◌, ℕ, zero, suc, List, [], ◌∷◌, ◌++◌, length, take, drop, replicate, Option, Some, None, Bool, true, false}
use Rattle.spec_value.specs.Datum.{Datum}
use Rattle.spec_program.specs.Tree.{Expr, unary, binary, both, either, conditional, listing, call, property, verb_call, index, range, caught, assignment, scatter, Arguments, no_arguments, argument, splice, Codes, any_code, codes_in, Fallback, the_code, instead, Target, to_variable, to_property, to_index, to_range, Items, no_items, required, optional, remaining, defaulted, Statement, evaluate, give, branch, for_each, for_range, repeat, fork, guarded, finished, Program, the_end, seq, Branches, no_branches, on, Otherwise, no_else, else_do, Arms, no_arms, except}
use Rattle.spec_program.specs.Construct.{Construct, of_expr, of_target, of_default, of_statement, of_program, Piece}

-- what stands at one place of the held values
pub data Kind : Type 0 where
  any_value : Kind
  any_list : Kind  -- a list so far
  code_list : Kind  -- the codes that a handler takes
  all_codes : Kind  -- 0, of a handler that takes them all

-- what is held while a part is under way
pub data Holds : Type 0 where
  holds : List Kind → Holds
  walks_list : Holds  -- a nonempty list, and how many turns of it were begun
  walks_range : Holds  -- the number or object of this turn, and the last one
  why_left : Holds  -- how the body was left whose finally part is under way

-- a part that nothing can stand in has no tree here: a scatter's item without a default, and a fork's body, which is a task of its own
pub record Part : Type 0 where
  pub tree : Option Construct
  pub held : Holds

abbrev pub part : Construct → List Kind → Part
part c kinds = record { tree = Some c; held = holds kinds }

abbrev pub no_tree : Part
no_tree = record { tree = None; held = holds [] }

-- a splice is its expression
abbrev pub argument_parts : List Kind → Arguments → List Part
argument_parts kinds no_arguments = []
argument_parts kinds (argument e more) = part (of_expr e) kinds ∷ argument_parts kinds more
argument_parts kinds (splice e more) = part (of_expr e) kinds ∷ argument_parts kinds more

-- what is held of codes that were computed
abbrev pub codes_kind : Codes → Kind
codes_kind any_code = all_codes
codes_kind (codes_in es) = code_list

abbrev pub code_parts : List Kind → Codes → List Part
code_parts kinds any_code = []
code_parts kinds (codes_in es) = argument_parts kinds es

abbrev pub fallback_parts : Fallback → List Part
fallback_parts the_code = []
fallback_parts (instead e) = part (of_expr e) [] ∷ []

abbrev pub item_parts : Items → List Part
item_parts no_items = []
item_parts (required x more) = no_tree ∷ item_parts more
item_parts (optional x more) = no_tree ∷ item_parts more
item_parts (remaining x more) = no_tree ∷ item_parts more
item_parts (defaulted x e more) = part (of_default x e) (any_list ∷ []) ∷ item_parts more

-- how many values the parts of a target are
abbrev pub arity : Target → ℕ
arity (to_variable x) = 0
arity (to_property o p) = 2
arity (to_index t i) = suc (arity t)
arity (to_range t a b) = suc (suc (arity t))

abbrev pub expr_parts : Expr → List Part
expr_parts (unary u a) = part (of_expr a) [] ∷ []
expr_parts (binary op a b) = part (of_expr a) [] ∷ part (of_expr b) (any_value ∷ []) ∷ []
expr_parts (both a b) = part (of_expr a) [] ∷ part (of_expr b) [] ∷ []
expr_parts (either a b) = part (of_expr a) [] ∷ part (of_expr b) [] ∷ []
expr_parts (conditional c a b) = part (of_expr c) [] ∷ part (of_expr a) [] ∷ part (of_expr b) [] ∷ []
expr_parts (listing es) = argument_parts (any_list ∷ []) es
expr_parts (call f es) = argument_parts (any_list ∷ []) es
expr_parts (property o p) = part (of_expr o) [] ∷ part (of_expr p) (any_value ∷ []) ∷ []
expr_parts (verb_call o v es) = part (of_expr o) [] ∷ part (of_expr v) (any_value ∷ []) ∷ argument_parts (any_value ∷ any_value ∷ any_list ∷ []) es
expr_parts (index x i) = part (of_expr x) [] ∷ part (of_expr i) (any_value ∷ []) ∷ []
expr_parts (range x a b) = part (of_expr x) [] ∷ part (of_expr a) (any_value ∷ []) ∷ part (of_expr b) (any_value ∷ any_value ∷ []) ∷ []
expr_parts (caught e codes d) = part (of_expr e) (codes_kind codes ∷ []) ∷ code_parts (any_list ∷ []) codes ++ fallback_parts d
expr_parts (assignment t e) = part (of_target t) [] ∷ part (of_expr e) (replicate (arity t) any_value) ∷ []
expr_parts (scatter xs e) = item_parts xs ++ part (of_expr e) [] ∷ []
expr_parts _ = []

abbrev pub target_parts : Target → List Part
target_parts (to_variable x) = []
target_parts (to_property o p) = part (of_expr o) [] ∷ part (of_expr p) (any_value ∷ []) ∷ []
target_parts (to_index t i) = part (of_target t) [] ∷ part (of_expr i) (replicate (arity t) any_value) ∷ []
target_parts (to_range t a b) =
    part (of_target t) [] ∷ part (of_expr a) (replicate (arity t) any_value) ∷ part (of_expr b) (replicate (suc (arity t)) any_value) ∷ []

abbrev pub branch_parts : Branches → List Part
branch_parts no_branches = []
branch_parts (on c p more) = part (of_expr c) [] ∷ part (of_program p) [] ∷ branch_parts more

abbrev pub otherwise_parts : Otherwise → List Part
otherwise_parts no_else = []
otherwise_parts (else_do p) = part (of_program p) [] ∷ []

-- one value for each arm, while the guarded body is under way
abbrev pub arm_kinds : Arms → List Kind
arm_kinds no_arms = []
arm_kinds (except x codes p more) = codes_kind codes ∷ arm_kinds more

-- the codes of an arm beside those of the arms before it
abbrev pub arm_parts : List Kind → Arms → List Part
arm_parts before no_arms = []
arm_parts before (except x codes p more) = code_parts (before ++ any_list ∷ []) codes ++ part (of_program p) [] ∷ arm_parts (before ++ codes_kind codes ∷ []) more

abbrev pub statement_parts : Statement → List Part
statement_parts (evaluate e) = part (of_expr e) [] ∷ []
statement_parts (give e) = part (of_expr e) [] ∷ []
statement_parts (branch bs q) = branch_parts bs ++ otherwise_parts q
statement_parts (for_each x e p) = part (of_expr e) [] ∷ record { tree = Some (of_program p); held = walks_list } ∷ []
statement_parts (for_range x a b p) = part (of_expr a) [] ∷ part (of_expr b) (any_value ∷ []) ∷ record { tree = Some (of_program p); held = walks_range } ∷ []
statement_parts (repeat n c p) = part (of_expr c) [] ∷ part (of_program p) [] ∷ []
statement_parts (fork n e p) = part (of_expr e) [] ∷ no_tree ∷ []
statement_parts (guarded p arms) = part (of_program p) (arm_kinds arms) ∷ arm_parts [] arms
statement_parts (finished p q) = part (of_program p) [] ∷ record { tree = Some (of_program q); held = why_left } ∷ []
statement_parts _ = []

abbrev pub program_parts : Program → List Part
program_parts the_end = []
program_parts (seq s more) = part (of_statement s) [] ∷ program_parts more

abbrev pub parts : Construct → List Part
parts (of_expr e) = expr_parts e
parts (of_target t) = target_parts t
parts (of_default x e) = part (of_expr e) [] ∷ []
parts (of_statement s) = statement_parts s
parts (of_program p) = program_parts p

-- the part that has so many before it
abbrev pub nth : List Part → ℕ → Option Part
nth [] n = None
nth (p ∷ ps) zero = Some p
nth (p ∷ ps) (suc n) = nth ps n

abbrev pub part_at : Construct → ℕ → Option Part
part_at c zero = None
part_at c (suc n) = nth (parts c) n

abbrev pub tree_of : Option Part → Option Construct
tree_of None = None
tree_of (Some p) = p.tree

-- each piece's part is the tree that the piece before it began, and the last piece began the whole
abbrev pub Linked : Construct → List Piece → Construct → Type 0
Linked c [] root = c ≡ root
Linked c (p ∷ ps) root = (tree_of (part_at p.construct p.part) ≡ Some c) × Linked p.construct ps root

-- how many values are held
abbrev pub held_count : Holds → ℕ
held_count (holds kinds) = length kinds
held_count walks_list = 2
held_count walks_range = 2
held_count why_left = 1

abbrev pub in_tree : Option Construct → ℕ → (Construct → ℕ → Option (Construct × List Piece)) → Option (Construct × List Piece)
in_tree None k go = None
in_tree (Some c) k go = go c k

abbrev pub in_part : Option Part → (Construct → ℕ → Option (Construct × List Piece)) → Option (Construct × List Piece)
in_part None go = None
in_part (Some x) go = in_tree x.tree (held_count x.held) go

-- down a path from a construct that these pieces lead out of: what stands there, and the pieces from there
abbrev pub pieces_at : Construct → List ℕ → List Datum → List Piece → Option (Construct × List Piece)
pieces_at c [] [] ps = Some (c, ps)
pieces_at c [] (v ∷ vs) ps = None
pieces_at c (n ∷ path) vs ps = in_part (part_at c n) (λ d k. pieces_at d path (drop k vs) (record { construct = c; part = n; held = take k vs } ∷ ps))

abbrev pub is_call : Construct → Bool
is_call (of_expr (call f es)) = true
is_call (of_expr (verb_call o v es)) = true
is_call _ = false
