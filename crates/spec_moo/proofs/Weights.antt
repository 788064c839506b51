-- A construct weighs five more than what is to be done in it, and each part that is begun leaves less.
use Rattle.std.proofs.Common.{◌≡◌, ℕ, zero, suc, ◌+◌, ◌≤◌, ◌<◌, List, [], ◌∷◌, ◌++◌, drop, Option, Some, None, refl, ap, arith}
use Rattle.spec_program.specs.Tree.{Expr, literal, variable, own_length, unary, binary, both, either, conditional, listing, call, property, verb_call, index, range, caught, assignment, scatter, Arguments, no_arguments, argument, splice, Codes, any_code, codes_in, Fallback, the_code, instead, Target, to_variable, to_property, to_index, to_range, Items, no_items, required, optional, remaining, defaulted, Statement, evaluate, give, give_zero, branch, for_each, for_range, repeat, fork, guarded, finished, leave_loop, next_turn, Program, the_end, seq, Branches, no_branches, on, Otherwise, no_else, else_do, Arms, no_arms, except}
use Rattle.spec_program.specs.Construct.{Construct, of_expr, of_target, of_default, of_statement, of_program}
use Rattle.spec_program.specs.Place.{Kind, any_value, any_list, codes_kind, Part, part, argument_parts, code_parts, fallback_parts, item_parts, expr_parts, target_parts, branch_parts, otherwise_parts, arm_parts, statement_parts, program_parts, parts, nth, part_at}
use Rattle.spec_moo.specs.Sizes.{expr_size, arguments_size, codes_size, fallback_size, target_size, items_size, statement_size, program_size, branches_size, otherwise_size, arms_size, construct_size, tree_size, parts_size, repeated_size, rest_size}

-- ---- lists of parts

joined_size : (ps qs : List Part) → parts_size (ps ++ qs) ≡ parts_size ps + parts_size qs
joined_size [] qs = omega arith
joined_size (p ∷ ps) qs = omega (arith, joined_size ps qs)

pub split : (ps : List Part) (n : ℕ) (x : Part) → nth ps n ≡ Some x → parts_size (drop n ps) ≡ tree_size x.tree + parts_size (drop (suc n) ps)
split [] n x h = cc
split (p ∷ ps) zero x h = go h
  where
    go : Some p ≡ Some x → tree_size p.tree + parts_size ps ≡ tree_size x.tree + parts_size ps
    go h = ap (λ o. the_size o + parts_size ps) h
      where
        the_size : Option Part → ℕ
        the_size None = 0
        the_size (Some y) = tree_size y.tree
split (p ∷ ps) (suc n) x h = split ps n x h

drops_none : (n : ℕ) → parts_size (drop n []) ≡ 0
drops_none zero = refl
drops_none (suc n) = refl

drops_all : (ps : List Part) (m : ℕ) → parts_size (drop m ps) ≤ parts_size ps
drops_all ps zero = omega arith
drops_all [] (suc m) = omega arith
drops_all (p ∷ ps) (suc m) = omega (arith, drops_all ps m)

pub drops : (ps : List Part) (n m : ℕ) → n ≤ m → parts_size (drop m ps) ≤ parts_size (drop n ps)
drops ps zero m h = drops_all ps m
drops ps (suc n) zero h = absurd (omega arith)
drops [] (suc n) (suc m) h = omega arith
drops (p ∷ ps) (suc n) (suc m) h = drops ps n m (omega arith)

-- a part behind the first n, and all parts behind it
pub later_part : (c : Construct) (n m : ℕ) (x : Part) → n < m → part_at c m ≡ Some x → tree_size x.tree + parts_size (drop m (parts c)) ≤ parts_size (drop n (parts c))
later_part c n zero x h is = absurd (omega arith)
later_part c n (suc m) x h is = omega (arith, split (parts c) m x is, drops (parts c) n m (omega arith))

-- any part, and all behind it
pub some_part : (c : Construct) (m : ℕ) (x : Part) → part_at c m ≡ Some x → tree_size x.tree + parts_size (drop m (parts c)) ≤ parts_size (parts c)
some_part c zero x is = cc
some_part c (suc m) x is = omega (arith, split (parts c) m x is, drops_all (parts c) m)

-- ---- trees

arguments_whole : (kinds : List Kind) (es : Arguments) → parts_size (argument_parts kinds es) ≡ arguments_size es
arguments_whole kinds no_arguments = refl
arguments_whole kinds (argument e more) = omega (arith, arguments_whole kinds more)
arguments_whole kinds (splice e more) = omega (arith, arguments_whole kinds more)

codes_whole : (kinds : List Kind) (codes : Codes) → parts_size (code_parts kinds codes) ≡ codes_size codes
codes_whole kinds any_code = refl
codes_whole kinds (codes_in es) = arguments_whole kinds es

fallback_whole : (d : Fallback) → parts_size (fallback_parts d) ≡ fallback_size d
fallback_whole the_code = refl
fallback_whole (instead e) = omega arith

items_whole : (xs : Items) → parts_size (item_parts xs) ≡ items_size xs
items_whole no_items = refl
items_whole (required x more) = omega (arith, items_whole more)
items_whole (optional x more) = omega (arith, items_whole more)
items_whole (remaining x more) = omega (arith, items_whole more)
items_whole (defaulted x e more) = omega (arith, items_whole more)

expr_whole : (e : Expr) → expr_size e ≡ 5 + parts_size (expr_parts e)
expr_whole (literal v) = refl
expr_whole (variable x) = refl
expr_whole own_length = refl
expr_whole (unary u a) = omega arith
expr_whole (binary op a b) = omega arith
expr_whole (both a b) = omega arith
expr_whole (either a b) = omega arith
expr_whole (conditional c a b) = omega arith
expr_whole (listing es) = omega (arith, arguments_whole (any_list ∷ []) es)
expr_whole (call f es) = omega (arith, arguments_whole (any_list ∷ []) es)
expr_whole (property o p) = omega arith
expr_whole (verb_call o v es) = omega (arith, arguments_whole (any_value ∷ any_value ∷ any_list ∷ []) es)
expr_whole (index x i) = omega arith
expr_whole (range x a b) = omega arith
expr_whole (caught e codes d) =
    omega (arith, joined_size (code_parts (any_list ∷ []) codes) (fallback_parts d), codes_whole (any_list ∷ []) codes, fallback_whole d)
expr_whole (assignment t e) = omega arith
expr_whole (scatter xs e) = omega (arith, joined_size (item_parts xs) (part (of_expr e) [] ∷ []), items_whole xs)

target_whole : (t : Target) → target_size t ≡ 5 + parts_size (target_parts t)
target_whole (to_variable x) = refl
target_whole (to_property o p) = omega arith
target_whole (to_index t i) = omega arith
target_whole (to_range t a b) = omega arith

branches_whole : (bs : Branches) → parts_size (branch_parts bs) ≡ branches_size bs
branches_whole no_branches = refl
branches_whole (on c p more) = omega (arith, branches_whole more)

otherwise_whole : (q : Otherwise) → parts_size (otherwise_parts q) ≡ otherwise_size q
otherwise_whole no_else = refl
otherwise_whole (else_do p) = omega arith

arms_whole : (before : List Kind) (arms : Arms) → parts_size (arm_parts before arms) ≡ arms_size arms
arms_whole before no_arms = refl
arms_whole before (except x codes p more) =
    omega (arith, joined_size (code_parts (before ++ any_list ∷ []) codes) (part (of_program p) [] ∷ arm_parts (before ++ codes_kind codes ∷ []) more), codes_whole (before ++ any_list ∷ []) codes, arms_whole (before ++ codes_kind codes ∷ []) more)

program_whole : (p : Program) → program_size p ≡ 5 + parts_size (program_parts p)
program_whole the_end = refl
program_whole (seq s more) = omega (arith, program_whole more)

statement_whole : (t : Statement) → statement_size t ≡ 5 + (repeated_size (of_statement t) 0 + parts_size (statement_parts t))
statement_whole (evaluate e) = omega arith
statement_whole (give e) = omega arith
statement_whole give_zero = refl
statement_whole (branch bs q) = omega (arith, joined_size (branch_parts bs) (otherwise_parts q), branches_whole bs, otherwise_whole q)
statement_whole (for_each x e p) = omega arith
statement_whole (for_range x a b p) = omega arith
statement_whole (repeat x c p) = omega arith
statement_whole (fork x e p) = omega arith
statement_whole (guarded p arms) = omega (arith, arms_whole [] arms)
statement_whole (finished p q) = omega arith
statement_whole (leave_loop x) = refl
statement_whole (next_turn x) = refl

-- a tree weighs five more than what it has to do from its beginning
pub whole : (c : Construct) → construct_size c ≡ 5 + rest_size c 0
unfolding rest_size
whole (of_expr e) = omega (arith, expr_whole e)
whole (of_target t) = omega (arith, target_whole t)
whole (of_default x e) = omega arith
whole (of_statement t) = statement_whole t
whole (of_program p) = omega (arith, program_whole p)
