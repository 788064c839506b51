-- The parts of a construct are no more than its nodes.
use Rattle.std.proofs.Common.{◌≡◌, ℕ, zero, suc, ◌+◌, ◌≤◌, List, [], ◌∷◌, ◌++◌, length, length-append, Option, Some, None, sym, subst, arith}
use Rattle.spec_program.specs.Tree.{Expr, literal, variable, own_length, unary, binary, both, either, conditional, listing, call, property, verb_call, index, range, caught, assignment, scatter, Arguments, no_arguments, argument, splice, Codes, any_code, codes_in, Fallback, the_code, instead, Target, to_variable, to_property, to_index, to_range, Items, no_items, required, optional, remaining, defaulted, Statement, evaluate, give, give_zero, branch, for_each, for_range, repeat, fork, guarded, finished, leave_loop, next_turn, Program, the_end, seq, Branches, no_branches, on, Otherwise, no_else, else_do, Arms, no_arms, except}
use Rattle.spec_program.specs.Construct.{Construct, of_expr, of_target, of_default, of_statement, of_program}
use Rattle.spec_program.specs.Place.{Kind, any_list, codes_kind, Part, nth, part_at, tree_of, parts, expr_parts, target_parts, argument_parts, code_parts, fallback_parts, item_parts, branch_parts, otherwise_parts, arm_parts, statement_parts, program_parts}
use Rattle.spec_values_kept.specs.Nodes.{expr_nodes, arguments_nodes, codes_nodes, fallback_nodes, target_nodes, items_nodes, statement_nodes, program_nodes, branches_nodes, otherwise_nodes, arms_nodes, construct_nodes, PartsFew, NodesWithin}

-- each tree of these parts has at least one node or is a program, and all together have no more than n
abbrev tree_nodes : Option Construct → ℕ
tree_nodes None = 0
tree_nodes (Some c) = construct_nodes c

abbrev all_nodes : List Part → ℕ
all_nodes [] = 0
all_nodes (x ∷ xs) = tree_nodes x.tree + all_nodes xs

-- parts, and the nodes of their trees
record Few (n : ℕ) (xs : List Part) : Type 0 where
  parts : length xs ≤ n
  nodes : all_nodes xs ≤ n

both_together : (xs ys : List Part) → all_nodes (xs ++ ys) ≡ all_nodes xs + all_nodes ys
both_together [] ys = omega arith
both_together (x ∷ xs) ys = let e : all_nodes (xs ++ ys) ≡ all_nodes xs + all_nodes ys = both_together xs ys in omega (arith, e)

few_together : (n m : ℕ) (xs ys : List Part) → Few n xs → Few m ys → Few (n + m) (xs ++ ys)
few_together n m xs ys h k =
    let a : length xs ≤ n = h.parts in let b : length ys ≤ m = k.parts in let c : all_nodes xs ≤ n = h.nodes in let d : all_nodes ys ≤ m = k.nodes in
    let e : length (xs ++ ys) ≡ length xs + length ys = length-append xs ys in let f : all_nodes (xs ++ ys) ≡ all_nodes xs + all_nodes ys = both_together xs ys in
    (record { parts = omega (arith, a, b, e); nodes = omega (arith, c, d, f) })

few_more : (n m : ℕ) (x : Part) (xs : List Part) → 1 ≤ n → tree_nodes x.tree ≤ n → Few m xs → Few (n + m) (x ∷ xs)
few_more n m x xs i l h = let a : length xs ≤ m = h.parts in let b : all_nodes xs ≤ m = h.nodes in (record { parts = omega (arith, i, a); nodes = omega (arith, l, b) })

none_few : (n : ℕ) → Few n []
none_few n = (record { parts = omega arith; nodes = omega arith })

fewer : (n m : ℕ) (xs : List Part) → n ≤ m → Few n xs → Few m xs
fewer n m xs l h = let a : length xs ≤ n = h.parts in let b : all_nodes xs ≤ n = h.nodes in (record { parts = omega (arith, l, a); nodes = omega (arith, l, b) })

expr_some : (a : Expr) → 1 ≤ expr_nodes a
expr_some (literal v) = omega arith
expr_some (variable x) = omega arith
expr_some own_length = omega arith
expr_some (unary u a) = omega arith
expr_some (binary op a b) = omega arith
expr_some (both a b) = omega arith
expr_some (either a b) = omega arith
expr_some (conditional a b c) = omega arith
expr_some (listing es) = omega arith
expr_some (call f es) = omega arith
expr_some (property a b) = omega arith
expr_some (verb_call a b es) = omega arith
expr_some (index a b) = omega arith
expr_some (range a b c) = omega arith
expr_some (caught a codes d) = omega arith
expr_some (assignment t a) = omega arith
expr_some (scatter xs a) = omega arith

target_some : (t : Target) → 1 ≤ target_nodes t
target_some (to_variable x) = omega arith
target_some (to_property a b) = omega arith
target_some (to_index t a) = omega arith
target_some (to_range t a b) = omega arith

statement_some : (t : Statement) → 1 ≤ statement_nodes t
statement_some (evaluate a) = omega arith
statement_some (give a) = omega arith
statement_some give_zero = omega arith
statement_some (branch bs q) = omega arith
statement_some (for_each x a p) = omega arith
statement_some (for_range x a b p) = omega arith
statement_some (repeat x a p) = omega arith
statement_some (fork x a p) = omega arith
statement_some (guarded p arms) = omega arith
statement_some (finished p q) = omega arith
statement_some (leave_loop x) = omega arith
statement_some (next_turn x) = omega arith

same : (n : ℕ) → n ≤ n
same n = omega arith

argument_few : (ks : List Kind) (es : Arguments) → Few (arguments_nodes es) (argument_parts ks es)
argument_few ks no_arguments = none_few 0
argument_few ks (argument a es) = few_more (expr_nodes a) (arguments_nodes es) _ (argument_parts ks es) (expr_some a) (same (expr_nodes a)) (argument_few ks es)
argument_few ks (splice a es) = few_more (expr_nodes a) (arguments_nodes es) _ (argument_parts ks es) (expr_some a) (same (expr_nodes a)) (argument_few ks es)

code_few : (ks : List Kind) (codes : Codes) → Few (codes_nodes codes) (code_parts ks codes)
code_few ks any_code = none_few 0
code_few ks (codes_in es) = argument_few ks es

one_few : (n : ℕ) (x : Part) → 1 ≤ n → tree_nodes x.tree ≤ n → Few n (x ∷ [])
one_few n x i l = (record { parts = i; nodes = omega (arith, l) })

fallback_few : (d : Fallback) → Few (fallback_nodes d) (fallback_parts d)
fallback_few the_code = none_few 0
fallback_few (instead a) = one_few (expr_nodes a) _ (expr_some a) (same (expr_nodes a))

item_few : (xs : Items) → Few (items_nodes xs) (item_parts xs)
item_few no_items = none_few 0
item_few (required x more) = let k = item_few more in let a : length (item_parts more) ≤ items_nodes more = k.parts in let b : all_nodes (item_parts more) ≤ items_nodes more = k.nodes in (record { parts = omega (arith, a); nodes = omega (arith, b) })
item_few (optional x more) = let k = item_few more in let a : length (item_parts more) ≤ items_nodes more = k.parts in let b : all_nodes (item_parts more) ≤ items_nodes more = k.nodes in (record { parts = omega (arith, a); nodes = omega (arith, b) })
item_few (remaining x more) = let k = item_few more in let a : length (item_parts more) ≤ items_nodes more = k.parts in let b : all_nodes (item_parts more) ≤ items_nodes more = k.nodes in (record { parts = omega (arith, a); nodes = omega (arith, b) })
item_few (defaulted x a more) = let k = item_few more in let l : length (item_parts more) ≤ items_nodes more = k.parts in let m : all_nodes (item_parts more) ≤ items_nodes more = k.nodes in (record { parts = omega (arith, l); nodes = omega (arith, m) })

branch_few : (bs : Branches) → Few (branches_nodes bs) (branch_parts bs)
branch_few no_branches = none_few 0
branch_few (on a p more) =
    let k = branch_few more in let l : length (branch_parts more) ≤ branches_nodes more = k.parts in let m : all_nodes (branch_parts more) ≤ branches_nodes more = k.nodes in
    let i : 1 ≤ expr_nodes a = expr_some a in (record { parts = omega (arith, l, i); nodes = omega (arith, m) })

otherwise_few : (q : Otherwise) → Few (otherwise_nodes q) (otherwise_parts q)
otherwise_few no_else = none_few 0
otherwise_few (else_do p) = (record { parts = omega arith; nodes = omega arith })

arm_few : (before : List Kind) (arms : Arms) → Few (arms_nodes arms) (arm_parts before arms)
arm_few before no_arms = none_few 0
arm_few before (except x codes p more) =
    let later = arm_few (before ++ codes_kind codes ∷ []) more in
    fewer (codes_nodes codes + (suc (program_nodes p) + arms_nodes more)) (arms_nodes (except x codes p more)) _ (omega arith)
    (few_together (codes_nodes codes) (suc (program_nodes p) + arms_nodes more) _ _ (code_few (before ++ any_list ∷ []) codes)
    (few_more (suc (program_nodes p)) (arms_nodes more) _ _ (omega arith) (omega arith) later))

program_few : (p : Program) → Few (program_nodes p) (program_parts p)
program_few the_end = none_few 0
program_few (seq t p) = few_more (statement_nodes t) (program_nodes p) _ (program_parts p) (statement_some t) (same (statement_nodes t)) (program_few p)

-- ---- of constructs, whose own node is not among their parts'

two_few : (a b : ℕ) (x y : Part) → 1 ≤ a → 1 ≤ b → tree_nodes x.tree ≤ a → tree_nodes y.tree ≤ b → Few (suc (a + b)) (x ∷ y ∷ [])
two_few a b x y i j k l = (record { parts = omega (arith, i, j); nodes = omega (arith, k, l) })

three_few : (a b c : ℕ) (x y z : Part) → 1 ≤ a → 1 ≤ b → 1 ≤ c → tree_nodes x.tree ≤ a → tree_nodes y.tree ≤ b → tree_nodes z.tree ≤ c
    → Few (suc (a + (b + c))) (x ∷ y ∷ z ∷ [])
three_few a b c x y z i j m k l n = (record { parts = omega (arith, i, j, m); nodes = omega (arith, k, l, n) })

expr_few : (a : Expr) → Few (expr_nodes a) (expr_parts a)
expr_few (literal v) = none_few 1
expr_few (variable x) = none_few 1
expr_few own_length = none_few 1
expr_few (unary u a) = (record { parts = omega arith; nodes = omega arith })
expr_few (binary op a b) = two_few (expr_nodes a) (expr_nodes b) _ _ (expr_some a) (expr_some b) (same (expr_nodes a)) (same (expr_nodes b))
expr_few (both a b) = two_few (expr_nodes a) (expr_nodes b) _ _ (expr_some a) (expr_some b) (same (expr_nodes a)) (same (expr_nodes b))
expr_few (either a b) = two_few (expr_nodes a) (expr_nodes b) _ _ (expr_some a) (expr_some b) (same (expr_nodes a)) (same (expr_nodes b))
expr_few (conditional a b c) =
    three_few (expr_nodes a) (expr_nodes b) (expr_nodes c) _ _ _ (expr_some a) (expr_some b) (expr_some c) (same (expr_nodes a)) (same (expr_nodes b)) (same (expr_nodes c))
expr_few (listing es) = fewer (arguments_nodes es) (suc (arguments_nodes es)) _ (omega arith) (argument_few _ es)
expr_few (call f es) = fewer (arguments_nodes es) (suc (arguments_nodes es)) _ (omega arith) (argument_few _ es)
expr_few (property a b) = two_few (expr_nodes a) (expr_nodes b) _ _ (expr_some a) (expr_some b) (same (expr_nodes a)) (same (expr_nodes b))
expr_few (verb_call a b es) =
    fewer (expr_nodes a + (expr_nodes b + arguments_nodes es)) (expr_nodes (verb_call a b es)) _ (omega arith)
    (few_more (expr_nodes a) (expr_nodes b + arguments_nodes es) _ _ (expr_some a) (same (expr_nodes a))
    (few_more (expr_nodes b) (arguments_nodes es) _ _ (expr_some b) (same (expr_nodes b)) (argument_few _ es)))
expr_few (index a b) = two_few (expr_nodes a) (expr_nodes b) _ _ (expr_some a) (expr_some b) (same (expr_nodes a)) (same (expr_nodes b))
expr_few (range a b c) =
    three_few (expr_nodes a) (expr_nodes b) (expr_nodes c) _ _ _ (expr_some a) (expr_some b) (expr_some c) (same (expr_nodes a)) (same (expr_nodes b)) (same (expr_nodes c))
expr_few (caught a codes d) =
    fewer (expr_nodes a + (codes_nodes codes + fallback_nodes d)) (expr_nodes (caught a codes d)) _ (omega arith)
    (few_more (expr_nodes a) (codes_nodes codes + fallback_nodes d) _ _ (expr_some a) (same (expr_nodes a))
    (few_together (codes_nodes codes) (fallback_nodes d) _ _ (code_few _ codes) (fallback_few d)))
expr_few (assignment t a) = two_few (target_nodes t) (expr_nodes a) _ _ (target_some t) (expr_some a) (same (target_nodes t)) (same (expr_nodes a))
expr_few (scatter xs a) =
    fewer (items_nodes xs + expr_nodes a) (expr_nodes (scatter xs a)) _ (omega arith)
    (few_together (items_nodes xs) (expr_nodes a) _ _ (item_few xs) (one_few (expr_nodes a) _ (expr_some a) (same (expr_nodes a))))

target_few : (t : Target) → Few (target_nodes t) (target_parts t)
target_few (to_variable x) = none_few 1
target_few (to_property a b) = two_few (expr_nodes a) (expr_nodes b) _ _ (expr_some a) (expr_some b) (same (expr_nodes a)) (same (expr_nodes b))
target_few (to_index t a) = two_few (target_nodes t) (expr_nodes a) _ _ (target_some t) (expr_some a) (same (target_nodes t)) (same (expr_nodes a))
target_few (to_range t a b) =
    three_few (target_nodes t) (expr_nodes a) (expr_nodes b) _ _ _ (target_some t) (expr_some a) (expr_some b) (same (target_nodes t)) (same (expr_nodes a)) (same (expr_nodes b))

statement_few : (t : Statement) → Few (statement_nodes t) (statement_parts t)
statement_few (evaluate a) = (record { parts = omega arith; nodes = omega arith })
statement_few (give a) = (record { parts = omega arith; nodes = omega arith })
statement_few give_zero = none_few 1
statement_few (branch bs q) =
    fewer (branches_nodes bs + otherwise_nodes q) (statement_nodes (branch bs q)) _ (omega arith)
    (few_together (branches_nodes bs) (otherwise_nodes q) _ _ (branch_few bs) (otherwise_few q))
statement_few (for_each x a p) = (record { parts = omega arith; nodes = omega arith })
statement_few (for_range x a b p) = let i : 1 ≤ expr_nodes a = expr_some a in (record { parts = omega (arith, i); nodes = omega arith })
statement_few (repeat x a p) = (record { parts = omega arith; nodes = omega arith })
statement_few (fork x a p) = (record { parts = omega arith; nodes = omega arith })
statement_few (guarded p arms) =
    let k = arm_few [] arms in let l : length (arm_parts [] arms) ≤ arms_nodes arms = k.parts in let m : all_nodes (arm_parts [] arms) ≤ arms_nodes arms = k.nodes in
    (record { parts = omega (arith, l); nodes = omega (arith, m) })
statement_few (finished p q) = (record { parts = omega arith; nodes = omega arith })
statement_few (leave_loop x) = none_few 1
statement_few (next_turn x) = none_few 1

construct_few : (c : Construct) → Few (construct_nodes c) (parts c)
construct_few (of_expr a) = expr_few a
construct_few (of_target t) = target_few t
construct_few (of_default x a) = (record { parts = omega arith; nodes = omega arith })
construct_few (of_statement t) = statement_few t
construct_few (of_program p) = program_few p

pub parts_few : PartsFew
parts_few c = (construct_few c).parts

-- ---- along the constructs under way

of_nth : (xs : List Part) (k : ℕ) (c : Construct) → tree_of (nth xs k) ≡ Some c → construct_nodes c ≤ all_nodes xs
of_nth [] k c e = cc
of_nth (x ∷ xs) zero c e = let l : construct_nodes c ≤ tree_nodes x.tree = subst (λ o. construct_nodes c ≤ tree_nodes o) (sym e) (same (construct_nodes c)) in omega (arith, l)
of_nth (x ∷ xs) (suc k) c e = let l : construct_nodes c ≤ all_nodes xs = of_nth xs k c e in omega (arith, l)

part_within : (d : Construct) (k : ℕ) (c : Construct) → tree_of (part_at d k) ≡ Some c → construct_nodes c ≤ construct_nodes d
part_within d zero c e = cc
part_within d (suc k) c e =
    let l : construct_nodes c ≤ all_nodes (parts d) = of_nth (parts d) k c e in let m : all_nodes (parts d) ≤ construct_nodes d = (construct_few d).nodes in omega (arith, l, m)

pub nodes_within : NodesWithin
nodes_within c root [] e = subst (λ d. construct_nodes c ≤ construct_nodes d) e (same (construct_nodes c))
nodes_within c root (q ∷ ps) e =
    let one : construct_nodes c ≤ construct_nodes q.construct = part_within q.construct q.part c e.0 in
    let more : construct_nodes q.construct ≤ construct_nodes root = nodes_within q.construct root ps e.1 in
    omega (arith, one, more)
