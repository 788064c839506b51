-- A path of constructs under way has as many loops as the tree is higher at its beginning.
use Rattle.std.proofs.Common.{◌≡◌, ℕ, zero, suc, ◌+◌, ◌≤◌, max, List, [], ◌∷◌, ◌++◌, Some, refl, subst, arith}
use Rattle.spec_program.specs.Tree.{Expr, literal, variable, own_length, unary, binary, both, either, conditional, listing, call, property, verb_call, index, range, caught, assignment, scatter, Arguments, no_arguments, argument, splice, Codes, any_code, codes_in, Fallback, the_code, instead, Target, to_variable, to_property, to_index, to_range, Items, no_items, required, optional, remaining, defaulted, Statement, evaluate, give, give_zero, branch, for_each, for_range, repeat, fork, guarded, finished, leave_loop, next_turn, Program, the_end, seq, Branches, no_branches, on, Otherwise, no_else, else_do, Arms, no_arms, except}
use Rattle.spec_program.specs.Construct.{Construct, of_expr, of_target, of_default, of_statement, of_program}
use Rattle.spec_program.specs.Place.{Kind, any_list, codes_kind, Part, nth, part_at, tree_of, parts, expr_parts, target_parts, argument_parts, code_parts, fallback_parts, item_parts, branch_parts, otherwise_parts, arm_parts, statement_parts, program_parts}
use Rattle.spec_program.specs.Trees.{expr_height, arguments_height, codes_height, fallback_height, target_height, items_height, statement_height, program_height, branches_height, otherwise_height, arms_height}
use Rattle.spec_world.specs.WellFormed.{is_loop, loops}
use Rattle.spec_values_kept.specs.Values.{Each, IfThere}
use Rattle.spec_values_kept.specs.UnderWay.{construct_height, LoopsLower}
use Rattle.spec_values_kept.proofs.Tables.{each_together}

-- the tree of a part is no higher
abbrev Within : ℕ → Part → Type 0
Within n x = IfThere (λ c. construct_height c ≤ n) x.tree

of_nth : (n : ℕ) (xs : List Part) (k : ℕ) (c : Construct) → Each (Within n) xs → tree_of (nth xs k) ≡ Some c → construct_height c ≤ n
of_nth n [] k c h e = cc
of_nth n (x ∷ xs) zero c h e = subst (IfThere (λ d. construct_height d ≤ n)) e h.0
of_nth n (x ∷ xs) (suc k) c h e = of_nth n xs k c h.1 e

-- ---- bounds of the greater of two

left : (a b n : ℕ) → max a b ≤ n → a ≤ n
left a b n h = omega (arith, h)

right : (a b n : ℕ) → max a b ≤ n → b ≤ n
right a b n h = omega (arith, h)

itself : (n : ℕ) → n ≤ n
itself n = omega arith

module _ (n : ℕ) where
  argument_within : (ks : List Kind) (es : Arguments) → arguments_height es ≤ n → Each (Within n) (argument_parts ks es)
  argument_within ks no_arguments h = tt
  argument_within ks (argument a es) h = (left (expr_height a) (arguments_height es) n h, argument_within ks es (right (expr_height a) (arguments_height es) n h))
  argument_within ks (splice a es) h = (left (expr_height a) (arguments_height es) n h, argument_within ks es (right (expr_height a) (arguments_height es) n h))

  code_within : (ks : List Kind) (codes : Codes) → codes_height codes ≤ n → Each (Within n) (code_parts ks codes)
  code_within ks any_code h = tt
  code_within ks (codes_in es) h = argument_within ks es h

  fallback_within : (d : Fallback) → fallback_height d ≤ n → Each (Within n) (fallback_parts d)
  fallback_within the_code h = tt
  fallback_within (instead a) h = (h, tt)

  item_within : (xs : Items) → items_height xs ≤ n → Each (Within n) (item_parts xs)
  item_within no_items h = tt
  item_within (required x more) h = (tt, item_within more h)
  item_within (optional x more) h = (tt, item_within more h)
  item_within (remaining x more) h = (tt, item_within more h)
  item_within (defaulted x a more) h = (left (expr_height a) (items_height more) n h, item_within more (right (expr_height a) (items_height more) n h))

  two_within : (a b : ℕ) → max a b ≤ n → (a ≤ n) × (b ≤ n)
  two_within a b h = (left a b n h, right a b n h)

  three_within : (a b c : ℕ) → max a (max b c) ≤ n → (a ≤ n) × ((b ≤ n) × (c ≤ n))
  three_within a b c h = (left a (max b c) n h, two_within b c (right a (max b c) n h))

  branch_within : (bs : Branches) → branches_height bs ≤ n → Each (Within n) (branch_parts bs)
  branch_within no_branches h = tt
  branch_within (on a p more) h =
      let k = three_within (expr_height a) (program_height p) (branches_height more) h in (k.0, ((k.1).0, branch_within more (k.1).1))

  otherwise_within : (q : Otherwise) → otherwise_height q ≤ n → Each (Within n) (otherwise_parts q)
  otherwise_within no_else h = tt
  otherwise_within (else_do p) h = (h, tt)

  arm_within : (before : List Kind) (arms : Arms) → arms_height arms ≤ n → Each (Within n) (arm_parts before arms)
  arm_within before no_arms h = tt
  arm_within before (except x codes p more) h =
      let k = three_within (codes_height codes) (program_height p) (arms_height more) h in
      each_together (Within n) _ _ (code_within (before ++ any_list ∷ []) codes k.0) ((k.1).0, arm_within (before ++ codes_kind codes ∷ []) more (k.1).1)

  program_within : (p : Program) → program_height p ≤ n → Each (Within n) (program_parts p)
  program_within the_end h = tt
  program_within (seq t p) h = let k = two_within (statement_height t) (program_height p) h in (k.0, program_within p k.1)

  -- ---- a construct of this height has parts that are lower

  expr_within : (a : Expr) → expr_height a ≤ suc n → Each (Within n) (expr_parts a)
  expr_within (literal v) h = tt
  expr_within (variable x) h = tt
  expr_within own_length h = tt
  expr_within (unary u a) h = (omega (arith, h), tt)
  expr_within (binary op a b) h = let k = two_within (expr_height a) (expr_height b) (omega (arith, h)) in (k.0, (k.1, tt))
  expr_within (both a b) h = let k = two_within (expr_height a) (expr_height b) (omega (arith, h)) in (k.0, (k.1, tt))
  expr_within (either a b) h = let k = two_within (expr_height a) (expr_height b) (omega (arith, h)) in (k.0, (k.1, tt))
  expr_within (conditional a b c) h =
      let k = three_within (expr_height a) (expr_height b) (expr_height c) (omega (arith, h)) in (k.0, ((k.1).0, ((k.1).1, tt)))
  expr_within (listing es) h = argument_within _ es (omega (arith, h))
  expr_within (call f es) h = argument_within _ es (omega (arith, h))
  expr_within (property a b) h = let k = two_within (expr_height a) (expr_height b) (omega (arith, h)) in (k.0, (k.1, tt))
  expr_within (verb_call a b es) h =
      let k = three_within (expr_height a) (expr_height b) (arguments_height es) (omega (arith, h)) in (k.0, ((k.1).0, argument_within _ es (k.1).1))
  expr_within (index a b) h = let k = two_within (expr_height a) (expr_height b) (omega (arith, h)) in (k.0, (k.1, tt))
  expr_within (range a b c) h =
      let k = three_within (expr_height a) (expr_height b) (expr_height c) (omega (arith, h)) in (k.0, ((k.1).0, ((k.1).1, tt)))
  expr_within (caught a codes d) h =
      let k = three_within (expr_height a) (codes_height codes) (fallback_height d) (omega (arith, h)) in
      (k.0, each_together (Within n) _ _ (code_within _ codes (k.1).0) (fallback_within d (k.1).1))
  expr_within (assignment t a) h = let k = two_within (target_height t) (expr_height a) (omega (arith, h)) in (k.0, (k.1, tt))
  expr_within (scatter xs a) h =
      let k = two_within (items_height xs) (expr_height a) (omega (arith, h)) in each_together (Within n) _ _ (item_within xs k.0) (k.1, tt)

  target_within : (t : Target) → target_height t ≤ suc n → Each (Within n) (target_parts t)
  target_within (to_variable x) h = tt
  target_within (to_property a b) h = let k = two_within (expr_height a) (expr_height b) (omega (arith, h)) in (k.0, (k.1, tt))
  target_within (to_index t a) h = let k = two_within (target_height t) (expr_height a) (omega (arith, h)) in (k.0, (k.1, tt))
  target_within (to_range t a b) h =
      let k = three_within (target_height t) (expr_height a) (expr_height b) (omega (arith, h)) in (k.0, ((k.1).0, ((k.1).1, tt)))

  statement_within : (t : Statement) → statement_height t ≤ suc n → Each (Within n) (statement_parts t)
  statement_within (evaluate a) h = (omega (arith, h), tt)
  statement_within (give a) h = (omega (arith, h), tt)
  statement_within give_zero h = tt
  statement_within (branch bs q) h =
      let k = two_within (branches_height bs) (otherwise_height q) (omega (arith, h)) in each_together (Within n) _ _ (branch_within bs k.0) (otherwise_within q k.1)
  statement_within (for_each x a p) h = let k = two_within (expr_height a) (program_height p) (omega (arith, h)) in (k.0, (k.1, tt))
  statement_within (for_range x a b p) h =
      let k = three_within (expr_height a) (expr_height b) (program_height p) (omega (arith, h)) in (k.0, ((k.1).0, ((k.1).1, tt)))
  statement_within (repeat x a p) h = let k = two_within (expr_height a) (program_height p) (omega (arith, h)) in (k.0, (k.1, tt))
  statement_within (fork x a p) h = let k = two_within (expr_height a) (program_height p) (omega (arith, h)) in (k.0, (tt, tt))
  statement_within (guarded p arms) h =
      let k = two_within (program_height p) (arms_height arms) (omega (arith, h)) in (k.0, arm_within [] arms k.1)
  statement_within (finished p q) h = let k = two_within (program_height p) (program_height q) (omega (arith, h)) in (k.0, (k.1, tt))
  statement_within (leave_loop x) h = tt
  statement_within (next_turn x) h = tt

-- ---- a part is lower than an expression, a target and a statement, and no higher than a program and a default

part_lower : (n : ℕ) (d : Construct) (k : ℕ) (c : Construct) → Each (Within n) (parts d) → tree_of (part_at d k) ≡ Some c → construct_height c ≤ n
part_lower n d zero c h e = cc
part_lower n d (suc k) c h e = of_nth n (parts d) k c h e

-- nothing of height 0 has parts but programs
expr_some : (a : Expr) → 1 ≤ expr_height a
expr_some (literal v) = omega arith
expr_some (variable x) = omega arith
expr_some own_length = omega arith
expr_some (unary u a) = omega arith
expr_some (binary op a b) = omega arith
expr_some (both a b) = omega arith
expr_some (either a b) = omega arith
expr_some (conditional a b c) = omega arith
expr_some (listing es) = omega arith
expr_some (call f es) = omega arith
expr_some (property a b) = omega arith
expr_some (verb_call a b es) = omega arith
expr_some (index a b) = omega arith
expr_some (range a b c) = omega arith
expr_some (caught a codes d) = omega arith
expr_some (assignment t a) = omega arith
expr_some (scatter xs a) = omega arith

target_some : (t : Target) → 1 ≤ target_height t
target_some (to_variable x) = omega arith
target_some (to_property a b) = omega arith
target_some (to_index t a) = omega arith
target_some (to_range t a b) = omega arith

statement_some : (t : Statement) → 1 ≤ statement_height t
statement_some (evaluate a) = omega arith
statement_some (give a) = omega arith
statement_some give_zero = omega arith
statement_some (branch bs q) = omega arith
statement_some (for_each x a p) = omega arith
statement_some (for_range x a b p) = omega arith
statement_some (repeat x a p) = omega arith
statement_some (fork x a p) = omega arith
statement_some (guarded p arms) = omega arith
statement_some (finished p q) = omega arith
statement_some (leave_loop x) = omega arith
statement_some (next_turn x) = omega arith

one_lower : (n : ℕ) → 1 ≤ n → (m : ℕ) × (n ≡ suc m)
one_lower zero h = absurd (omega (arith, h))
one_lower (suc m) h = (m, refl)

loop_once : (c : Construct) → is_loop c ≤ 1
loop_once (of_expr a) = omega arith
loop_once (of_target t) = omega arith
loop_once (of_default x a) = omega arith
loop_once (of_statement t) = once t
  where
    once : (s : Statement) → is_loop (of_statement s) ≤ 1
    once (for_each x a p) = itself 1
    once (for_range x a b p) = itself 1
    once (repeat x a p) = itself 1
    once s = omega arith
loop_once (of_program p) = omega arith

pub one_step : (d : Construct) (k : ℕ) (c : Construct) → tree_of (part_at d k) ≡ Some c → is_loop d + construct_height c ≤ construct_height d
one_step (of_expr a) k c e =
    let m = one_lower (expr_height a) (expr_some a) in
    let w : expr_height a ≤ suc m.0 = subst (λ n. expr_height a ≤ n) m.1 (itself (expr_height a)) in
    let l : construct_height c ≤ m.0 = part_lower m.0 (of_expr a) k c (expr_within m.0 a w) e in
    let i = m.1 in omega (arith, l, i)
one_step (of_target t) k c e =
    let m = one_lower (target_height t) (target_some t) in
    let w : target_height t ≤ suc m.0 = subst (λ n. target_height t ≤ n) m.1 (itself (target_height t)) in
    let l : construct_height c ≤ m.0 = part_lower m.0 (of_target t) k c (target_within m.0 t w) e in
    let i = m.1 in omega (arith, l, i)
one_step (of_default x a) k c e =
    let l : construct_height c ≤ expr_height a = part_lower (expr_height a) (of_default x a) k c (itself (expr_height a), tt) e in omega (arith, l)
one_step (of_statement t) k c e =
    let m = one_lower (statement_height t) (statement_some t) in
    let w : statement_height t ≤ suc m.0 = subst (λ n. statement_height t ≤ n) m.1 (itself (statement_height t)) in
    let l : construct_height c ≤ m.0 = part_lower m.0 (of_statement t) k c (statement_within m.0 t w) e in
    let o : is_loop (of_statement t) ≤ 1 = loop_once (of_statement t) in
    let i = m.1 in omega (arith, l, i, o)
one_step (of_program p) k c e =
    let l : construct_height c ≤ program_height p = part_lower (program_height p) (of_program p) k c (program_within (program_height p) p (itself (program_height p))) e in omega (arith, l)

pub loops_lower : LoopsLower
loops_lower c root [] e = subst (λ d. 0 + construct_height c ≤ construct_height d) e (omega arith)
loops_lower c root (q ∷ ps) e =
    let one : is_loop q.construct + construct_height c ≤ construct_height q.construct = one_step q.construct q.part c e.0 in
    let more : loops ps + construct_height q.construct ≤ construct_height root = loops_lower q.construct root ps e.1 in
    omega (arith, one, more)
