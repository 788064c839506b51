-- Each construct under way of a program's tree fits the loops around it.
use Rattle.std.proofs.Common.{◌≡◌, ℕ, zero, suc, ◌+◌, ◌<◌, ◌≤◌, arith, ◌&&◌, ◌||◌, Bool, true, false, List, [], ◌∷◌, ◌++◌, Option, Some, None, IsTrue, refl, sym, ap₂, subst, if◌then◌else◌}
use Rattle.spec_value.specs.Datum.{Text}
use Rattle.spec_value.proofs.Entries.{first_holds, second_holds}
use Rattle.spec_program.specs.Tree.{Expr, literal, variable, own_length, unary, binary, both, either, conditional, listing, call, property, verb_call, index, range, caught, assignment, scatter, Arguments, no_arguments, argument, splice, Codes, any_code, codes_in, Fallback, the_code, instead, Target, to_variable, to_property, to_index, to_range, Items, no_items, required, optional, remaining, defaulted, Statement, evaluate, give, give_zero, branch, for_each, for_range, repeat, fork, guarded, finished, leave_loop, next_turn, Program, the_end, seq, Branches, no_branches, on, Otherwise, no_else, else_do, Arms, no_arms, except}
use Rattle.spec_program.specs.Construct.{Construct, of_expr, of_target, of_default, of_statement, of_program, Piece}
use Rattle.spec_program.specs.Place.{Kind, any_list, codes_kind, Part, nth, part_at, tree_of, Linked, parts, expr_parts, target_parts, argument_parts, code_parts, fallback_parts, item_parts, branch_parts, otherwise_parts, arm_parts, statement_parts, program_parts}
use Rattle.spec_program.specs.Trees.{is_name, may_name, has_item, rest_once, goes_on, has_argument, has_branch, has_arm, expr_fits, arguments_fit, codes_fit, fallback_fits, target_fits, items_fit, statement_fits, program_fits, branches_fit, otherwise_fits, arms_fit, is_around}
use Rattle.spec_world.specs.WellFormed.{is_loop, loops}
use Rattle.spec_moo.specs.Effects.Loops.{LoopName, no_loop, loop_named, loop_name, has_name, past_loop, loops_inside, loops_left}
use Rattle.spec_holding.specs.Fitting.{ConstructFits, names_of, loop_names, in_body, body_loops, is_code}

-- ---- what holds of the tree of each part

abbrev OfTree : (Construct → Type 0) → Option Construct → Type 0
OfTree P None = Unit {0}
OfTree P (Some c) = P c

abbrev AllTrees : (Construct → Type 0) → List Part → Type 0
AllTrees P [] = Unit {0}
AllTrees P (x ∷ xs) = OfTree P x.tree × AllTrees P xs

all_together : (P : Construct → Type 0) (xs ys : List Part) → AllTrees P xs → AllTrees P ys → AllTrees P (xs ++ ys)
all_together P [] ys h k = k
all_together P (x ∷ xs) ys h k = (h.0, all_together P xs ys h.1 k)

of_nth : (P : Construct → Type 0) (xs : List Part) (n : ℕ) (c : Construct) → AllTrees P xs → tree_of (nth xs n) ≡ Some c → P c
of_nth P [] n c h e = cc
of_nth P (x ∷ xs) zero c h e = subst (OfTree P) e h.0
of_nth P (x ∷ xs) (suc n) c h e = of_nth P xs n c h.1 e

of_part : (P : Construct → Type 0) (d : Construct) (n : ℕ) (c : Construct) → AllTrees P (parts d) → tree_of (part_at d n) ≡ Some c → P c
of_part P d zero c h e = cc
of_part P d (suc n) c h e = of_nth P (parts d) n c h e

two : (a b : Bool) → IsTrue (a && b) → IsTrue a × IsTrue b
two a b h = (first_holds a b h, second_holds a b h)

-- ---- expressions

module _ (names : List (Option Text)) where
  argument_trees : (b : Bool) (ks : List Kind) (es : Arguments) → IsTrue (arguments_fit b es) → AllTrees (ConstructFits names) (argument_parts ks es)
  argument_trees b ks no_arguments h = tt
  argument_trees b ks (argument a es) h = ((b, first_holds (expr_fits b a) _ h), argument_trees b ks es (second_holds (expr_fits b a) _ h))
  argument_trees b ks (splice a es) h = ((b, first_holds (expr_fits b a) _ h), argument_trees b ks es (second_holds (expr_fits b a) _ h))

  code_trees : (b : Bool) (ks : List Kind) (codes : Codes) → IsTrue (codes_fit b codes) → AllTrees (ConstructFits names) (code_parts ks codes)
  code_trees b ks any_code h = tt
  code_trees b ks (codes_in es) h = argument_trees b ks es (second_holds (has_argument es) _ h)

  fallback_trees : (b : Bool) (d : Fallback) → IsTrue (fallback_fits b d) → AllTrees (ConstructFits names) (fallback_parts d)
  fallback_trees b the_code h = tt
  fallback_trees b (instead a) h = ((b, h), tt)

  item_trees : (b : Bool) (xs : Items) → IsTrue (items_fit b xs) → AllTrees (ConstructFits names) (item_parts xs)
  item_trees b no_items h = tt
  item_trees b (required x more) h = (tt, item_trees b more (second_holds (is_name x) _ h))
  item_trees b (optional x more) h = (tt, item_trees b more (second_holds (is_name x) _ h))
  item_trees b (remaining x more) h = (tt, item_trees b more (second_holds (is_name x) _ h))
  item_trees b (defaulted x a more) h =
      let k : IsTrue (expr_fits b a && items_fit b more) = second_holds (is_name x) _ h in
      ((first_holds (is_name x) _ h, (b, first_holds (expr_fits b a) _ k)), item_trees b more (second_holds (expr_fits b a) _ k))

  expr_trees : (b : Bool) (a : Expr) → IsTrue (expr_fits b a) → AllTrees (ConstructFits names) (expr_parts a)
  expr_trees b (literal v) h = tt
  expr_trees b (variable x) h = tt
  expr_trees b own_length h = tt
  expr_trees b (unary u a) h = ((b, h), tt)
  expr_trees b (binary op a c) h = let k = two (expr_fits b a) _ h in ((b, k.0), ((b, k.1), tt))
  expr_trees b (both a c) h = let k = two (expr_fits b a) _ h in ((b, k.0), ((b, k.1), tt))
  expr_trees b (either a c) h = let k = two (expr_fits b a) _ h in ((b, k.0), ((b, k.1), tt))
  expr_trees b (conditional c x y) h =
      let k = two (expr_fits b c) _ h in let l = two (expr_fits b x) _ k.1 in ((b, k.0), ((b, l.0), ((b, l.1), tt)))
  expr_trees b (listing es) h = argument_trees b _ es h
  expr_trees b (call f es) h = argument_trees b _ es (second_holds (is_name f) _ h)
  expr_trees b (property o p) h = let k = two (expr_fits b o) _ h in ((b, k.0), ((b, k.1), tt))
  expr_trees b (verb_call o v es) h =
      let k = two (expr_fits b o) _ h in let l = two (expr_fits b v) _ k.1 in ((b, k.0), ((b, l.0), argument_trees b _ es l.1))
  expr_trees b (index x i) h = let k = two (expr_fits b x) _ h in ((b, k.0), ((true, k.1), tt))
  expr_trees b (range x i j) h =
      let k = two (expr_fits b x) _ h in let l = two (expr_fits true i) _ k.1 in ((b, k.0), ((true, l.0), ((true, l.1), tt)))
  expr_trees b (caught a codes d) h =
      let k = two (expr_fits b a) _ h in let l = two (codes_fit b codes) _ k.1 in
      ((b, k.0), all_together (ConstructFits names) _ _ (code_trees b (any_list ∷ []) codes l.0) (fallback_trees b d l.1))
  expr_trees b (assignment t a) h = let k = two (target_fits b t) _ h in ((b, k.0), ((b, k.1), tt))
  expr_trees b (scatter xs a) h =
      let k = two (items_fit b xs) _ (second_holds (has_item xs && rest_once xs) _ h) in
      all_together (ConstructFits names) _ _ (item_trees b xs k.0) ((b, k.1), tt)

  target_trees : (b : Bool) (t : Target) → IsTrue (target_fits b t) → AllTrees (ConstructFits names) (target_parts t)
  target_trees b (to_variable x) h = tt
  target_trees b (to_property o p) h = let k = two (expr_fits b o) _ h in ((b, k.0), ((b, k.1), tt))
  target_trees b (to_index t i) h =
      let k = two (goes_on t && target_fits b t) _ h in ((b, second_holds (goes_on t) _ k.0), ((true, k.1), tt))
  target_trees b (to_range t i j) h =
      let k = two (goes_on t && target_fits b t) _ h in let l = two (expr_fits true i) _ k.1 in
      ((b, second_holds (goes_on t) _ k.0), ((true, l.0), ((true, l.1), tt)))

  -- ---- statements

  branch_trees : (bs : Branches) → IsTrue (branches_fit names bs) → AllTrees (ConstructFits names) (branch_parts bs)
  branch_trees no_branches h = tt
  branch_trees (on a p more) h =
      let k = two (expr_fits false a) _ h in let l = two (program_fits names p) _ k.1 in ((false, k.0), (l.0, branch_trees more l.1))

  otherwise_trees : (q : Otherwise) → IsTrue (otherwise_fits names q) → AllTrees (ConstructFits names) (otherwise_parts q)
  otherwise_trees no_else h = tt
  otherwise_trees (else_do p) h = (h, tt)

  arm_trees : (before : List Kind) (arms : Arms) → IsTrue (arms_fit names arms) → AllTrees (ConstructFits names) (arm_parts before arms)
  arm_trees before no_arms h = tt
  arm_trees before (except x codes p more) h =
      let k = two (may_name x && codes_fit false codes) _ h in let l = two (program_fits names p) _ k.1 in
      all_together (ConstructFits names) _ _ (code_trees false (before ++ any_list ∷ []) codes (second_holds (may_name x) _ k.0))
      (l.0, arm_trees (before ++ codes_kind codes ∷ []) more l.1)

  program_trees : (p : Program) → IsTrue (program_fits names p) → AllTrees (ConstructFits names) (program_parts p)
  program_trees the_end h = tt
  program_trees (seq t p) h = let k = two (statement_fits names t) _ h in (k.0, program_trees p k.1)

statement_trees : (names : List (Option Text)) (t : Statement) → IsTrue (statement_fits names t)
    → AllTrees (ConstructFits (names_of (loop_name (of_statement t)) ++ names)) (statement_parts t)
statement_trees names (evaluate a) h = ((false, h), tt)
statement_trees names (give a) h = ((false, h), tt)
statement_trees names give_zero h = tt
statement_trees names (branch bs q) h =
    let k = two (branches_fit names bs) _ (second_holds (has_branch bs) _ h) in
    all_together (ConstructFits names) _ _ (branch_trees names bs k.0) (otherwise_trees names q k.1)
statement_trees names (for_each x a p) h =
    let k = two (expr_fits false a) _ (second_holds (is_name x) _ h) in ((false, k.0), (k.1, tt))
statement_trees names (for_range x a c p) h =
    let k = two (expr_fits false a && expr_fits false c) _ (second_holds (is_name x) _ h) in let l = two (expr_fits false a) _ k.0 in
    ((false, l.0), ((false, l.1), (k.1, tt)))
statement_trees names (repeat x a p) h =
    let k = two (expr_fits false a) _ (second_holds (may_name x) _ h) in ((false, k.0), (k.1, tt))
statement_trees names (fork x a p) h = let k = two (expr_fits false a) _ (second_holds (may_name x) _ h) in ((false, k.0), (tt, tt))
statement_trees names (guarded p arms) h =
    let k = two (program_fits names p) _ (second_holds (has_arm arms) _ h) in (k.0, arm_trees names [] arms k.1)
statement_trees names (finished p q) h = let k = two (program_fits names p) _ h in (k.0, (k.1, tt))
statement_trees names (leave_loop x) h = tt
statement_trees names (next_turn x) h = tt

trees_fit : (names : List (Option Text)) (c : Construct) → ConstructFits names c → AllTrees (ConstructFits (names_of (loop_name c) ++ names)) (parts c)
trees_fit names (of_expr a) h = expr_trees names h.0 a h.1
trees_fit names (of_target t) h = target_trees names h.0 t h.1
trees_fit names (of_default x a) h = (h.1, tt)
trees_fit names (of_statement t) h = statement_trees names t h
trees_fit names (of_program p) h = program_trees names p h

pub linked_fits : (p : Program) (c : Construct) (ps : List Piece) → IsTrue (program_fits [] p) → Linked c ps (of_program p) → ConstructFits (loop_names ps) c
linked_fits p c [] h e = subst (ConstructFits []) (sym e) h
linked_fits p c (q ∷ ps) h e =
    of_part (ConstructFits (loop_names (q ∷ ps))) q.construct q.part c (trees_fit (loop_names ps) q.construct (linked_fits p q.construct ps h e.1)) e.0

-- ---- statements and programs stand in bodies

abbrev NoCode : Construct → Type 0
NoCode c = is_code c ≡ false

argument_codeless : (ks : List Kind) (es : Arguments) → AllTrees NoCode (argument_parts ks es)
argument_codeless ks no_arguments = tt
argument_codeless ks (argument a es) = (refl, argument_codeless ks es)
argument_codeless ks (splice a es) = (refl, argument_codeless ks es)

caught_codeless : (codes : Codes) (d : Fallback) → AllTrees NoCode (code_parts (any_list ∷ []) codes ++ fallback_parts d)
caught_codeless any_code the_code = tt
caught_codeless any_code (instead a) = (refl, tt)
caught_codeless (codes_in es) the_code = all_together NoCode _ _ (argument_codeless (any_list ∷ []) es) tt
caught_codeless (codes_in es) (instead a) = all_together NoCode _ _ (argument_codeless (any_list ∷ []) es) (refl, tt)

item_codeless : (xs : Items) → AllTrees NoCode (item_parts xs)
item_codeless no_items = tt
item_codeless (required x more) = (tt, item_codeless more)
item_codeless (optional x more) = (tt, item_codeless more)
item_codeless (remaining x more) = (tt, item_codeless more)
item_codeless (defaulted x a more) = (refl, item_codeless more)

expr_codeless : (a : Expr) → AllTrees NoCode (expr_parts a)
expr_codeless (literal v) = tt
expr_codeless (variable x) = tt
expr_codeless own_length = tt
expr_codeless (unary u a) = (refl, tt)
expr_codeless (binary op a b) = (refl, (refl, tt))
expr_codeless (both a b) = (refl, (refl, tt))
expr_codeless (either a b) = (refl, (refl, tt))
expr_codeless (conditional a b c) = (refl, (refl, (refl, tt)))
expr_codeless (listing es) = argument_codeless _ es
expr_codeless (call f es) = argument_codeless _ es
expr_codeless (property a b) = (refl, (refl, tt))
expr_codeless (verb_call a b es) = (refl, (refl, argument_codeless _ es))
expr_codeless (index a b) = (refl, (refl, tt))
expr_codeless (range a b c) = (refl, (refl, (refl, tt)))
expr_codeless (caught a codes d) = (refl, caught_codeless codes d)
expr_codeless (assignment t a) = (refl, (refl, tt))
expr_codeless (scatter xs a) = all_together NoCode _ _ (item_codeless xs) (refl, tt)

target_codeless : (t : Target) → AllTrees NoCode (target_parts t)
target_codeless (to_variable x) = tt
target_codeless (to_property a b) = (refl, (refl, tt))
target_codeless (to_index t a) = (refl, (refl, tt))
target_codeless (to_range t a b) = (refl, (refl, (refl, tt)))

no_code : (P : Type 0) (c : Construct) → is_code c ≡ false → IsTrue (is_code c) → P
no_code P (of_expr a) e h = cc
no_code P (of_target t) e h = cc
no_code P (of_default x a) e h = cc
no_code P (of_statement t) e h = cc
no_code P (of_program p) e h = cc

expr_here : (P : Type 0) (a : Expr) (c : Construct) → Some (of_expr a) ≡ Some c → IsTrue (is_code c) → P
expr_here P a (of_expr b) e h = cc
expr_here P a (of_target t) e h = cc
expr_here P a (of_default x b) e h = cc
expr_here P a (of_statement t) e h = cc
expr_here P a (of_program p) e h = cc

body_alone : (t : Statement) (n : ℕ) (c : Construct) → tree_of (part_at (of_statement t) n) ≡ Some c → IsTrue (is_code c)
    → in_body (of_statement t) n ≡ is_loop (of_statement t)
body_alone (for_each x a p) zero c e h = cc
body_alone (for_each x a p) (suc zero) c e h = expr_here _ a c e h
body_alone (for_each x a p) (suc (suc zero)) c e h = refl
body_alone (for_each x a p) (suc (suc (suc n))) c e h = cc
body_alone (for_range x a b p) zero c e h = cc
body_alone (for_range x a b p) (suc zero) c e h = expr_here _ a c e h
body_alone (for_range x a b p) (suc (suc zero)) c e h = expr_here _ b c e h
body_alone (for_range x a b p) (suc (suc (suc zero))) c e h = refl
body_alone (for_range x a b p) (suc (suc (suc (suc n)))) c e h = cc
body_alone (repeat x a p) zero c e h = cc
body_alone (repeat x a p) (suc zero) c e h = expr_here _ a c e h
body_alone (repeat x a p) (suc (suc zero)) c e h = refl
body_alone (repeat x a p) (suc (suc (suc n))) c e h = cc
body_alone t n c e h = refl

code_around : (d : Construct) (n : ℕ) (c : Construct) → tree_of (part_at d n) ≡ Some c → IsTrue (is_code c)
    → IsTrue (is_code d) × (in_body d n ≡ is_loop d)
code_around (of_expr a) n c e h = no_code _ c (of_part NoCode (of_expr a) n c (expr_codeless a) e) h
code_around (of_target t) n c e h = no_code _ c (of_part NoCode (of_target t) n c (target_codeless t) e) h
code_around (of_default x a) n c e h = no_code _ c (of_part NoCode (of_default x a) n c (refl, tt) e) h
code_around (of_statement t) n c e h = (refl, body_alone t n c e h)
code_around (of_program p) n c e h = (refl, refl)

pub all_in_bodies : (c root : Construct) (ps : List Piece) → IsTrue (is_code c) → Linked c ps root → body_loops ps ≡ loops ps
all_in_bodies c root [] h e = refl
all_in_bodies c root (q ∷ ps) h e =
    let k = code_around q.construct q.part c e.0 h in ap₂ (λ n m. n + m) k.1 (all_in_bodies q.construct root ps k.0 e.1)

-- ---- names of loops

abbrev loop_size : LoopName → ℕ
loop_size no_loop = 0
loop_size (loop_named x) = 1

statement_size : (t : Statement) → is_loop (of_statement t) ≡ loop_size (loop_name (of_statement t))
statement_size (for_each x a p) = refl
statement_size (for_range x a b p) = refl
statement_size (repeat x a p) = refl
statement_size t = refl

size_is : (c : Construct) → is_loop c ≡ loop_size (loop_name c)
size_is (of_expr a) = refl
size_is (of_target t) = refl
size_is (of_default x a) = refl
size_is (of_statement t) = statement_size t
size_is (of_program p) = refl

-- one loop further out
named_further : (x : Text) (y : Option Text) (n m : ℕ) (names : List (Option Text)) → (IsTrue (is_around names (Some x)) → n < m)
    → IsTrue (is_around (y ∷ names) (Some x)) → past_loop x (loop_named y) n < suc m
named_further x None n m names h k = let l : n < m = h k in omega (arith, l)
named_further x (Some y) n m names h k = go (has_name x (Some y)) k
  where
    go : (b : Bool) → IsTrue (b || is_around names (Some x)) → (if b then 0 else suc n) < suc m
    go true i = omega arith
    go false i = let l : n < m = h i in omega (arith, l)

further : (x : Text) (l : LoopName) (n m : ℕ) (names : List (Option Text)) → (IsTrue (is_around names (Some x)) → n < m)
    → IsTrue (is_around (names_of l ++ names) (Some x)) → past_loop x l n < loop_size l + m
further x no_loop n m names h k = let l : n < m = h k in omega (arith, l)
further x (loop_named y) n m names h k = let l : past_loop x (loop_named y) n < suc m = named_further x y n m names h k in omega (arith, l)

one_further : (l : LoopName) (m : ℕ) (names : List (Option Text)) → (IsTrue (is_around names None) → 0 < m)
    → IsTrue (is_around (names_of l ++ names) None) → 0 < loop_size l + m
one_further no_loop m names h k = let l : 0 < m = h k in omega (arith, l)
one_further (loop_named y) m names h k = omega arith

pub loops_are_left : (x : Option Text) (ps : List Piece) → IsTrue (is_around (loop_names ps) x) → loops_left x ps < loops ps
loops_are_left None [] h = cc
loops_are_left (Some x) [] h = cc
loops_are_left None (q ∷ ps) h =
    subst (λ n. 0 < n + loops ps) (sym (size_is q.construct)) (one_further (loop_name q.construct) (loops ps) (loop_names ps) (loops_are_left None ps) h)
loops_are_left (Some x) (q ∷ ps) h =
    subst (λ n. loops_inside x (q ∷ ps) < n + loops ps) (sym (size_is q.construct))
    (further x (loop_name q.construct) (loops_inside x ps) (loops ps) (loop_names ps) (loops_are_left (Some x) ps) h)

-- ---- no more loops are under way than stand around

least : (n : ℕ) → 0 ≤ n
least n = omega arith

one_most : 1 ≤ 1
one_most = omega arith

both_most : (a b c d : ℕ) → a ≤ b → c ≤ d → a + c ≤ b + d
both_most a b c d h k = omega (arith, h, k)

statement_size_most : (t : Statement) (n : ℕ) → in_body (of_statement t) n ≤ is_loop (of_statement t)
statement_size_most (for_each x a p) (suc (suc zero)) = one_most
statement_size_most (for_range x a b p) (suc (suc (suc zero))) = one_most
statement_size_most (repeat x a p) (suc (suc zero)) = one_most
statement_size_most t n = least _

body_size : (c : Construct) (n : ℕ) → in_body c n ≤ is_loop c
body_size (of_statement t) n = statement_size_most t n
body_size c n = least _

pub most_bodies : (ps : List Piece) → body_loops ps ≤ loops ps
most_bodies [] = least 0
most_bodies (q ∷ ps) = both_most _ _ _ _ (body_size q.construct q.part) (most_bodies ps)
