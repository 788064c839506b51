-- At each point of a construct its next part, or its step, finds the values that it wants.
use Rattle.std.proofs.Common.{◌≡◌, ℕ, zero, suc, ◌==◌, ◌&&◌, ◌||◌, Bool, true, false, not, List, [], ◌∷◌, ◌++◌, length, replicate, pred, Option, Some, None, is_none, IsTrue, refl, sym, ap, subst, ◌∙◌, ◌⊎◌, inl, inr, if◌then◌else◌}
use Rattle.std.proofs.Math.Dec.{eqb_refl}
use Rattle.spec_value.proofs.Keys.{as_test}
use Rattle.spec_value.specs.Datum.{Datum, list, no_data}
use Rattle.spec_program.specs.Tree.{Expr, literal, variable, own_length, unary, binary, both, either, conditional, listing, call, property, verb_call, index, range, caught, assignment, scatter, Arguments, no_arguments, argument, splice, Codes, any_code, codes_in, Fallback, the_code, instead, Target, to_variable, to_property, to_index, to_range, Statement, evaluate, give, give_zero, branch, for_each, for_range, repeat, fork, guarded, finished, leave_loop, next_turn, Program, the_end, seq, Branches, no_branches, on, Otherwise, no_else, else_do, Arms, no_arms, except}
use Rattle.spec_program.specs.Construct.{Construct, of_expr, of_target, of_default, of_statement, of_program}
use Rattle.spec_program.specs.Place.{Kind, any_value, any_list, code_list, holds, Part, part, nth, parts, expr_parts, target_parts, argument_parts, codes_kind, code_parts, fallback_parts, branch_parts, otherwise_parts, arm_parts, statement_parts, program_parts, arity}
use Rattle.spec_world.specs.WellFormed.{held_fits}
use Rattle.spec_moo.specs.Held.{listed, spliced, argument_ways, code_ways, nth_way, way_at, held_at_first, held_with}
use Rattle.spec_moo.specs.Effects.Branches.{is_odd, branch_step}
use Rattle.spec_moo.specs.Effects.Handlers.{argument_count, codes_known, caught_step, codes_held, ArmPoint, one_code, last_code, one_program, is_step, nth_point, code_points, arm_points}
use Rattle.spec_moo.specs.Standing.{has_no_value}
use Rattle.spec_moo.specs.Tables.{has_step}
use Rattle.spec_moo.proofs.ListsHold.{lists_hold, calls_hold}
use Rattle.spec_holding.specs.Points.{KnowsCodes, OperateFits, EndFits, PartFits, PointFits, ReachFits}
use Rattle.spec_holding.proofs.HeldValues.{same_some, Fit, one_more, list_fits, so_many, just_so_many, one_longer, none_held, as_codes}
use Rattle.spec_holding.proofs.ArmsReach.{begun, next_begun, AfterCode, arms_reach}

-- ---- points

pointed : (around : ℕ) (c : Construct) (n : ℕ) (vs : List Datum) → (has_step c n ≡ true → OperateFits around c n vs)
    → (has_step c n ≡ false → PartFits around c vs (nth (parts c) n)) → ReachFits around c n vs
pointed around c n vs h k = go (has_step c n) refl
  where
    go : (b : Bool) → has_step c n ≡ b → PointFits around c n vs b
    go true is = h is
    go false is = k is

parted : (around : ℕ) (c : Construct) (vs : List Datum) (o : Option Part) → EndFits c vs → ((y : Part) → o ≡ Some y → IsTrue (held_fits around y.held vs))
    → PartFits around c vs o
parted around c vs None h k = h
parted around c vs (Some y) h k = k y refl

-- ---- which trees the parts have

abbrev Valued : Part → Type 0
Valued x = (e : Expr) × (x.tree ≡ Some (of_expr e))

valued : (e : Expr) (ks : List Kind) (x : Part) → Some (part (of_expr e) ks) ≡ Some x → Valued x
valued e ks x i = (e, sym (ap (λ (y : Part). y.tree) (same_some _ x i)))

arguments_valued : (ks : List Kind) (es : Arguments) (ps : List Part) → ((n : ℕ) (x : Part) → nth ps n ≡ Some x → Valued x)
    → (n : ℕ) (x : Part) → nth (argument_parts ks es ++ ps) n ≡ Some x → Valued x
arguments_valued ks no_arguments ps h n x e = h n x e
arguments_valued ks (argument a es) ps h zero x e = valued a ks x e
arguments_valued ks (splice a es) ps h zero x e = valued a ks x e
arguments_valued ks (argument a es) ps h (suc n) x e = arguments_valued ks es ps h n x e
arguments_valued ks (splice a es) ps h (suc n) x e = arguments_valued ks es ps h n x e

alone_valued : (ks : List Kind) (es : Arguments) (n : ℕ) (x : Part) → nth (argument_parts ks es) n ≡ Some x → Valued x
alone_valued ks no_arguments n x e = cc
alone_valued ks (argument a es) zero x e = valued a ks x e
alone_valued ks (splice a es) zero x e = valued a ks x e
alone_valued ks (argument a es) (suc n) x e = alone_valued ks es n x e
alone_valued ks (splice a es) (suc n) x e = alone_valued ks es n x e

fallback_valued : (d : Fallback) (n : ℕ) (x : Part) → nth (fallback_parts d) n ≡ Some x → Valued x
fallback_valued the_code n x e = cc
fallback_valued (instead a) zero x e = valued a [] x e
fallback_valued (instead a) (suc n) x e = cc

codes_valued : (codes : Codes) (d : Fallback) (n : ℕ) (x : Part) → nth (code_parts (any_list ∷ []) codes ++ fallback_parts d) n ≡ Some x → Valued x
codes_valued any_code d n x e = fallback_valued d n x e
codes_valued (codes_in es) d n x e = arguments_valued (any_list ∷ []) es (fallback_parts d) (fallback_valued d) n x e

-- all parts of an expression, but for an assignment and a scatter
abbrev is_plain : Expr → Bool
is_plain (assignment t e) = false
is_plain (scatter xs e) = false
is_plain e = true

plain_valued : (a : Expr) (n : ℕ) (x : Part) → IsTrue (is_plain a) → nth (expr_parts a) n ≡ Some x → Valued x
plain_valued (literal v) n x i e = cc
plain_valued (variable y) n x i e = cc
plain_valued own_length n x i e = cc
plain_valued (unary u a) zero x i e = valued a _ x e
plain_valued (unary u a) (suc n) x i e = cc
plain_valued (binary op a b) zero x i e = valued a _ x e
plain_valued (binary op a b) (suc zero) x i e = valued b _ x e
plain_valued (binary op a b) (suc (suc n)) x i e = cc
plain_valued (both a b) zero x i e = valued a _ x e
plain_valued (both a b) (suc zero) x i e = valued b _ x e
plain_valued (both a b) (suc (suc n)) x i e = cc
plain_valued (either a b) zero x i e = valued a _ x e
plain_valued (either a b) (suc zero) x i e = valued b _ x e
plain_valued (either a b) (suc (suc n)) x i e = cc
plain_valued (conditional c a b) zero x i e = valued c _ x e
plain_valued (conditional c a b) (suc zero) x i e = valued a _ x e
plain_valued (conditional c a b) (suc (suc zero)) x i e = valued b _ x e
plain_valued (conditional c a b) (suc (suc (suc n))) x i e = cc
plain_valued (listing es) n x i e = alone_valued _ es n x e
plain_valued (call f es) n x i e = alone_valued _ es n x e
plain_valued (property a b) zero x i e = valued a _ x e
plain_valued (property a b) (suc zero) x i e = valued b _ x e
plain_valued (property a b) (suc (suc n)) x i e = cc
plain_valued (verb_call a b es) zero x i e = valued a _ x e
plain_valued (verb_call a b es) (suc zero) x i e = valued b _ x e
plain_valued (verb_call a b es) (suc (suc n)) x i e = alone_valued _ es n x e
plain_valued (index a b) zero x i e = valued a _ x e
plain_valued (index a b) (suc zero) x i e = valued b _ x e
plain_valued (index a b) (suc (suc n)) x i e = cc
plain_valued (range c a b) zero x i e = valued c _ x e
plain_valued (range c a b) (suc zero) x i e = valued a _ x e
plain_valued (range c a b) (suc (suc zero)) x i e = valued b _ x e
plain_valued (range c a b) (suc (suc (suc n))) x i e = cc
plain_valued (caught a codes d) zero x i e = valued a _ x e
plain_valued (caught a codes d) (suc n) x i e = codes_valued codes d n x e
plain_valued (assignment t a) n x i e = cc
plain_valued (scatter xs a) n x i e = cc

never : (P : Type 0) (b : Bool) → b ≡ false → IsTrue b → P
never P true e h = cc
never P false e h = cc

-- a part whose tree has a value does not end without one
no_end : (P : Type 0) (x : Part) (c d : Construct) → has_no_value c ≡ false → x.tree ≡ Some c → x.tree ≡ Some d → IsTrue (has_no_value d) → P
no_end P x c d i e f h = never P (has_no_value d) (subst (λ y. has_no_value y ≡ false) (same_some c d (sym e ∙ f)) i) h

value_has_one : (P : Type 0) (x : Part) (d : Construct) → Valued x → x.tree ≡ Some d → IsTrue (has_no_value d) → P
value_has_one P x d h i k = no_end P x (of_expr h.0) d refl h.1 i k

other_tree : (P : Type 0) (x : Part) (c d : Construct) → (c ≡ d → P) → x.tree ≡ Some c → x.tree ≡ Some d → P
other_tree P x c d h i k = h (same_some c d (sym i ∙ k))

value_is_no_target : (P : Type 0) (x : Part) (t : Target) → Valued x → x.tree ≡ Some (of_target t) → P
value_is_no_target P x t h i = other_tree P x (of_expr h.0) (of_target t) (λ e. cc) h.1 i

tree_here : (c : Construct) (ks : List Kind) (x : Part) → Some (part c ks) ≡ Some x → x.tree ≡ Some c
tree_here c ks x e = sym (ap (λ (y : Part). y.tree) (same_some _ x e))

-- ---- lists of arguments

parts_alike : (ks : List Kind) (es : Arguments) (n : ℕ) (x : Part) → nth (argument_parts ks es) n ≡ Some x → x.held ≡ holds ks
parts_alike ks no_arguments n x e = cc
parts_alike ks (argument a es) zero x e = sym (ap (λ (y : Part). y.held) (same_some _ x e))
parts_alike ks (splice a es) zero x e = sym (ap (λ (y : Part). y.held) (same_some _ x e))
parts_alike ks (argument a es) (suc n) x e = parts_alike ks es n x e
parts_alike ks (splice a es) (suc n) x e = parts_alike ks es n x e

fit_part : (around : ℕ) (ks : List Kind) (y : Part) (vs : List Datum) → y.held ≡ holds ks → Fit ks vs → IsTrue (held_fits around y.held vs)
fit_part around ks y vs e h = subst (λ z. IsTrue (held_fits around z vs)) (sym e) h

fit_kinds : (around : ℕ) (ks : List Kind) (x : Part) (vs : List Datum) → x.held ≡ holds ks → IsTrue (held_fits around x.held vs) → Fit ks vs
fit_kinds around ks x vs e h = subst (λ z. IsTrue (held_fits around z vs)) e h

one_argument : (ks : List Kind) (es : Arguments) (n : ℕ) (x : Part) (hs vs : List Datum) (v : Datum) → nth (argument_parts (ks ++ any_list ∷ []) es) n ≡ Some x
    → Fit (ks ++ any_list ∷ []) hs → held_with (nth_way (argument_ways es) n) hs v ≡ Some vs → Fit (ks ++ any_list ∷ []) vs
one_argument ks no_arguments n x hs vs v e h k = cc
one_argument ks (argument a es) zero x hs vs v e h k = list_fits listed ks hs vs v refl h k
one_argument ks (splice a es) zero x hs vs v e h k = list_fits spliced ks hs vs v refl h k
one_argument ks (argument a es) (suc n) x hs vs v e h k = one_argument ks es n x hs vs v e h k
one_argument ks (splice a es) (suc n) x hs vs v e h k = one_argument ks es n x hs vs v e h k

-- ---- where constructs begin

first_argument : (around : ℕ) (ks : List Kind) (es : Arguments) (y : Part) (vs : List Datum) → Fit ks vs → nth (argument_parts ks es) 0 ≡ Some y
    → IsTrue (held_fits around y.held vs)
first_argument around ks es y vs h e = fit_part around ks y vs (parts_alike ks es 0 y e) h

-- no codes are to be computed
no_codes_yet : (around : ℕ) (codes : Codes) → 0 ≡ codes_known codes → IsTrue (held_fits around (holds (codes_kind codes ∷ [])) (codes_held codes []))
no_codes_yet around any_code e = refl
no_codes_yet around (codes_in no_arguments) e = refl
no_codes_yet around (codes_in (argument a es)) e = cc
no_codes_yet around (codes_in (splice a es)) e = cc

begins_expr : (around : ℕ) (a : Expr) → ReachFits around (of_expr a) 0 (held_at_first (of_expr a))
begins_expr around (literal v) = tt
begins_expr around (variable x) = tt
begins_expr around own_length = tt
begins_expr around (unary u a) = refl
begins_expr around (binary op a b) = refl
begins_expr around (both a b) = refl
begins_expr around (either a b) = refl
begins_expr around (conditional c a b) = refl
begins_expr around (listing es) =
    pointed around (of_expr (listing es)) 0 _ (λ i. tt)
    (λ i. parted around (of_expr (listing es)) _ (nth (argument_parts (any_list ∷ []) es) 0) tt (λ y e. first_argument around (any_list ∷ []) es y _ refl e))
begins_expr around (call f es) =
    pointed around (of_expr (call f es)) 0 _ (λ i. tt)
    (λ i. parted around (of_expr (call f es)) _ (nth (argument_parts (any_list ∷ []) es) 0) tt (λ y e. first_argument around (any_list ∷ []) es y _ refl e))
begins_expr around (property a b) = refl
begins_expr around (verb_call a b es) = refl
begins_expr around (index a b) = refl
begins_expr around (range c a b) = refl
begins_expr around (caught a codes d) = no_codes_yet around codes
begins_expr around (assignment t a) = refl
begins_expr around (scatter xs a) = tt

begins_target : (around : ℕ) (t : Target) → ReachFits around (of_target t) 0 []
begins_target around (to_variable x) = refl
begins_target around (to_property a b) = refl
begins_target around (to_index t a) = refl
begins_target around (to_range t a b) = refl

begins_branch : (around : ℕ) (c : Construct) (bs : Branches) (q : Otherwise) → EndFits c [] → PartFits around c [] (nth (branch_parts bs ++ otherwise_parts q) 0)
begins_branch around c no_branches no_else h = h
begins_branch around c no_branches (else_do p) h = refl
begins_branch around c (on a p more) q h = refl

begins_statement : (around : ℕ) (t : Statement) → ReachFits around (of_statement t) 0 []
begins_statement around (evaluate a) = refl
begins_statement around (give a) = refl
begins_statement around give_zero = tt
begins_statement around (branch bs q) = begins_branch around (of_statement (branch bs q)) bs q tt
begins_statement around (for_each x a p) = refl
begins_statement around (for_range x a b p) = refl
begins_statement around (repeat x a p) = tt
begins_statement around (fork x a p) = refl
begins_statement around (guarded p arms) =
    λ later e. subst (λ as_. KnowsCodes arms (statement_parts (guarded p arms)) 1 [] as_) (same_arms arms later e) (record { before = []; fits = refl; behind = refl; kinds = refl })
  where
    or_none : ArmPoint → Arms
    or_none one_code = no_arms
    or_none (last_code as_) = as_
    or_none one_program = no_arms

    same_arms : (as_ bs : Arms) → last_code as_ ≡ last_code bs → as_ ≡ bs
    same_arms as_ bs i = ap or_none i
begins_statement around (finished p q) = tt
begins_statement around (leave_loop x) = tt
begins_statement around (next_turn x) = tt

begins_program : (around : ℕ) (p : Program) → ReachFits around (of_program p) 0 []
begins_program around the_end = tt
begins_program around (seq t p) = refl

pub beginnings_reach : (around : ℕ) (c : Construct) → ReachFits around c 0 (held_at_first c)
beginnings_reach around (of_expr a) = begins_expr around a
beginnings_reach around (of_target t) = begins_target around t
beginnings_reach around (of_default x a) = refl
beginnings_reach around (of_statement t) = begins_statement around t
beginnings_reach around (of_program p) = begins_program around p

-- ---- after a part of an expression

two_after : (hs : List Datum) (v : Datum) → Fit (any_value ∷ []) hs → Fit (any_value ∷ any_value ∷ any_list ∷ []) (hs ++ v ∷ list no_data ∷ [])
two_after [] v h = cc
two_after (u ∷ []) v h = refl
two_after (u ∷ w ∷ us) v h = cc

longer : (n : ℕ) (hs vs : List Datum) (v : Datum) → Fit (replicate n any_value) hs → Some (hs ++ v ∷ []) ≡ Some vs → length vs ≡ suc n
longer n hs vs v h k = subst (λ us. length us ≡ suc n) (same_some _ vs k) (one_longer hs v ∙ ap suc (just_so_many n hs h))

-- after the last of the codes their list is held
last_of_codes : (around : ℕ) (es : Arguments) (ps : List Part) (n : ℕ) (x : Part) (hs vs : List Datum) (v : Datum)
    → nth (argument_parts (any_list ∷ []) es ++ ps) n ≡ Some x → IsTrue (held_fits around x.held hs) → held_with (nth_way (argument_ways es) n) hs v ≡ Some vs
    → suc n ≡ argument_count es → Fit (any_list ∷ []) vs
last_of_codes around no_arguments ps n x hs vs v e h k i = cc
last_of_codes around (argument a es) ps zero x hs vs v e h k i = list_fits listed [] hs vs v refl (begun around (of_expr a) _ x hs e h) k
last_of_codes around (splice a es) ps zero x hs vs v e h k i = list_fits spliced [] hs vs v refl (begun around (of_expr a) _ x hs e h) k
last_of_codes around (argument a es) ps (suc n) x hs vs v e h k i = last_of_codes around es ps n x hs vs v e h k (ap pred i)
last_of_codes around (splice a es) ps (suc n) x hs vs v e h k i = last_of_codes around es ps n x hs vs v e h k (ap pred i)

-- and after another one the list so far
next_of_codes : (around : ℕ) (es : Arguments) (d : Fallback) (n : ℕ) (x y : Part) (hs vs : List Datum) (v : Datum)
    → nth (argument_parts (any_list ∷ []) es ++ fallback_parts d) n ≡ Some x → IsTrue (held_fits around x.held hs)
    → held_with (nth_way (argument_ways es) n) hs v ≡ Some vs → (suc n ≡ argument_count es → ⊥)
    → nth (argument_parts (any_list ∷ []) es ++ fallback_parts d) (suc n) ≡ Some y → IsTrue (held_fits around y.held vs)
next_of_codes around no_arguments the_code n x y hs vs v e h k i f = cc
next_of_codes around no_arguments (instead a) n x y hs vs v e h k i f = cc
next_of_codes around (argument a no_arguments) d zero x y hs vs v e h k i f = absurd (i refl)
next_of_codes around (splice a no_arguments) d zero x y hs vs v e h k i f = absurd (i refl)
next_of_codes around (argument a (argument b es)) d zero x y hs vs v e h k i f =
    next_begun (of_expr b) _ vs (list_fits listed [] hs vs v refl (begun around (of_expr a) _ x hs e h) k) y around f
next_of_codes around (argument a (splice b es)) d zero x y hs vs v e h k i f =
    next_begun (of_expr b) _ vs (list_fits listed [] hs vs v refl (begun around (of_expr a) _ x hs e h) k) y around f
next_of_codes around (splice a (argument b es)) d zero x y hs vs v e h k i f =
    next_begun (of_expr b) _ vs (list_fits spliced [] hs vs v refl (begun around (of_expr a) _ x hs e h) k) y around f
next_of_codes around (splice a (splice b es)) d zero x y hs vs v e h k i f =
    next_begun (of_expr b) _ vs (list_fits spliced [] hs vs v refl (begun around (of_expr a) _ x hs e h) k) y around f
next_of_codes around (argument a es) d (suc n) x y hs vs v e h k i f = next_of_codes around es d n x y hs vs v e h k (λ j. i (ap suc j)) f
next_of_codes around (splice a es) d (suc n) x y hs vs v e h k i f = next_of_codes around es d n x y hs vs v e h k (λ j. i (ap suc j)) f

not_one : (around : ℕ) (codes : Codes) (vs : List Datum) → 1 ≡ codes_known codes → IsTrue (held_fits around (holds (codes_kind codes ∷ [])) (codes_held codes vs))
not_one around any_code vs e = cc
not_one around (codes_in no_arguments) vs e = cc
not_one around (codes_in (argument a es)) vs e = cc
not_one around (codes_in (splice a es)) vs e = cc

codes_are_held : (around : ℕ) (es : Arguments) (n : ℕ) (vs : List Datum) → (suc n ≡ argument_count es → Fit (any_list ∷ []) vs)
    → suc (suc n) ≡ codes_known (codes_in es) → IsTrue (held_fits around (holds (code_list ∷ [])) (codes_held (codes_in es) vs))
codes_are_held around no_arguments n vs h e = cc
codes_are_held around (argument a es) n vs h e = as_codes [] vs (h (ap pred e))
codes_are_held around (splice a es) n vs h e = as_codes [] vs (h (ap pred e))

third : (a b c : Bool) → (a || b || c) ≡ false → c ≡ false
third true b c e = cc
third false true c e = cc
third false false c e = e

other_number : (n m : ℕ) → (n == m) ≡ false → n ≡ m → ⊥
other_number n m e is = never ⊥ (n == n) (subst (λ k. (n == k) ≡ false) (sym is) e) (as_test (n == n) (eqb_refl n))

codes_not_known : (es : Arguments) (n : ℕ) → caught_step (codes_in es) (suc (suc n)) ≡ false → suc n ≡ argument_count es → ⊥
codes_not_known no_arguments n e is = cc
codes_not_known (argument a es) n e is = other_number _ _ (third (suc (suc n) == 0) (suc (suc n) == 1) _ e) (ap suc is)
codes_not_known (splice a es) n e is = other_number _ _ (third (suc (suc n) == 0) (suc (suc n) == 1) _ e) (ap suc is)

caught_reach : (around : ℕ) (a : Expr) (codes : Codes) (d : Fallback) (n : ℕ) (x : Part) (hs vs : List Datum) (v : Datum)
    → nth (code_parts (any_list ∷ []) codes ++ fallback_parts d) n ≡ Some x → IsTrue (held_fits around x.held hs)
    → held_with (nth_way (code_ways codes) n) hs v ≡ Some vs → ReachFits around (of_expr (caught a codes d)) (suc (suc n)) vs
caught_reach around a any_code the_code n x hs vs v e h k = cc
caught_reach around a any_code (instead b) zero x hs vs v e h k = tt
caught_reach around a any_code (instead b) (suc n) x hs vs v e h k = cc
caught_reach around a (codes_in es) d n x hs vs v e h k =
    pointed around (of_expr (caught a (codes_in es) d)) (suc (suc n)) vs
    (λ i. codes_are_held around es n vs (last_of_codes around es (fallback_parts d) n x hs vs v e h k))
    (λ i. parted around (of_expr (caught a (codes_in es) d)) vs _ tt (λ y f. next_of_codes around es d n x y hs vs v e h k (codes_not_known es n i) f))

value_after_expr : (around : ℕ) (a : Expr) (n : ℕ) (x : Part) (r : Expr) (hs vs : List Datum) (v : Datum)
    → nth (expr_parts a) n ≡ Some x → x.tree ≡ Some (of_expr r) → IsTrue (held_fits around x.held hs) → held_with (way_at (of_expr a) (suc n)) hs v ≡ Some vs
    → ReachFits around (of_expr a) (suc n) vs
value_after_expr around (literal u) n x r hs vs v e t h k = cc
value_after_expr around (variable y) n x r hs vs v e t h k = cc
value_after_expr around own_length n x r hs vs v e t h k = cc
value_after_expr around (unary u a) zero x r hs vs v e t h k = tt
value_after_expr around (unary u a) (suc n) x r hs vs v e t h k = cc
value_after_expr around (binary op a b) zero x r hs vs v e t h k = one_more (of_expr a) [] around x hs vs v e h k
value_after_expr around (binary op a b) (suc zero) x r hs vs v e t h k = tt
value_after_expr around (binary op a b) (suc (suc n)) x r hs vs v e t h k = cc
value_after_expr around (both a b) zero x r hs vs v e t h k = tt
value_after_expr around (both a b) (suc zero) x r hs vs v e t h k = tt
value_after_expr around (both a b) (suc (suc n)) x r hs vs v e t h k = cc
value_after_expr around (either a b) zero x r hs vs v e t h k = tt
value_after_expr around (either a b) (suc zero) x r hs vs v e t h k = tt
value_after_expr around (either a b) (suc (suc n)) x r hs vs v e t h k = cc
value_after_expr around (conditional c a b) zero x r hs vs v e t h k = tt
value_after_expr around (conditional c a b) (suc zero) x r hs vs v e t h k = tt
value_after_expr around (conditional c a b) (suc (suc zero)) x r hs vs v e t h k = tt
value_after_expr around (conditional c a b) (suc (suc (suc n))) x r hs vs v e t h k = cc
value_after_expr around (listing es) n x r hs vs v e t h k =
    pointed around (of_expr (listing es)) (suc n) vs (λ i. tt)
    (λ i. parted around (of_expr (listing es)) vs _ tt (λ y f. (lists_hold es).1 around n x y hs vs v e h k f))
value_after_expr around (call g es) n x r hs vs v e t h k =
    pointed around (of_expr (call g es)) (suc n) vs (λ i. tt)
    (λ i. parted around (of_expr (call g es)) vs _ tt (λ y f. (calls_hold g es).1 around n x y hs vs v e h k f))
value_after_expr around (property a b) zero x r hs vs v e t h k = one_more (of_expr a) [] around x hs vs v e h k
value_after_expr around (property a b) (suc zero) x r hs vs v e t h k = tt
value_after_expr around (property a b) (suc (suc n)) x r hs vs v e t h k = cc
value_after_expr around (verb_call a b es) zero x r hs vs v e t h k = one_more (of_expr a) [] around x hs vs v e h k
value_after_expr around (verb_call a b es) (suc zero) x r hs vs v e t h k =
    pointed around (of_expr (verb_call a b es)) 2 vs (λ i. tt)
    (λ i. parted around (of_expr (verb_call a b es)) vs _ tt (λ y f. first_argument around (any_value ∷ any_value ∷ any_list ∷ []) es y vs
    (subst (Fit (any_value ∷ any_value ∷ any_list ∷ [])) (same_some _ vs k) (two_after hs v (begun around (of_expr b) _ x hs e h))) f))
value_after_expr around (verb_call a b es) (suc (suc n)) x r hs vs v e t h k =
    pointed around (of_expr (verb_call a b es)) (suc (suc (suc n))) vs (λ i. tt)
    (λ i. parted around (of_expr (verb_call a b es)) vs _ tt (λ y f. fit_part around (any_value ∷ any_value ∷ any_list ∷ []) y vs (parts_alike _ es (suc n) y f)
    (one_argument (any_value ∷ any_value ∷ []) es n x hs vs v e (fit_kinds around (any_value ∷ any_value ∷ any_list ∷ []) x hs (parts_alike _ es n x e) h) k)))
value_after_expr around (index a b) zero x r hs vs v e t h k = one_more (of_expr a) [] around x hs vs v e h k
value_after_expr around (index a b) (suc zero) x r hs vs v e t h k = tt
value_after_expr around (index a b) (suc (suc n)) x r hs vs v e t h k = cc
value_after_expr around (range c a b) zero x r hs vs v e t h k = one_more (of_expr c) [] around x hs vs v e h k
value_after_expr around (range c a b) (suc zero) x r hs vs v e t h k = one_more (of_expr a) (any_value ∷ []) around x hs vs v e h k
value_after_expr around (range c a b) (suc (suc zero)) x r hs vs v e t h k = tt
value_after_expr around (range c a b) (suc (suc (suc n))) x r hs vs v e t h k = cc
value_after_expr around (caught a codes d) zero x r hs vs v e t h k = not_one around codes vs
value_after_expr around (caught a codes d) (suc n) x r hs vs v e t h k = caught_reach around a codes d n x hs vs v e h k
value_after_expr around (assignment t a) zero x r hs vs v e i h k = other_tree _ x (of_target t) (of_expr r) (λ j. cc) (tree_here (of_target t) _ x e) i
value_after_expr around (assignment t a) (suc zero) x r hs vs v e i h k = tt
value_after_expr around (assignment t a) (suc (suc n)) x r hs vs v e i h k = cc
value_after_expr around (scatter xs a) n x r hs vs v e t h k = tt

-- ---- after a part of a target

value_after_target : (around : ℕ) (t : Target) (n : ℕ) (x : Part) (r : Expr) (hs vs : List Datum) (v : Datum)
    → nth (target_parts t) n ≡ Some x → x.tree ≡ Some (of_expr r) → IsTrue (held_fits around x.held hs) → Some (hs ++ v ∷ []) ≡ Some vs
    → ReachFits around (of_target t) (suc n) vs
value_after_target around (to_variable y) n x r hs vs v e i h k = cc
value_after_target around (to_property a b) zero x r hs vs v e i h k = one_more (of_expr a) [] around x hs vs v e h k
value_after_target around (to_property a b) (suc zero) x r hs vs v e i h k = longer 1 hs vs v (begun around (of_expr b) _ x hs e h) k
value_after_target around (to_property a b) (suc (suc n)) x r hs vs v e i h k = cc
value_after_target around (to_index t a) zero x r hs vs v e i h k = other_tree _ x (of_target t) (of_expr r) (λ j. cc) (tree_here (of_target t) _ x e) i
value_after_target around (to_index t a) (suc zero) x r hs vs v e i h k = longer (arity t) hs vs v (begun around (of_expr a) _ x hs e h) k
value_after_target around (to_index t a) (suc (suc n)) x r hs vs v e i h k = cc
value_after_target around (to_range t a b) zero x r hs vs v e i h k = other_tree _ x (of_target t) (of_expr r) (λ j. cc) (tree_here (of_target t) _ x e) i
value_after_target around (to_range t a b) (suc zero) x r hs vs v e i h k = so_many (suc (arity t)) vs (longer (arity t) hs vs v (begun around (of_expr a) _ x hs e h) k)
value_after_target around (to_range t a b) (suc (suc zero)) x r hs vs v e i h k = longer (suc (arity t)) hs vs v (begun around (of_expr b) _ x hs e h) k
value_after_target around (to_range t a b) (suc (suc (suc n))) x r hs vs v e i h k = cc

-- ---- after a part of a statement

branch_over : (P : Type 0) (ps : List Part) (n : ℕ) (y : Part) → branch_step ps (suc n) ≡ false → nth ps (suc n) ≡ Some y → P
branch_over P ps n y i e = go (is_odd (suc n)) (subst (λ o. (if is_odd (suc n) then (is_odd (suc n) && not (is_none o)) else true) ≡ false) e i)
  where
    go : (b : Bool) → (if b then (b && true) else true) ≡ false → P
    go true j = cc
    go false j = cc

branch_reach : (around : ℕ) (bs : Branches) (q : Otherwise) (n : ℕ) (vs : List Datum) → ReachFits around (of_statement (branch bs q)) (suc n) vs
branch_reach around bs q n vs =
    pointed around (of_statement (branch bs q)) (suc n) vs (λ i. tt)
    (λ i. parted around (of_statement (branch bs q)) vs _ tt (λ y f. branch_over _ (branch_parts bs ++ otherwise_parts q) n y i f))

-- each part of the handlers is an expression, or a program after which the statement ends
abbrev ArmTree : Part → ArmPoint → Type 0
ArmTree x a = Valued x ⊎ (((p : Program) × (x.tree ≡ Some (of_program p))) × (a ≡ one_program))

code_trees : (ks : List Kind) (es : Arguments) (p : Program) (later : Arms) (ps : List Part)
    → ((n : ℕ) (x : Part) → nth ps n ≡ Some x → ArmTree x (nth_point (arm_points later) n))
    → (n : ℕ) (x : Part) → nth (argument_parts ks es ++ part (of_program p) [] ∷ ps) n ≡ Some x
    → ArmTree x (nth_point (code_points es later ++ one_program ∷ arm_points later) n)
code_trees ks no_arguments p later ps h zero x e = inr ((p, tree_here (of_program p) [] x e), refl)
code_trees ks no_arguments p later ps h (suc n) x e = h n x e
code_trees ks (argument a no_arguments) p later ps h zero x e = inl (valued a ks x e)
code_trees ks (splice a no_arguments) p later ps h zero x e = inl (valued a ks x e)
code_trees ks (argument a (argument b es)) p later ps h zero x e = inl (valued a ks x e)
code_trees ks (argument a (splice b es)) p later ps h zero x e = inl (valued a ks x e)
code_trees ks (splice a (argument b es)) p later ps h zero x e = inl (valued a ks x e)
code_trees ks (splice a (splice b es)) p later ps h zero x e = inl (valued a ks x e)
code_trees ks (argument a no_arguments) p later ps h (suc n) x e = code_trees ks no_arguments p later ps h n x e
code_trees ks (splice a no_arguments) p later ps h (suc n) x e = code_trees ks no_arguments p later ps h n x e
code_trees ks (argument a (argument b es)) p later ps h (suc n) x e = code_trees ks (argument b es) p later ps h n x e
code_trees ks (argument a (splice b es)) p later ps h (suc n) x e = code_trees ks (splice b es) p later ps h n x e
code_trees ks (splice a (argument b es)) p later ps h (suc n) x e = code_trees ks (argument b es) p later ps h n x e
code_trees ks (splice a (splice b es)) p later ps h (suc n) x e = code_trees ks (splice b es) p later ps h n x e

arm_trees : (before : List Kind) (arms : Arms) (n : ℕ) (x : Part) → nth (arm_parts before arms) n ≡ Some x → ArmTree x (nth_point (arm_points arms) n)
arm_trees before no_arms n x e = cc
arm_trees before (except y any_code p later) zero x e = inr ((p, tree_here (of_program p) [] x e), refl)
arm_trees before (except y any_code p later) (suc n) x e = arm_trees _ later n x e
arm_trees before (except y (codes_in es) p later) n x e = code_trees _ es p later _ (arm_trees (before ++ code_list ∷ []) later) n x e

abbrev or_none : ArmPoint → Arms
or_none one_code = no_arms
or_none (last_code arms) = arms
or_none one_program = no_arms

arms_point : (around : ℕ) (p : Program) (arms : Arms) (n : ℕ) (vs : List Datum) (a : ArmPoint) → nth_point (arm_points arms) n ≡ a → AfterCode [] arms n vs a
    → PointFits around (of_statement (guarded p arms)) (suc (suc n)) vs (is_step a)
arms_point around p arms n vs one_code is h = parted around (of_statement (guarded p arms)) vs _ tt (λ y f. h y around f)
arms_point around p arms n vs (last_code more) is h =
    λ later i. subst (λ as_. KnowsCodes arms (statement_parts (guarded p arms)) (suc (suc (suc n))) vs as_) (ap or_none (sym is ∙ i))
    (record { before = h.known; fits = h.fits; behind = h.rest; kinds = h.kinds })
arms_point around p arms n vs one_program is h = λ later i. cc

value_after_statement : (around : ℕ) (t : Statement) (n : ℕ) (x : Part) (r : Expr) (hs vs : List Datum) (v : Datum)
    → nth (statement_parts t) n ≡ Some x → x.tree ≡ Some (of_expr r) → IsTrue (held_fits around x.held hs)
    → held_with (way_at (of_statement t) (suc n)) hs v ≡ Some vs → ReachFits around (of_statement t) (suc n) vs
value_after_statement around (evaluate a) zero x r hs vs v e i h k = tt
value_after_statement around (evaluate a) (suc n) x r hs vs v e i h k = cc
value_after_statement around (give a) zero x r hs vs v e i h k = tt
value_after_statement around (give a) (suc n) x r hs vs v e i h k = cc
value_after_statement around give_zero n x r hs vs v e i h k = cc
value_after_statement around (branch bs q) n x r hs vs v e i h k = branch_reach around bs q n vs
value_after_statement around (for_each y a p) zero x r hs vs v e i h k = tt
value_after_statement around (for_each y a p) (suc zero) x r hs vs v e i h k = tt
value_after_statement around (for_each y a p) (suc (suc n)) x r hs vs v e i h k = cc
value_after_statement around (for_range y a b p) zero x r hs vs v e i h k = one_more (of_expr a) [] around x hs vs v e h k
value_after_statement around (for_range y a b p) (suc zero) x r hs vs v e i h k = tt
value_after_statement around (for_range y a b p) (suc (suc zero)) x r hs vs v e i h k = tt
value_after_statement around (for_range y a b p) (suc (suc (suc n))) x r hs vs v e i h k = cc
value_after_statement around (repeat y a p) n x r hs vs v e i h k = tt
value_after_statement around (fork y a p) zero x r hs vs v e i h k = tt
value_after_statement around (fork y a p) (suc zero) x r hs vs v e i h k = tt
value_after_statement around (fork y a p) (suc (suc n)) x r hs vs v e i h k = cc
value_after_statement around (guarded p arms) zero x r hs vs v e i h k = λ later j. cc
value_after_statement around (guarded p arms) (suc n) x r hs vs v e i h k =
    arms_point around p arms n vs (nth_point (arm_points arms) n) refl (arms_reach [] arms around n x hs vs v e h k)
value_after_statement around (finished p q) zero x r hs vs v e i h k = tt
value_after_statement around (finished p q) (suc zero) x r hs vs v e i h k =
    other_tree _ x (of_program q) (of_expr r) (λ j. cc) (sym (ap (λ (y : Part). y.tree) (same_some _ x e))) i
value_after_statement around (finished p q) (suc (suc n)) x r hs vs v e i h k = cc
value_after_statement around (leave_loop y) n x r hs vs v e i h k = cc
value_after_statement around (next_turn y) n x r hs vs v e i h k = cc

-- ---- programs

lines_hold : (p : Program) (n : ℕ) (x : Part) → nth (program_parts p) n ≡ Some x → (x.held ≡ holds []) × ((t : Statement) × (x.tree ≡ Some (of_statement t)))
lines_hold the_end n x e = cc
lines_hold (seq t p) zero x e = (sym (ap (λ (y : Part). y.held) (same_some _ x e)), (t, tree_here (of_statement t) [] x e))
lines_hold (seq t p) (suc n) x e = lines_hold p n x e

pub values_reach : (around : ℕ) (c : Construct) (n : ℕ) (x : Part) (r : Expr) (hs vs : List Datum) (v : Datum)
    → nth (parts c) n ≡ Some x → x.tree ≡ Some (of_expr r) → IsTrue (held_fits around x.held hs) → held_with (way_at c (suc n)) hs v ≡ Some vs
    → ReachFits around c (suc n) vs
values_reach around (of_expr a) n x r hs vs v e i h k = value_after_expr around a n x r hs vs v e i h k
values_reach around (of_target t) n x r hs vs v e i h k = value_after_target around t n x r hs vs v e i h k
values_reach around (of_default y a) zero x r hs vs v e i h k = tt
values_reach around (of_default y a) (suc n) x r hs vs v e i h k = cc
values_reach around (of_statement t) n x r hs vs v e i h k = value_after_statement around t n x r hs vs v e i h k
values_reach around (of_program p) n x r hs vs v e i h k =
    let t : (s : Statement) × (x.tree ≡ Some (of_statement s)) = (lines_hold p n x e).1 in other_tree _ x (of_statement t.0) (of_expr r) (λ j. cc) t.1 i

-- ---- after a target

abbrev arity_of : Construct → ℕ
arity_of (of_target t) = arity t
arity_of c = 0

target_done : (around : ℕ) (t u : Target) (x : Part) (hs vs : List Datum) → Some (part (of_target t) []) ≡ Some x → x.tree ≡ Some (of_target u)
    → IsTrue (held_fits around x.held hs) → length vs ≡ arity u → Fit (replicate (arity t) any_value) (hs ++ vs)
target_done around t u x hs vs e i h k =
    so_many (arity t) (hs ++ vs)
    (ap (λ us. length (us ++ vs)) (none_held hs (begun around (of_target t) [] x hs e h)) ∙ (k ∙ sym (ap arity_of (same_some _ _ (sym (tree_here (of_target t) [] x e) ∙ i)))))

aimed_expr : (around : ℕ) (a : Expr) (n : ℕ) (x : Part) (u : Target) (hs vs : List Datum) → nth (expr_parts a) n ≡ Some x → x.tree ≡ Some (of_target u)
    → IsTrue (held_fits around x.held hs) → length vs ≡ arity u → ReachFits around (of_expr a) (suc n) (hs ++ vs)
aimed_expr around (assignment t a) zero x u hs vs e i h k = target_done around t u x hs vs e i h k
aimed_expr around (assignment t a) (suc zero) x u hs vs e i h k = value_is_no_target _ x u (valued a _ x e) i
aimed_expr around (assignment t a) (suc (suc n)) x u hs vs e i h k = cc
aimed_expr around (scatter xs a) n x u hs vs e i h k = tt
aimed_expr around a n x u hs vs e i h k = value_is_no_target _ x u (plain_valued a n x refl e) i

aimed_target : (around : ℕ) (t : Target) (n : ℕ) (x : Part) (u : Target) (hs vs : List Datum) → nth (target_parts t) n ≡ Some x → x.tree ≡ Some (of_target u)
    → IsTrue (held_fits around x.held hs) → length vs ≡ arity u → ReachFits around (of_target t) (suc n) (hs ++ vs)
aimed_target around (to_variable y) n x u hs vs e i h k = cc
aimed_target around (to_property a b) zero x u hs vs e i h k = value_is_no_target _ x u (valued a _ x e) i
aimed_target around (to_property a b) (suc zero) x u hs vs e i h k = value_is_no_target _ x u (valued b _ x e) i
aimed_target around (to_property a b) (suc (suc n)) x u hs vs e i h k = cc
aimed_target around (to_index t a) zero x u hs vs e i h k = target_done around t u x hs vs e i h k
aimed_target around (to_index t a) (suc zero) x u hs vs e i h k = value_is_no_target _ x u (valued a _ x e) i
aimed_target around (to_index t a) (suc (suc n)) x u hs vs e i h k = cc
aimed_target around (to_range t a b) zero x u hs vs e i h k = target_done around t u x hs vs e i h k
aimed_target around (to_range t a b) (suc zero) x u hs vs e i h k = value_is_no_target _ x u (valued a _ x e) i
aimed_target around (to_range t a b) (suc (suc zero)) x u hs vs e i h k = value_is_no_target _ x u (valued b _ x e) i
aimed_target around (to_range t a b) (suc (suc (suc n))) x u hs vs e i h k = cc

program_is_no_target : (P : Type 0) (x : Part) (u : Target) → (p : Program) × (x.tree ≡ Some (of_program p)) → x.tree ≡ Some (of_target u) → P
program_is_no_target P x u h i = other_tree P x (of_program h.0) (of_target u) (λ j. cc) h.1 i

no_arm_aims : (P : Type 0) (x : Part) (u : Target) (a : ArmPoint) → ArmTree x a → x.tree ≡ Some (of_target u) → P
no_arm_aims P x u a (inl h) i = value_is_no_target P x u h i
no_arm_aims P x u a (inr h) i = program_is_no_target P x u h.0 i

aimed_statement : (around : ℕ) (t : Statement) (n : ℕ) (x : Part) (u : Target) (hs vs : List Datum) → nth (statement_parts t) n ≡ Some x
    → x.tree ≡ Some (of_target u) → IsTrue (held_fits around x.held hs) → length vs ≡ arity u → ReachFits around (of_statement t) (suc n) (hs ++ vs)
aimed_statement around (evaluate a) zero x u hs vs e i h k = tt
aimed_statement around (evaluate a) (suc n) x u hs vs e i h k = cc
aimed_statement around (give a) zero x u hs vs e i h k = tt
aimed_statement around (give a) (suc n) x u hs vs e i h k = cc
aimed_statement around give_zero n x u hs vs e i h k = cc
aimed_statement around (branch bs q) n x u hs vs e i h k = branch_reach around bs q n (hs ++ vs)
aimed_statement around (for_each y a p) zero x u hs vs e i h k = tt
aimed_statement around (for_each y a p) (suc zero) x u hs vs e i h k = tt
aimed_statement around (for_each y a p) (suc (suc n)) x u hs vs e i h k = cc
aimed_statement around (for_range y a b p) zero x u hs vs e i h k = value_is_no_target _ x u (valued a _ x e) i
aimed_statement around (for_range y a b p) (suc zero) x u hs vs e i h k = tt
aimed_statement around (for_range y a b p) (suc (suc zero)) x u hs vs e i h k = tt
aimed_statement around (for_range y a b p) (suc (suc (suc n))) x u hs vs e i h k = cc
aimed_statement around (repeat y a p) n x u hs vs e i h k = tt
aimed_statement around (fork y a p) zero x u hs vs e i h k = tt
aimed_statement around (fork y a p) (suc zero) x u hs vs e i h k = tt
aimed_statement around (fork y a p) (suc (suc n)) x u hs vs e i h k = cc
aimed_statement around (guarded p arms) zero x u hs vs e i h k = λ later j. cc
aimed_statement around (guarded p arms) (suc n) x u hs vs e i h k = no_arm_aims _ x u _ (arm_trees [] arms n x e) i
aimed_statement around (finished p q) zero x u hs vs e i h k = tt
aimed_statement around (finished p q) (suc zero) x u hs vs e i h k =
    program_is_no_target _ x u (q, sym (ap (λ (y : Part). y.tree) (same_some _ x e))) i
aimed_statement around (finished p q) (suc (suc n)) x u hs vs e i h k = cc
aimed_statement around (leave_loop y) n x u hs vs e i h k = cc
aimed_statement around (next_turn y) n x u hs vs e i h k = cc

pub targets_reach : (around : ℕ) (c : Construct) (n : ℕ) (x : Part) (u : Target) (hs vs : List Datum)
    → nth (parts c) n ≡ Some x → x.tree ≡ Some (of_target u) → IsTrue (held_fits around x.held hs) → length vs ≡ arity u → ReachFits around c (suc n) (hs ++ vs)
targets_reach around (of_expr a) n x u hs vs e i h k = aimed_expr around a n x u hs vs e i h k
targets_reach around (of_target t) n x u hs vs e i h k = aimed_target around t n x u hs vs e i h k
targets_reach around (of_default y a) zero x u hs vs e i h k = tt
targets_reach around (of_default y a) (suc n) x u hs vs e i h k = cc
targets_reach around (of_statement t) n x u hs vs e i h k = aimed_statement around t n x u hs vs e i h k
targets_reach around (of_program p) n x u hs vs e i h k =
    let t : (s : Statement) × (x.tree ≡ Some (of_statement s)) = (lines_hold p n x e).1 in other_tree _ x (of_statement t.0) (of_target u) (λ j. cc) t.1 i

-- ---- after a part without a value

ended_expr : (around : ℕ) (a : Expr) (d : Construct) (n : ℕ) (x : Part) (hs : List Datum) → nth (expr_parts a) n ≡ Some x → x.tree ≡ Some d
    → IsTrue (has_no_value d) → ReachFits around (of_expr a) (suc n) hs
ended_expr around (assignment t a) d zero x hs e i h = no_end _ x (of_target t) d refl (tree_here (of_target t) [] x e) i h
ended_expr around (assignment t a) d (suc zero) x hs e i h = value_has_one _ x d (valued a _ x e) i h
ended_expr around (assignment t a) d (suc (suc n)) x hs e i h = cc
ended_expr around (scatter xs a) d n x hs e i h = tt
ended_expr around a d n x hs e i h = value_has_one _ x d (plain_valued a n x refl e) i h

ended_target : (around : ℕ) (t : Target) (d : Construct) (n : ℕ) (x : Part) (hs : List Datum) → nth (target_parts t) n ≡ Some x → x.tree ≡ Some d
    → IsTrue (has_no_value d) → ReachFits around (of_target t) (suc n) hs
ended_target around (to_variable y) d n x hs e i h = cc
ended_target around (to_property a b) d zero x hs e i h = value_has_one _ x d (valued a _ x e) i h
ended_target around (to_property a b) d (suc zero) x hs e i h = value_has_one _ x d (valued b _ x e) i h
ended_target around (to_property a b) d (suc (suc n)) x hs e i h = cc
ended_target around (to_index t a) d zero x hs e i h = no_end _ x (of_target t) d refl (tree_here (of_target t) [] x e) i h
ended_target around (to_index t a) d (suc zero) x hs e i h = value_has_one _ x d (valued a _ x e) i h
ended_target around (to_index t a) d (suc (suc n)) x hs e i h = cc
ended_target around (to_range t a b) d zero x hs e i h = no_end _ x (of_target t) d refl (tree_here (of_target t) [] x e) i h
ended_target around (to_range t a b) d (suc zero) x hs e i h = value_has_one _ x d (valued a _ x e) i h
ended_target around (to_range t a b) d (suc (suc zero)) x hs e i h = value_has_one _ x d (valued b _ x e) i h
ended_target around (to_range t a b) d (suc (suc (suc n))) x hs e i h = cc

arm_ends : (around : ℕ) (p : Program) (arms : Arms) (n : ℕ) (x : Part) (d : Construct) (hs : List Datum) → ArmTree x (nth_point (arm_points arms) n)
    → x.tree ≡ Some d → IsTrue (has_no_value d) → ReachFits around (of_statement (guarded p arms)) (suc (suc n)) hs
arm_ends around p arms n x d hs (inl h) i k = value_has_one _ x d h i k
arm_ends around p arms n x d hs (inr h) i k =
    subst (λ a. PointFits around (of_statement (guarded p arms)) (suc (suc n)) hs (is_step a)) (sym h.1) (arms_point around p arms n hs one_program h.1 tt)

ended_statement : (around : ℕ) (t : Statement) (d : Construct) (n : ℕ) (x : Part) (hs : List Datum) → nth (statement_parts t) n ≡ Some x → x.tree ≡ Some d
    → IsTrue (has_no_value d) → IsTrue (held_fits around x.held hs) → ReachFits around (of_statement t) (suc n) hs
ended_statement around (evaluate a) d zero x hs e i h k = tt
ended_statement around (evaluate a) d (suc n) x hs e i h k = cc
ended_statement around (give a) d zero x hs e i h k = tt
ended_statement around (give a) d (suc n) x hs e i h k = cc
ended_statement around give_zero d n x hs e i h k = cc
ended_statement around (branch bs q) d n x hs e i h k = branch_reach around bs q n hs
ended_statement around (for_each y a p) d zero x hs e i h k = tt
ended_statement around (for_each y a p) d (suc zero) x hs e i h k = tt
ended_statement around (for_each y a p) d (suc (suc n)) x hs e i h k = cc
ended_statement around (for_range y a b p) d zero x hs e i h k = value_has_one _ x d (valued a _ x e) i h
ended_statement around (for_range y a b p) d (suc zero) x hs e i h k = tt
ended_statement around (for_range y a b p) d (suc (suc zero)) x hs e i h k = tt
ended_statement around (for_range y a b p) d (suc (suc (suc n))) x hs e i h k = cc
ended_statement around (repeat y a p) d n x hs e i h k = tt
ended_statement around (fork y a p) d zero x hs e i h k = tt
ended_statement around (fork y a p) d (suc zero) x hs e i h k = tt
ended_statement around (fork y a p) d (suc (suc n)) x hs e i h k = cc
ended_statement around (guarded p arms) d zero x hs e i h k = λ later j. cc
ended_statement around (guarded p arms) d (suc n) x hs e i h k = arm_ends around p arms n x d hs (arm_trees [] arms n x e) i h
ended_statement around (finished p q) d zero x hs e i h k = tt
ended_statement around (finished p q) d (suc zero) x hs e i h k =
    subst (λ (y : Part). IsTrue (held_fits around y.held hs)) (sym (same_some _ x e)) k
ended_statement around (finished p q) d (suc (suc n)) x hs e i h k = cc
ended_statement around (leave_loop y) d n x hs e i h k = cc
ended_statement around (next_turn y) d n x hs e i h k = cc

pub ends_reach : (around : ℕ) (c d : Construct) (n : ℕ) (x : Part) (hs : List Datum)
    → nth (parts c) n ≡ Some x → x.tree ≡ Some d → IsTrue (has_no_value d) → IsTrue (held_fits around x.held hs) → ReachFits around c (suc n) hs
ends_reach around (of_expr a) d n x hs e i h k = ended_expr around a d n x hs e i h
ends_reach around (of_target t) d n x hs e i h k = ended_target around t d n x hs e i h
ends_reach around (of_default y a) d zero x hs e i h k = tt
ends_reach around (of_default y a) d (suc n) x hs e i h k = cc
ends_reach around (of_statement t) d n x hs e i h k = ended_statement around t d n x hs e i h k
ends_reach around (of_program p) d n x hs e i h k =
    parted around (of_program p) hs (nth (program_parts p) (suc n)) tt
    (λ y f. fit_part around [] y hs (lines_hold p (suc n) y f).0 (fit_kinds around [] x hs (lines_hold p n x e).0 k))
