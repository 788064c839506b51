-- What a construct does with a leaving in one of its parts takes parts with what they want, too.
use Rattle.std.proofs.Common.{◌≡◌, ◌∙◌, ◌≤◌, ◌<◌, ℕ, zero, suc, ◌+◌, drop, zero-add, add-zero, suc-add, add-suc, Bool, true, false, ◌&&◌, List, [], ◌∷◌, ◌++◌, Option, Some, None, IsTrue, refl, sym, subst, if◌then◌else◌, arith}
use Rattle.spec_value.specs.Datum.{Datum, Text}
use Rattle.spec_value.proofs.Entries.{first_holds, second_holds}
use Rattle.spec_program.specs.Tree.{Expr, caught, Arguments, no_arguments, argument, splice, Codes, any_code, codes_in, Fallback, the_code, instead, Statement, for_each, for_range, repeat, guarded, finished, Program, Arms, no_arms, except}
use Rattle.spec_program.specs.Construct.{Construct, of_expr, of_statement, of_program}
use Rattle.spec_program.specs.Place.{Kind, any_list, codes_kind, Part, part, nth, argument_parts, code_parts, fallback_parts, arm_parts, statement_parts}
use Rattle.spec_program.specs.Trees.{may_name, codes_fit, has_arm, statement_fits, program_fits, arms_fit}
use Rattle.spec_moo.specs.Scene.{Scene}
use Rattle.spec_moo.specs.Leaving.{Leaving, returned, failed, broken, continued, Failure, takes_code}
use Rattle.spec_moo.specs.Effect.{Effect, stays}
use Rattle.spec_moo.specs.Effects.Loops.{loop_catches, out_of_loop}
use Rattle.spec_moo.specs.Effects.Handlers.{argument_count, code_count, fallback_effect, expression_catches, handler_for, body_catches}
use Rattle.spec_moo.specs.Tables.{catches, passed_by}
use Rattle.spec_holding.specs.Points.{PartFits, ReachFits}
use Rattle.spec_holding.specs.Fitting.{ConstructFits, in_body}
use Rattle.spec_holding.specs.UnderWay.{SceneHolds, LeavingFits, IsLoop, EffectFits}
use Rattle.spec_holding.proofs.EffectsFit.{is_less, less_is, nth_behind, one_behind, of_named}

abbrev pub CatchFits : ℕ → Construct → Option Effect → Type 0
CatchFits around c None = Unit {0}
CatchFits around c (Some e) = EffectFits around c e

some_if : (around : ℕ) (c : Construct) (b : Bool) (o r : Option Effect) → CatchFits around c o → CatchFits around c r → CatchFits around c (if b then o else r)
some_if around c true o r h k = h
some_if around c false o r h k = k

-- ---- leavings with more or fewer loops around

pub fewer : (n m : ℕ) (l : Leaving) → n ≤ m → LeavingFits n l → LeavingFits m l
fewer n m (returned v) e h = refl
fewer n m (failed f) e h = h
fewer n m (broken k) e h = let j : k < n = is_less k n h in less_is k m (omega (arith, e, j))
fewer n m (continued k) e h = let j : k < n = is_less k n h in less_is k m (omega (arith, e, j))

-- out of a loop one loop less is left
out_fits : (m : ℕ) (s : Scene) (l : Leaving) → loop_catches s l ≡ None → LeavingFits (1 + m) l → LeavingFits m (out_of_loop l)
out_fits m s (returned v) e h = refl
out_fits m s (failed f) e h = h
out_fits m s (broken zero) e h = cc
out_fits m s (broken (suc k)) e h = let j : suc k < 1 + m = is_less (suc k) (1 + m) h in less_is k m (omega (arith, j))
out_fits m s (continued zero) e h = cc
out_fits m s (continued (suc k)) e h = let j : suc k < 1 + m = is_less (suc k) (1 + m) h in less_is k m (omega (arith, j))

in_no_loop : (m : ℕ) (l : Leaving) → LeavingFits (0 + m) l → LeavingFits m l
in_no_loop m l h = subst (λ k. LeavingFits k l) (zero-add m) h

statement_passes : (s : Scene) (t : Statement) (n m : ℕ) (held : List Datum) (l : Leaving) → catches s (of_statement t) n held l ≡ None
    → LeavingFits (in_body (of_statement t) n + m) l → LeavingFits m (passed_by (of_statement t) n l)
statement_passes s (for_each x a p) (suc (suc zero)) m held l e h = out_fits m s l e h
statement_passes s (for_range x a b p) (suc (suc (suc zero))) m held l e h = out_fits m s l e h
statement_passes s (repeat x a p) (suc (suc zero)) m held l e h = out_fits m s l e h
statement_passes s t n m held l e h = in_no_loop m l h

pub passed_fits : (s : Scene) (c : Construct) (n m : ℕ) (held : List Datum) (l : Leaving) → catches s c n held l ≡ None → LeavingFits (in_body c n + m) l
    → LeavingFits m (passed_by c n l)
passed_fits s (of_statement t) n m held l e h = statement_passes s t n m held l e h
passed_fits s c n m held l e h = in_no_loop m l h

-- ---- a caught expression

nth_code : (ks : List Kind) (es : Arguments) (ps : List Part) → nth (argument_parts ks es ++ ps) (argument_count es) ≡ nth ps 0
nth_code ks no_arguments ps = refl
nth_code ks (argument a es) ps = nth_code ks es ps
nth_code ks (splice a es) ps = nth_code ks es ps

nth_codes : (ks : List Kind) (codes : Codes) (ps : List Part) → nth (code_parts ks codes ++ ps) (code_count codes) ≡ nth ps 0
nth_codes ks any_code ps = refl
nth_codes ks (codes_in es) ps = nth_code ks es ps

fallback_fits : (around : ℕ) (a : Expr) (codes : Codes) (d : Fallback) (s : Scene) (v : Datum) → SceneHolds s
    → EffectFits around (of_expr (caught a codes d)) (fallback_effect s (suc (suc (code_count codes))) d v)
fallback_fits around a codes the_code s v h = h
fallback_fits around a codes (instead b) s v h =
    subst (λ o. PartFits around (of_expr (caught a codes (instead b))) [] o) (sym (nth_codes (any_list ∷ []) codes (fallback_parts (instead b)))) refl

expression_fits : (around : ℕ) (a : Expr) (codes : Codes) (d : Fallback) (s : Scene) (held : List Datum) (l : Leaving) → SceneHolds s
    → CatchFits around (of_expr (caught a codes d)) (expression_catches s codes d held l)
expression_fits around a codes d s (v ∷ []) (failed f) h = some_if around (of_expr (caught a codes d)) (takes_code v f.code) _ _ (fallback_fits around a codes d s f.code h) tt
expression_fits around a codes d s held l h = tt

-- ---- handlers

further : (n m : ℕ) → suc n + m ≡ n + suc m
further n m = suc-add n m ∙ sym (add-suc n m)

code_behind : (es : Arguments) (ks : List Kind) (qs xs : List Part) (x : Part) (n : ℕ) → drop n qs ≡ argument_parts ks es ++ x ∷ xs
    → drop (n + argument_count es) qs ≡ x ∷ xs
code_behind no_arguments ks qs xs x n e = subst (λ k. drop k qs ≡ x ∷ xs) (sym (add-zero n)) e
code_behind (argument a es) ks qs xs x n e =
    subst (λ k. drop k qs ≡ x ∷ xs) (further n (argument_count es)) (code_behind es ks qs xs x (suc n) (one_behind qs n _ _ e))
code_behind (splice a es) ks qs xs x n e =
    subst (λ k. drop k qs ≡ x ∷ xs) (further n (argument_count es)) (code_behind es ks qs xs x (suc n) (one_behind qs n _ _ e))

codes_behind : (codes : Codes) (ks : List Kind) (qs xs : List Part) (x : Part) (n : ℕ) → drop n qs ≡ code_parts ks codes ++ x ∷ xs
    → drop (n + code_count codes) qs ≡ x ∷ xs
codes_behind any_code ks qs xs x n e = subst (λ k. drop k qs ≡ x ∷ xs) (sym (add-zero n)) e
codes_behind (codes_in es) ks qs xs x n e = code_behind es ks qs xs x n e

handler_fits : (names : List (Option Text)) (around : ℕ) (q : Program) (all arms : Arms) (s : Scene) (n : ℕ) (before : List Kind) (held : List Datum) (f : Failure)
    → SceneHolds s → IsTrue (arms_fit names arms) → drop n (statement_parts (guarded q all)) ≡ arm_parts before arms
    → CatchFits around (of_statement (guarded q all)) (handler_for n arms held f)
handler_fits names around q all no_arms s n before held f h i e = tt
handler_fits names around q all (except x codes p later) s n before [] f h i e = tt
handler_fits names around q all (except x codes p later) s n before (v ∷ held) f h i e =
    some_if around (of_statement (guarded q all)) (takes_code v f.code) _ _
    (of_named around (of_statement (guarded q all)) s h x _ _ (first_holds (may_name x) _ (first_holds (may_name x && codes_fit false codes) _ i))
    (subst (λ o. PartFits around (of_statement (guarded q all)) [] o) (sym (nth_behind (statement_parts (guarded q all)) (n + code_count codes) _ _ there)) refl))
    (handler_fits names around q all later s (suc (n + code_count codes)) (before ++ codes_kind codes ∷ []) held f h
    (second_holds (program_fits names p) _ (second_holds (may_name x && codes_fit false codes) _ i))
    (one_behind (statement_parts (guarded q all)) (n + code_count codes) _ _ there))
  where
    there : drop (n + code_count codes) (statement_parts (guarded q all)) ≡ part (of_program p) [] ∷ arm_parts (before ++ codes_kind codes ∷ []) later
    there = codes_behind codes (before ++ any_list ∷ []) (statement_parts (guarded q all)) _ _ n e

body_fits : (names : List (Option Text)) (around : ℕ) (q : Program) (arms : Arms) (s : Scene) (held : List Datum) (l : Leaving) → SceneHolds s
    → IsTrue (arms_fit names arms) → CatchFits around (of_statement (guarded q arms)) (body_catches arms held l)
body_fits names around q arms s held (failed f) h i = handler_fits names around q arms arms s 1 [] held f h i refl
body_fits names around q arms s held l h i = tt

-- ---- all constructs

loop_fits : (around : ℕ) (c : Construct) (s : Scene) (l : Leaving) → SceneHolds s → IsLoop c → CatchFits around c (loop_catches s l)
loop_fits around c s (broken zero) h i = h
loop_fits around c s (continued zero) h i = i
loop_fits around c s l h i = tt

statement_catches : (names : List (Option Text)) (around inside : ℕ) (t : Statement) (s : Scene) (n : ℕ) (held : List Datum) (l : Leaving) → SceneHolds s
    → IsTrue (statement_fits names t) → inside ≤ around → LeavingFits (in_body (of_statement t) n + inside) l
    → CatchFits around (of_statement t) (catches s (of_statement t) n held l)
statement_catches names around inside (for_each x a p) s (suc (suc zero)) held l h i e k = loop_fits around (of_statement (for_each x a p)) s l h tt
statement_catches names around inside (for_range x a b p) s (suc (suc (suc zero))) held l h i e k = loop_fits around (of_statement (for_range x a b p)) s l h tt
statement_catches names around inside (repeat x a p) s (suc (suc zero)) held l h i e k = loop_fits around (of_statement (repeat x a p)) s l h tt
statement_catches names around inside (guarded q arms) s (suc zero) held l h i e k =
    body_fits names around q arms s held l h (second_holds (program_fits names q) _ (second_holds (has_arm arms) _ i))
statement_catches names around inside (finished q r) s (suc zero) held l h i e k = fewer inside around l e (in_no_loop inside l k)
statement_catches names around inside t s n held l h i e k = tt

pub catches_fit : (names : List (Option Text)) (around inside : ℕ) (c : Construct) (s : Scene) (n : ℕ) (held : List Datum) (l : Leaving) → SceneHolds s
    → ConstructFits names c → inside ≤ around → LeavingFits (in_body c n + inside) l → CatchFits around c (catches s c n held l)
catches_fit names around inside (of_expr (caught a codes d)) s (suc zero) held l h i e k = expression_fits around a codes d s held l h
catches_fit names around inside (of_statement t) s n held l h i e k = statement_catches names around inside t s n held l h i e k
catches_fit names around inside c s n held l h i e k = tt

-- a turn of a loop that has ended goes on as after its body
statement_goes_on : (around : ℕ) (t : Statement) (s : Scene) (n : ℕ) (held vs : List Datum) (l : Leaving) → IsLoop (of_statement t)
    → catches s (of_statement t) n held l ≡ Some stays → ReachFits around (of_statement t) n vs
statement_goes_on around (for_each x a p) s (suc (suc zero)) held vs l i e = tt
statement_goes_on around (for_each x a p) s n held vs l i e = cc
statement_goes_on around (for_range x a b p) s (suc (suc (suc zero))) held vs l i e = tt
statement_goes_on around (for_range x a b p) s n held vs l i e = cc
statement_goes_on around (repeat x a p) s n held vs l i e = tt
statement_goes_on around t s n held vs l i e = absurd i

pub loop_goes_on : (around : ℕ) (c : Construct) (s : Scene) (n : ℕ) (held vs : List Datum) (l : Leaving) → IsLoop c
    → catches s c n held l ≡ Some stays → ReachFits around c n vs
loop_goes_on around (of_statement t) s n held vs l i e = statement_goes_on around t s n held vs l i e
loop_goes_on around c s n held vs l i e = absurd i
