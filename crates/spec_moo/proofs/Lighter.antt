-- A step that costs nothing leaves less to do in its construct: a later part, or an earlier one that was counted for it.
use Rattle.std.proofs.Common.{◌≡◌, ℕ, zero, suc, ◌+◌, ◌≤◌, ◌<◌, ◌==◌, Bool, true, false, List, [], ◌∷◌, ◌++◌, Option, Some, None, option_map, refl, ap, ◌∙◌, subst, arith, if◌then◌else◌}
use Rattle.spec_value.specs.Datum.{Datum, list, is_true, Text}
use Rattle.spec_value.specs.Answer.{Answer}
use Rattle.spec_value.specs.Scatter.{Scattering, gets, refuses, scattered}
use Rattle.spec_program.specs.Tree.{Expr, literal, variable, conditional, caught, scatter, Arguments, no_arguments, argument, splice, Codes, any_code, codes_in, Fallback, the_code, instead, Items, no_items, required, optional, remaining, defaulted, Statement, evaluate, branch, for_each, for_range, repeat, guarded, finished, leave_loop, next_turn, Program, Arms, no_arms, except}
use Rattle.spec_program.specs.Construct.{Construct, of_expr, of_target, of_default, of_statement, of_program}
use Rattle.spec_program.specs.Place.{Part, parts, nth, part_at, statement_parts}
use Rattle.spec_moo.specs.Scene.{Scene}
use Rattle.spec_moo.specs.Pending.{Pending}
use Rattle.spec_moo.specs.Leaving.{Leaving, returned, failed, broken, continued, Failure, BodyLeft, ended, left_by, read_left, held_as, takes_code}
use Rattle.spec_moo.specs.Effect.{Effect, hands, errs, takes, ends, leaves, stays, sets, calls, natively, answered, sets_named, on_one, on_two}
use Rattle.spec_moo.specs.Effects.Operators.{conditional_effect}
use Rattle.spec_moo.specs.Effects.Branches.{is_odd, part_or_end, branch_effect}
use Rattle.spec_moo.specs.Effects.Loops.{Turn, turn_ticks, turn_effect, list_turn, list_loop_effect, are_bounds, range_turn_at, while_ticks, while_effect, loop_catches}
use Rattle.spec_moo.specs.Effects.Handlers.{argument_count, code_count, no_codes, codes_known, without_codes, caught_effect, fallback_effect, expression_catches, ArmPoint, one_code, last_code, one_program, code_points, arm_points, nth_point, guarded_point, codes_from, point_effect, guarded_effect, handler_for, body_catches, go_on_leaving, finally_effect}
use Rattle.spec_moo.specs.Effects.Scatter.{item_kinds, item_count, missing, default_or_end, defaults_after, scatter_effect}
use Rattle.spec_moo.specs.Tables.{effect, expr_effect, statement_effect, step_ticks, expr_ticks, statement_ticks, once_at, catches}
use Rattle.spec_moo.specs.Sizes.{tree_size, parts_size, before_body, repeated_size, rest_size}
use Rattle.spec_moo.proofs.EffectTests.{of_answer, of_if, of_named, of_one, of_two}
use Rattle.spec_moo.proofs.Weights.{later_part, some_part}

-- with n parts of a construct done, an effect leaves no more to do than there was
unfoldable pub Light : Construct → ℕ → Effect → Type 0
Light c n (takes m vs) = (x : Part) → part_at c m ≡ Some x → tree_size x.tree + rest_size c m ≤ rest_size c n
Light c n (sets x v e) = Light c n e
Light c n (calls d p args) = ⊥
Light c n (natively e) = ⊥
Light c n e = Unit {0}

-- the part that is taken
light_taken : (c : Construct) (n m : ℕ) (vs : List Datum) → ((x : Part) → part_at c m ≡ Some x → tree_size x.tree + rest_size c m ≤ rest_size c n) → Light c n (takes m vs)
unfolding Light
light_taken c n m vs h = h

-- a later one, where no more comes a second time
light_later : (c : Construct) (n m : ℕ) (vs : List Datum) → n < m → repeated_size c m ≤ repeated_size c n → Light c n (takes m vs)
unfolding rest_size
light_later c n m vs h r = light_taken c n m vs (λ x is. omega (arith, later_part c n m x h is))

-- any one, where all comes a second time
light_again : (c : Construct) (n m : ℕ) (vs : List Datum) → repeated_size c m ≡ 0 → parts_size (parts c) ≤ repeated_size c n → Light c n (takes m vs)
unfolding rest_size
light_again c n m vs none r = light_taken c n m vs (λ x is. omega (arith, some_part c m x is))

light_hands : (c : Construct) (n : ℕ) (s : Scene) (v : Datum) → Light c n (hands s v)
unfolding Light
light_hands c n s v = tt

light_errs : (c : Construct) (n : ℕ) (s : Scene) (f : Failure) → Light c n (errs s f)
unfolding Light
light_errs c n s f = tt

light_ends : (c : Construct) (n : ℕ) (s : Scene) → Light c n (ends s)
unfolding Light
light_ends c n s = tt

light_leaves : (c : Construct) (n : ℕ) (l : Leaving) → Light c n (leaves l)
unfolding Light
light_leaves c n l = tt

light_stays : (c : Construct) (n : ℕ) → Light c n stays
unfolding Light
light_stays c n = tt

light_sets : (c : Construct) (n : ℕ) (x : Text) (v : Datum) (e : Effect) → Light c n e → Light c n (sets x v e)
unfolding Light
light_sets c n x v e h = h

light_named : (c : Construct) (n : ℕ) (x : Option Text) (v : Datum) (e : Effect) → Light c n e → Light c n (sets_named x v e)
light_named c n x v e h = of_named (Light c n) (light_sets c n) x v e h

light_answer : (c : Construct) (n : ℕ) (s : Scene) (a : Answer) → Light c n (answered s a)
light_answer c n s a = of_answer (Light c n) (light_errs c n) s a (light_hands c n s)

light_if : (c : Construct) (n : ℕ) (b : Bool) (e f : Effect) → Light c n e → Light c n f → Light c n (if b then e else f)
light_if c n b e f h k = of_if (Light c n) b e f h k

light_one : (c : Construct) (n : ℕ) (s : Scene) (f : Datum → Effect) (vs : List Datum) → ((v : Datum) → Light c n (f v)) → Light c n (on_one s f vs)
light_one c n s f vs h = of_one (Light c n) (light_errs c n) s f vs h

light_two : (c : Construct) (n : ℕ) (s : Scene) (f : Datum → Datum → Effect) (vs : List Datum) → ((v u : Datum) → Light c n (f v u)) → Light c n (on_two s f vs)
light_two c n s f vs h = of_two (Light c n) (light_errs c n) s f vs h

-- ---- a tick is paid at one point alone

free_elsewhere : (m n : ℕ) → once_at m n ≡ 0 → (n == m) ≡ false
free_elsewhere m n h = go (n == m) h
  where
    go : (b : Bool) → ◌≡◌ {A = ℕ} (if b then 1 else 0) 0 → b ≡ false
    go true is = absurd (omega arith)
    go false is = refl

-- the effect of a test that fails
light_else : (c : Construct) (n : ℕ) (b : Bool) (e f : Effect) → b ≡ false → Light c n f → Light c n (if b then e else f)
light_else c n true e f is h = cc
light_else c n false e f is h = h

-- ---- expressions

conditional_light : (c a b : Expr) (s : Scene) (n : ℕ) (vs : List Datum) → once_at 1 n ≡ 0 → Light (of_expr (conditional c a b)) n (conditional_effect s n vs)
conditional_light c a b s zero vs h = light_one _ _ s _ vs (λ v. light_hands _ _ s v)
conditional_light c a b s (suc zero) vs h = absurd (omega arith)
conditional_light c a b s (suc (suc n)) vs h = light_one _ _ s _ vs (λ v. light_hands _ _ s v)

caught_light : (e : Expr) (codes : Codes) (d : Fallback) (s : Scene) (n : ℕ) (vs : List Datum) → once_at (codes_known codes) n ≡ 0
    → Light (of_expr (caught e codes d)) n (caught_effect s codes n vs)
caught_light e codes d s n vs h = light_else _ n (n == codes_known codes) _ _ (free_elsewhere (codes_known codes) n h) (further n)
  where
    further : (k : ℕ) → Light (of_expr (caught e codes d)) k (without_codes s k vs)
    further zero = light_later (of_expr (caught e codes d)) 0 2 (no_codes ∷ []) (omega arith) (omega arith)
    further (suc k) = light_two _ _ s _ vs (λ u v. light_hands _ _ s v)

one_more : (n : ℕ) (o : Option ℕ) (k : ℕ) → ((j : ℕ) → o ≡ Some j → n ≤ j) → option_map suc o ≡ Some k → suc n ≤ k
one_more n None k each h = cc
one_more n (Some j) k each h = subst (λ i. suc n ≤ i) (ap (λ o. or_zero o) h) (omega (arith, each j refl))
  where
    or_zero : Option ℕ → ℕ
    or_zero None = 0
    or_zero (Some i) = i

missing_later : (n : ℕ) (xs : Items) (vs : List (Option Datum)) (k : ℕ) → missing n xs vs ≡ Some k → n ≤ k
missing_later zero xs vs k h = omega arith
missing_later (suc n) no_items vs k h = cc
missing_later (suc n) (required x more) [] k h = cc
missing_later (suc n) (optional x more) [] k h = cc
missing_later (suc n) (remaining x more) [] k h = cc
missing_later (suc n) (defaulted x e more) [] k h = cc
missing_later (suc n) (required x more) (v ∷ vs) k h = one_more n (missing n more vs) k (λ j. missing_later n more vs j) h
missing_later (suc n) (optional x more) (v ∷ vs) k h = one_more n (missing n more vs) k (λ j. missing_later n more vs j) h
missing_later (suc n) (remaining x more) (v ∷ vs) k h = one_more n (missing n more vs) k (λ j. missing_later n more vs j) h
missing_later (suc n) (defaulted x e more) (v ∷ vs) k h = one_more n (missing n more vs) k (λ j. missing_later n more vs j) h

scatter_light : (xs : Items) (e : Expr) (s : Scene) (n : ℕ) (vs : List Datum) → once_at (suc (item_count xs)) n ≡ 0 → Light (of_expr (scatter xs e)) n (scatter_effect s xs n vs)
scatter_light xs e s zero vs h = light_later (of_expr (scatter xs e)) 0 (suc (item_count xs)) [] (omega arith) (omega arith)
scatter_light xs e s (suc n) vs h = light_one _ _ s _ vs (λ l. light_else _ (suc n) (suc n == suc (item_count xs)) _ _ (free_elsewhere (suc (item_count xs)) (suc n) h) (defaults l (scattered (item_kinds xs) l)))
  where
    further : (l : Datum) (o : Option ℕ) → ((k : ℕ) → o ≡ Some k → suc n ≤ k) → Light (of_expr (scatter xs e)) (suc n) (default_or_end s l o)
    further l None each = light_hands _ _ s l
    further l (Some k) each = light_later (of_expr (scatter xs e)) (suc n) (suc k) (l ∷ []) (omega (arith, each k refl)) (omega arith)

    defaults : (l : Datum) (r : Scattering) → Light (of_expr (scatter xs e)) (suc n) (defaults_after s xs (suc n) l r)
    defaults l (refuses c) = light_errs _ _ s _
    defaults l (gets us) = further l (missing (suc n) xs us) (λ k. missing_later (suc n) xs us k)

expr_light : (e : Expr) (s : Scene) (p : Pending) (n : ℕ) (vs : List Datum) → expr_ticks e n ≡ 0 → Light (of_expr e) n (expr_effect s p e n vs)
expr_light (literal v) s p n vs h = light_hands _ _ s v
expr_light (variable x) s p n vs h = light_answer _ _ s _
expr_light (conditional c a b) s p n vs h = conditional_light c a b s n vs h
expr_light (caught e codes d) s p n vs h = caught_light e codes d s n vs h
expr_light (scatter xs e) s p n vs h = scatter_light xs e s n vs h
expr_light _ s p n vs h = absurd (omega arith)

-- ---- statements

branch_light : (c : Construct) (ps : List Part) (s : Scene) (n : ℕ) (vs : List Datum) → ((m : ℕ) → repeated_size c m ≡ 0) → Light c n (branch_effect s ps n vs)
branch_light c ps s n vs none = light_if c n (is_odd n) _ _ (light_one c n s _ vs (λ v. light_if c n (is_true v) _ _ (light_later c n (suc n) [] (omega arith) (omega (arith, none (suc n)))) (other (nth ps (suc n))))) (light_ends c n s)
  where
    other : (o : Option Part) → Light c n (part_or_end s (suc (suc n)) o)
    other None = light_ends c n s
    other (Some x) = light_later c n (suc (suc n)) [] (omega arith) (omega (arith, none (suc (suc n))))

-- a turn of a loop is paid
turn_light : (c : Construct) (n : ℕ) (s : Scene) (x : Text) (body : ℕ) (t : Turn) → turn_ticks t ≡ 0 → Light c n (turn_effect s x body t)
turn_light c n s x body None h = light_ends c n s
turn_light c n s x body (Some t) h = absurd (omega arith)

list_light : (c : Construct) (n : ℕ) (s : Scene) (x : Text) (vs : List Datum) → turn_ticks (list_turn vs) ≡ 0 → Light c n (list_loop_effect s x vs)
list_light c n s x [] h = light_errs c n s _
list_light c n s x (list xs ∷ vs) h = turn_light c n s x 2 (list_turn (list xs ∷ vs)) h
list_light c n s x (_ ∷ vs) h = light_errs c n s _

while_light : (x : Option Text) (e : Expr) (b : Program) (s : Scene) (n : ℕ) (vs : List Datum) → while_ticks n vs ≡ 0 → Light (of_statement (repeat x e b)) n (while_effect s n vs)
while_light x e b s zero vs h = light_later (of_statement (repeat x e b)) 0 1 [] (omega arith) (omega arith)
while_light x e b s (suc zero) [] h = light_errs _ _ s _
while_light x e b s (suc zero) (v ∷ []) h = light_else _ _ (is_true v) _ _ (go (is_true v) h) (light_ends _ _ s)
  where
    go : (t : Bool) → ◌≡◌ {A = ℕ} (if t then 1 else 0) 0 → t ≡ false
    go true is = absurd (omega arith)
    go false is = refl
while_light x e b s (suc zero) (v ∷ u ∷ vs) h = light_errs _ _ s _
while_light x e b s (suc (suc n)) vs h = light_again (of_statement (repeat x e b)) (suc (suc n)) 1 [] refl (omega arith)

finally_light : (b q : Program) (s : Scene) (n : ℕ) (vs : List Datum) → Light (of_statement (finished b q)) n (finally_effect s n vs)
finally_light b q s zero vs = light_later (of_statement (finished b q)) 0 1 [] (omega arith) (omega arith)
finally_light b q s (suc zero) vs = light_later (of_statement (finished b q)) 1 2 (held_as ended ∷ []) (omega arith) (omega arith)
finally_light b q s (suc (suc n)) vs = light_one _ _ s _ vs (λ d. go (read_left d))
  where
    go : (o : Option BodyLeft) → Light (of_statement (finished b q)) (suc (suc n)) (go_on_leaving s o)
    go None = light_ends _ _ s
    go (Some ended) = light_ends _ _ s
    go (Some (left_by l)) = light_leaves _ _ l

-- ---- `try` with handlers

-- no more than all comes a second time
repeats_most : (b : Program) (arms : Arms) (n : ℕ) → repeated_size (of_statement (guarded b arms)) n ≤ parts_size (parts (of_statement (guarded b arms)))
repeats_most b arms n = go (guarded_point arms n)
  where
    go : (a : ArmPoint) → before_body a (parts_size (parts (of_statement (guarded b arms)))) ≤ parts_size (parts (of_statement (guarded b arms)))
    go one_code = omega arith
    go (last_code later) = omega arith
    go one_program = omega arith

codes_light : (b : Program) (arms : Arms) (n m : ℕ) (held : List Datum) (later : Arms) → n ≤ m
    → parts_size (parts (of_statement (guarded b arms))) ≤ repeated_size (of_statement (guarded b arms)) n → Light (of_statement (guarded b arms)) n (codes_from m held later)
codes_light b arms n m held no_arms h r = light_again (of_statement (guarded b arms)) n 1 held refl r
codes_light b arms n m held (except x any_code p later) h r = codes_light b arms n (suc m) _ later (omega arith) r
codes_light b arms n m held (except x (codes_in no_arguments) p later) h r = codes_light b arms n (suc m) _ later (omega arith) r
codes_light b arms n m held (except x (codes_in (argument e es)) p later) h r =
    light_later (of_statement (guarded b arms)) n (suc m) _ (omega arith) (omega (arith, repeats_most b arms (suc m)))
codes_light b arms n m held (except x (codes_in (splice e es)) p later) h r =
    light_later (of_statement (guarded b arms)) n (suc m) _ (omega arith) (omega (arith, repeats_most b arms (suc m)))

guarded_light : (b : Program) (arms : Arms) (s : Scene) (n : ℕ) (vs : List Datum) → Light (of_statement (guarded b arms)) n (guarded_effect s arms n vs)
guarded_light b arms s zero vs = codes_light b arms 0 1 vs arms (omega arith) (omega arith)
guarded_light b arms s (suc n) vs = go (guarded_point arms (suc n)) refl
  where
    go : (a : ArmPoint) → guarded_point arms (suc n) ≡ a → Light (of_statement (guarded b arms)) (suc n) (point_effect s (suc (suc n)) vs a)
    go one_code is = light_ends _ _ s
    go one_program is = light_ends _ _ s
    go (last_code later) is =
        codes_light b arms (suc n) (suc (suc n)) vs later (omega arith)
        (omega (arith, ap (λ a. before_body a (parts_size (parts (of_statement (guarded b arms))))) is))

-- behind the codes of a handler
points_behind : (es : Arguments) (later : Arms) (rest : List ArmPoint) (k m : ℕ) → m ≡ argument_count es + k → nth_point (code_points es later ++ rest) m ≡ nth_point rest k
points_behind no_arguments later rest k m h = ap (λ j. nth_point rest j) (omega arith)
points_behind (argument e no_arguments) later rest k zero h = absurd (omega arith)
points_behind (argument e no_arguments) later rest k (suc m) h = ap (λ j. nth_point rest j) (omega arith)
points_behind (splice e no_arguments) later rest k zero h = absurd (omega arith)
points_behind (splice e no_arguments) later rest k (suc m) h = ap (λ j. nth_point rest j) (omega arith)
points_behind (argument e (argument f more)) later rest k zero h = absurd (omega arith)
points_behind (argument e (argument f more)) later rest k (suc m) h = points_behind (argument f more) later rest k m (omega arith)
points_behind (argument e (splice f more)) later rest k zero h = absurd (omega arith)
points_behind (argument e (splice f more)) later rest k (suc m) h = points_behind (splice f more) later rest k m (omega arith)
points_behind (splice e (argument f more)) later rest k zero h = absurd (omega arith)
points_behind (splice e (argument f more)) later rest k (suc m) h = points_behind (argument f more) later rest k m (omega arith)
points_behind (splice e (splice f more)) later rest k zero h = absurd (omega arith)
points_behind (splice e (splice f more)) later rest k (suc m) h = points_behind (splice f more) later rest k m (omega arith)

-- the program of a handler, and the later handlers
arm_behind : (x : Option Text) (codes : Codes) (p : Program) (later : Arms) (k m : ℕ) → m ≡ code_count codes + k
    → nth_point (arm_points (except x codes p later)) m ≡ nth_point (one_program ∷ arm_points later) k
arm_behind x any_code p later k m h = ap (λ j. nth_point (one_program ∷ arm_points later) j) (omega arith)
arm_behind x (codes_in es) p later k m h = points_behind es later (one_program ∷ arm_points later) k m h

-- these handlers stand behind so many parts
abbrev StandBehind : Arms → ℕ → Arms → Type 0
StandBehind arms n later = (k m : ℕ) → m ≡ suc (n + k) → guarded_point arms m ≡ nth_point (arm_points later) k

unfoldable pub LightSome : Construct → ℕ → Option Effect → Type 0
LightSome c n None = Unit {0}
LightSome c n (Some e) = Light c n e

light_none : (c : Construct) (n : ℕ) → LightSome c n None
unfolding LightSome
light_none c n = tt

light_some : (c : Construct) (n : ℕ) (e : Effect) → Light c n e → LightSome c n (Some e)
unfolding LightSome
light_some c n e h = h

light_some_if : (c : Construct) (n : ℕ) (b : Bool) (o r : Option Effect) → LightSome c n o → LightSome c n r → LightSome c n (if b then o else r)
light_some_if c n true o r h k = h
light_some_if c n false o r h k = k

handler_light : (b : Program) (arms : Arms) (n : ℕ) (later : Arms) (held : List Datum) (f : Failure) → 1 ≤ n → StandBehind arms n later
    → LightSome (of_statement (guarded b arms)) 1 (handler_for n later held f)
handler_light b arms n no_arms held f h stand = light_none _ _
handler_light b arms n (except x codes p later) [] f h stand = light_none _ _
handler_light b arms n (except x codes p later) (c ∷ held) f h stand =
    light_some_if (of_statement (guarded b arms)) 1 (takes_code c f.code) _ _
    (light_some _ _ _ (light_named _ _ x _ _ (light_later (of_statement (guarded b arms)) 1 (suc (n + code_count codes)) [] (omega arith) (omega (arith, ap (λ a. before_body a (parts_size (parts (of_statement (guarded b arms))))) program)))))
    (handler_light b arms (suc (n + code_count codes)) later held f (omega arith) (λ k m is. stand (suc (code_count codes + k)) m (omega arith) ∙ arm_behind x codes p later (suc k) (suc (code_count codes + k)) (omega arith)))
  where
    program : guarded_point arms (suc (n + code_count codes)) ≡ one_program
    program = stand (code_count codes) (suc (n + code_count codes)) refl ∙ arm_behind x codes p later 0 (code_count codes) (omega arith)

body_light : (b : Program) (arms : Arms) (held : List Datum) (l : Leaving) → LightSome (of_statement (guarded b arms)) 1 (body_catches arms held l)
body_light b arms held (failed f) = handler_light b arms 1 arms held f (omega arith) (λ k m is. stands k m is)
  where
    stands : (k m : ℕ) → m ≡ suc (1 + k) → guarded_point arms m ≡ nth_point (arm_points arms) k
    stands k zero is = absurd (omega arith)
    stands k (suc zero) is = absurd (omega arith)
    stands k (suc (suc m)) is = ap (λ j. nth_point (arm_points arms) j) (omega arith)
body_light b arms held (returned v) = light_none _ _
body_light b arms held (broken k) = light_none _ _
body_light b arms held (continued k) = light_none _ _

-- ---- every step that costs nothing

statement_light : (t : Statement) (s : Scene) (p : Pending) (n : ℕ) (vs : List Datum) → statement_ticks t n vs ≡ 0 → Light (of_statement t) n (statement_effect s p t n vs)
statement_light (evaluate e) s p n vs h = light_one _ _ s _ vs (λ v. light_ends _ _ s)
statement_light (branch bs q) s p n vs h = branch_light (of_statement (branch bs q)) (statement_parts (branch bs q)) s n vs (λ m. refl)
statement_light (for_each x e b) s p n vs h = list_light (of_statement (for_each x e b)) n s x vs h
statement_light (for_range x a c b) s p n vs h =
    light_if _ _ (are_bounds vs) _ _ (turn_light (of_statement (for_range x a c b)) n s x 3 (range_turn_at n vs) h) (light_errs _ _ s _)
statement_light (repeat x c b) s p n vs h = while_light x c b s n vs h
statement_light (guarded b arms) s p n vs h = guarded_light b arms s n vs
statement_light (finished b q) s p n vs h = finally_light b q s n vs
statement_light (leave_loop x) s p n vs h = light_leaves _ _ _
statement_light (next_turn x) s p n vs h = light_leaves _ _ _
statement_light _ s p n vs h = absurd (omega arith)

pub effect_light : (c : Construct) (s : Scene) (p : Pending) (n : ℕ) (vs : List Datum) → step_ticks c n vs ≡ 0 → Light c n (effect s p c n vs)
unfolding effect
effect_light (of_expr e) s p n vs h = expr_light e s p n vs h
effect_light (of_target t) s p n vs h = light_ends _ _ s
effect_light (of_default x e) s p n vs h = light_one _ _ s _ vs (λ v. light_sets _ _ x v _ (light_ends _ _ s))
effect_light (of_statement t) s p n vs h = statement_light t s p n vs h
effect_light (of_program q) s p n vs h = light_ends _ _ s

-- ---- and whatever a construct does with a leaving

loop_light : (c : Construct) (n : ℕ) (s : Scene) (l : Leaving) → LightSome c n (loop_catches s l)
loop_light c n s (returned v) = light_none c n
loop_light c n s (failed f) = light_none c n
loop_light c n s (broken zero) = light_some c n _ (light_ends c n s)
loop_light c n s (broken (suc k)) = light_none c n
loop_light c n s (continued zero) = light_some c n _ (light_stays c n)
loop_light c n s (continued (suc k)) = light_none c n

fallback_light : (e : Expr) (codes : Codes) (d : Fallback) (s : Scene) (c : Datum) → Light (of_expr (caught e codes d)) 1 (fallback_effect s (suc (suc (code_count codes))) d c)
fallback_light e codes the_code s c = light_hands _ _ s c
fallback_light e codes (instead d) s c = light_later (of_expr (caught e codes (instead d))) 1 (suc (suc (code_count codes))) [] (omega arith) (omega arith)

expression_light : (e : Expr) (codes : Codes) (d : Fallback) (s : Scene) (held : List Datum) (l : Leaving)
    → LightSome (of_expr (caught e codes d)) 1 (expression_catches s codes d held l)
expression_light e codes d s [] l = light_none _ _
expression_light e codes d s (c ∷ []) (returned v) = light_none _ _
expression_light e codes d s (c ∷ []) (failed f) = light_some_if _ 1 (takes_code c f.code) _ _ (light_some _ _ _ (fallback_light e codes d s f.code)) (light_none _ _)
expression_light e codes d s (c ∷ []) (broken k) = light_none _ _
expression_light e codes d s (c ∷ []) (continued k) = light_none _ _
expression_light e codes d s (c ∷ u ∷ held) l = light_none _ _

pub catches_light : (c : Construct) (s : Scene) (n : ℕ) (held : List Datum) (l : Leaving) → LightSome c n (catches s c n held l)
catches_light (of_expr (caught e codes d)) s (suc zero) held l = expression_light e codes d s held l
catches_light (of_statement (for_each x e b)) s (suc (suc zero)) held l = loop_light _ _ s l
catches_light (of_statement (for_range x a c b)) s (suc (suc (suc zero))) held l = loop_light _ _ s l
catches_light (of_statement (repeat x c b)) s (suc (suc zero)) held l = loop_light _ _ s l
catches_light (of_statement (guarded b arms)) s (suc zero) held l = body_light b arms held l
catches_light (of_statement (finished b q)) s (suc zero) held l =
    light_some _ _ _ (light_later (of_statement (finished b q)) 1 2 (held_as (left_by l) ∷ []) (omega arith) (omega arith))
catches_light c s n held l = light_none c n
