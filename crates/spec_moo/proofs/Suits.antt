-- Each effect suits its construct: expressions alone hand on values, statements alone end without one, and calls alone enter verbs.
use Rattle.std.proofs.Common.{◌≡◌, ℕ, zero, suc, ◌+◌, ◌==◌, Bool, true, false, List, [], ◌∷◌, Option, Some, None, refl, IsTrue, if◌then◌else◌}
use Rattle.std.specs.Prelude.{ℤ, pos, negsuc, codes, drop}
use Rattle.spec_value.specs.Datum.{Datum, integer, object, text, error, list, Data, Text, same_text, is_true}
use Rattle.spec_value.specs.Answer.{Answer, is_allowed}
use Rattle.spec_value.specs.Scatter.{Scattering, gets, refuses, scattered}
use Rattle.spec_program.specs.Tree.{Expr, literal, variable, own_length, unary, binary, both, either, conditional, listing, call, property, verb_call, index, range, caught, assignment, scatter, no_arguments, argument, splice, Codes, any_code, codes_in, Fallback, the_code, instead, Items, no_items, required, optional, remaining, defaulted, Statement, evaluate, give, give_zero, branch, for_each, for_range, repeat, fork, guarded, finished, leave_loop, next_turn, Program, Arms, no_arms, except}
use Rattle.spec_program.specs.Construct.{Construct, of_expr, of_target, of_default, of_statement, of_program}
use Rattle.spec_program.specs.Place.{Part, nth, is_call, statement_parts, arity}
use Rattle.spec_world.specs.World.{Object, object_at}
use Rattle.spec_moo.specs.Scene.{Scene, has_ids}
use Rattle.spec_world.specs.VerbsSought.{Sought, find_verb}
use Rattle.spec_moo.specs.Pending.{Pending}
use Rattle.spec_moo.specs.Leaving.{Leaving, returned, failed, broken, continued, Failure, BodyLeft, ended, left_by, read_left, takes_code}
use Rattle.spec_moo.specs.Effect.{Effect, hands, errs, takes, ends, leaves, stays, sets, calls, natively, answered}
use Rattle.spec_moo.specs.Effects.Access.{Stored, in_variable, in_property, not_stored, stored, stored_effect}
use Rattle.spec_moo.specs.Effects.Operators.{conditional_effect}
use Rattle.spec_moo.specs.Effects.Calls.{with_arguments, found_effect, on_object_effect, verb_effect, above_definer, function_effect}
use Rattle.spec_moo.specs.Effects.Branches.{is_odd, part_or_end}
use Rattle.spec_moo.specs.Effects.Loops.{Turn, turn_effect, list_turn, list_loop_effect, are_bounds, range_turn_at, while_effect, loop_catches}
use Rattle.spec_moo.specs.Effects.Handlers.{code_count, codes_known, without_codes, fallback_effect, expression_catches, ArmPoint, one_code, last_code, one_program, guarded_point, codes_from, point_effect, guarded_effect, handler_for, body_catches, go_on_leaving, finally_effect}
use Rattle.spec_moo.specs.Effects.Scatter.{item_kinds, item_count, given, all_given, missing, default_or_end, assigned, defaults_after, scatter_effect}
use Rattle.spec_moo.specs.Effects.Forks.{fork_in}
use Rattle.spec_moo.specs.Tables.{has_step, effect, expr_effect, statement_effect, catches}
use Rattle.spec_moo.specs.Standing.{has_no_value}
use Rattle.spec_moo.proofs.EffectTests.{of_answer, of_if, of_named, of_one, of_two, of_three}

unfoldable pub Suits : Construct → Effect → Type 0
Suits c (hands s v) = (e : Expr) × (c ≡ of_expr e)
Suits c (ends s) = IsTrue (has_no_value c)
Suits c stays = IsTrue (has_no_value c)
Suits c (sets x v e) = Suits c e
Suits c (calls d p args) = IsTrue (is_call c)
Suits c (natively e) = IsTrue (is_call c)
Suits c e = Unit {0}

wrong : (c : Construct) (s : Scene) (f : Failure) → Suits c (errs s f)
unfolding Suits
wrong c s f = tt

value : (e : Expr) (s : Scene) (v : Datum) → Suits (of_expr e) (hands s v)
unfolding Suits
value e s v = (e, refl)

part : (c : Construct) (n : ℕ) (vs : List Datum) → Suits c (takes n vs)
unfolding Suits
part c n vs = tt

leaving : (c : Construct) (l : Leaving) → Suits c (leaves l)
unfolding Suits
leaving c l = tt

the_end : (t : Statement) (s : Scene) → Suits (of_statement t) (ends s)
unfolding Suits
the_end t s = refl

early : (t : Statement) → Suits (of_statement t) stays
unfolding Suits
early t = refl

default_end : (x : Text) (e : Expr) (s : Scene) → Suits (of_default x e) (ends s)
unfolding Suits
default_end x e s = refl

first : (c : Construct) (x : Text) (v : Datum) (e : Effect) → Suits c e → Suits c (sets x v e)
unfolding Suits
first c x v e h = h

-- ---- expressions

answer : (e : Expr) (s : Scene) (a : Answer) → Suits (of_expr e) (answered s a)
answer e s a = of_answer (Suits (of_expr e)) (wrong (of_expr e)) s a (value e s)

found_suits : (c : Construct) (s : Scene) (p : Pending) (o : ℤ) (word : Text) (xs : Data) (f : Option Sought) → IsTrue (is_call c) → Suits c (found_effect s p o word xs f)
unfolding Suits
found_suits c s p o word xs None h = tt
found_suits c s p o word xs (Some f) h = h

object_suits : (c : Construct) (s : Scene) (p : Pending) (o : ℤ) (word : Text) (xs : Data) (x : Option Object) → IsTrue (is_call c) → Suits c (on_object_effect s p o word xs x)
object_suits c s p o word xs None h = wrong c s _
object_suits c s p o word xs (Some x) h = found_suits c s p o word xs (find_verb s.world o word) h

verb_suits : (c : Construct) (s : Scene) (p : Pending) (x y : Datum) (xs : Data) → IsTrue (is_call c) → Suits c (verb_effect s p x y xs)
verb_suits c s p (object o) (text word) xs h = object_suits c s p o word xs (object_at s.world o) h
verb_suits c s p (object o) (integer n) xs h = wrong c s _
verb_suits c s p (object o) (object n) xs h = wrong c s _
verb_suits c s p (object o) (error n) xs h = wrong c s _
verb_suits c s p (object o) (list n) xs h = wrong c s _
verb_suits c s p (integer o) y xs h = wrong c s _
verb_suits c s p (text o) y xs h = wrong c s _
verb_suits c s p (error o) y xs h = wrong c s _
verb_suits c s p (list o) y xs h = wrong c s _

native_suits : (c : Construct) (s : Scene) (p : Pending) (g : Text) (xs : Data) → IsTrue (is_call c) → Suits c (function_effect s p g xs)
unfolding Suits
native_suits c s p g xs h = of_if (Suits c) (same_text g (codes "pass")) _ _ (found_suits c s p _ _ xs (above_definer s.world p.frame.call.verb (object_at s.world p.frame.call.definer)) h) h

arguments_suit : (c : Construct) (s : Scene) (f : Data → Effect) (l : Datum) → ((xs : Data) → Suits c (f xs)) → Suits c (with_arguments s f l)
arguments_suit c s f (list xs) h = of_if (Suits c) (is_allowed (list xs)) _ _ (h xs) (wrong c s _)
arguments_suit c s f (integer n) h = wrong c s _
arguments_suit c s f (object n) h = wrong c s _
arguments_suit c s f (text n) h = wrong c s _
arguments_suit c s f (error n) h = wrong c s _

stored_suits : (e : Expr) (s : Scene) (v : Datum) (r : Stored) → Suits (of_expr e) (stored_effect s v r)
stored_suits e s v (in_variable x u) = first _ x u _ (value e s v)
stored_suits e s v (in_property w) = value e _ v
stored_suits e s v (not_stored c) = wrong _ s _

given_suits : (c : Construct) (x : Text) (o : Option Datum) (e : Effect) → Suits c e → Suits c (given x o e)
given_suits c x None e h = h
given_suits c x (Some v) e h = first c x v e h

all_given_suit : (c : Construct) (xs : Items) (vs : List (Option Datum)) (e : Effect) → Suits c e → Suits c (all_given xs vs e)
all_given_suit c no_items vs e h = h
all_given_suit c (required x more) [] e h = h
all_given_suit c (optional x more) [] e h = h
all_given_suit c (remaining x more) [] e h = h
all_given_suit c (defaulted x d more) [] e h = h
all_given_suit c (required x more) (v ∷ vs) e h = given_suits c x v _ (all_given_suit c more vs e h)
all_given_suit c (optional x more) (v ∷ vs) e h = given_suits c x v _ (all_given_suit c more vs e h)
all_given_suit c (remaining x more) (v ∷ vs) e h = given_suits c x v _ (all_given_suit c more vs e h)
all_given_suit c (defaulted x d more) (v ∷ vs) e h = given_suits c x v _ (all_given_suit c more vs e h)

defaults_suit : (e : Expr) (s : Scene) (l : Datum) (o : Option ℕ) → Suits (of_expr e) (default_or_end s l o)
defaults_suit e s l None = value e s l
defaults_suit e s l (Some n) = part _ _ _

assigned_suits : (e : Expr) (s : Scene) (xs : Items) (l : Datum) (r : Scattering) → Suits (of_expr e) (assigned s xs l r)
assigned_suits e s xs l (refuses c) = wrong _ s _
assigned_suits e s xs l (gets vs) = all_given_suit _ xs vs _ (defaults_suit e s l (missing 0 xs vs))

later_suits : (e : Expr) (s : Scene) (xs : Items) (n : ℕ) (l : Datum) (r : Scattering) → Suits (of_expr e) (defaults_after s xs n l r)
later_suits e s xs n l (refuses c) = wrong _ s _
later_suits e s xs n l (gets vs) = defaults_suit e s l (missing n xs vs)

scatter_suits : (e : Expr) (s : Scene) (xs : Items) (n : ℕ) (vs : List Datum) → Suits (of_expr e) (scatter_effect s xs n vs)
scatter_suits e s xs zero vs = part _ _ _
scatter_suits e s xs (suc n) vs =
    of_one (Suits (of_expr e)) (wrong _) s _ vs (λ l. of_if (Suits (of_expr e)) (suc n == suc (item_count xs)) _ _ (assigned_suits e s xs l (scattered (item_kinds xs) l)) (later_suits e s xs (suc n) l (scattered (item_kinds xs) l)))

conditional_suits : (e : Expr) (s : Scene) (n : ℕ) (vs : List Datum) → Suits (of_expr e) (conditional_effect s n vs)
conditional_suits e s zero vs = of_one (Suits (of_expr e)) (wrong _) s _ vs (λ v. value e s v)
conditional_suits e s (suc zero) vs = of_one (Suits (of_expr e)) (wrong _) s _ vs (λ v. of_if (Suits (of_expr e)) (is_true v) _ _ (part _ 2 []) (part _ 3 []))
conditional_suits e s (suc (suc n)) vs = of_one (Suits (of_expr e)) (wrong _) s _ vs (λ v. value e s v)

codes_suit : (e : Expr) (s : Scene) (n : ℕ) (vs : List Datum) → Suits (of_expr e) (without_codes s n vs)
codes_suit e s zero vs = part _ _ _
codes_suit e s (suc n) vs = of_two (Suits (of_expr e)) (wrong _) s _ vs (λ c v. value e s v)

expr_suits : (e : Expr) (s : Scene) (p : Pending) (n : ℕ) (vs : List Datum) → Suits (of_expr e) (expr_effect s p e n vs)
expr_suits (literal v) s p n vs = value _ s v
expr_suits (variable x) s p n vs = answer _ s _
expr_suits own_length s p n vs = answer _ s _
expr_suits (unary u a) s p n vs = of_one (Suits _) (wrong _) s _ vs (λ x. answer _ s _)
expr_suits (binary op a b) s p n vs = of_two (Suits _) (wrong _) s _ vs (λ x y. answer _ s _)
expr_suits (both a b) s p n vs = of_one (Suits (of_expr (both a b))) (wrong _) s _ vs (λ x. of_if (Suits (of_expr (both a b))) (is_true x) _ _ (part _ 2 []) (value _ s x))
expr_suits (either a b) s p n vs = of_one (Suits (of_expr (either a b))) (wrong _) s _ vs (λ x. of_if (Suits (of_expr (either a b))) (is_true x) _ _ (value _ s x) (part _ 2 []))
expr_suits (conditional c a b) s p n vs = conditional_suits _ s n vs
expr_suits (listing es) s p n vs = of_one (Suits _) (wrong _) s _ vs (λ x. answer _ s _)
expr_suits (call f es) s p n vs = of_one (Suits (of_expr (call f es))) (wrong _) s _ vs (λ l. arguments_suit _ s _ l (λ xs. native_suits _ s p f xs refl))
expr_suits (property o q) s p n vs = of_two (Suits _) (wrong _) s _ vs (λ x y. answer _ s _)
expr_suits (verb_call o v es) s p n vs = of_three (Suits (of_expr (verb_call o v es))) (wrong _) s _ vs (λ x y l. arguments_suit _ s _ l (λ xs. verb_suits _ s p x y xs refl))
expr_suits (index x i) s p n vs = of_two (Suits _) (wrong _) s _ vs (λ x y. answer _ s _)
expr_suits (range x a b) s p n vs = of_three (Suits _) (wrong _) s _ vs (λ x y z. answer _ s _)
expr_suits (caught e codes d) s p n vs = of_if (Suits (of_expr (caught e codes d))) (n == codes_known codes) _ _ (part _ 1 _) (codes_suit _ s n vs)
expr_suits (assignment t e) s p n vs = of_one (Suits (of_expr (assignment t e))) (wrong _) s _ (drop (arity t) vs) (λ v. stored_suits _ s v (stored s.world p.frame.call.programmer p.frame.variables t vs v))
expr_suits (scatter xs e) s p n vs = scatter_suits _ s xs n vs

-- ---- statements

other_part : (t : Statement) (s : Scene) (n : ℕ) (o : Option Part) → Suits (of_statement t) (part_or_end s n o)
other_part t s n None = the_end t s
other_part t s n (Some x) = part _ n []

turn_suits : (t : Statement) (s : Scene) (x : Text) (body : ℕ) (o : Turn) → Suits (of_statement t) (turn_effect s x body o)
turn_suits t s x body None = the_end t s
turn_suits t s x body (Some o) = first _ x _ _ (part _ body _)

list_suits : (t : Statement) (s : Scene) (x : Text) (vs : List Datum) → Suits (of_statement t) (list_loop_effect s x vs)
list_suits t s x [] = wrong _ s _
list_suits t s x (list xs ∷ vs) = turn_suits t s x 2 (list_turn (list xs ∷ vs))
list_suits t s x (integer n ∷ vs) = wrong _ s _
list_suits t s x (object n ∷ vs) = wrong _ s _
list_suits t s x (text n ∷ vs) = wrong _ s _
list_suits t s x (error n ∷ vs) = wrong _ s _

while_suits : (t : Statement) (s : Scene) (n : ℕ) (vs : List Datum) → Suits (of_statement t) (while_effect s n vs)
while_suits t s zero vs = part _ 1 []
while_suits t s (suc zero) vs = of_one (Suits (of_statement t)) (wrong _) s _ vs (λ v. of_if (Suits (of_statement t)) (is_true v) _ _ (part _ 2 []) (the_end t s))
while_suits t s (suc (suc n)) vs = part _ 1 []

fork_suits : (t : Statement) (s : Scene) (p : Pending) (x : Option Text) (b : Program) (d : Datum) → Suits (of_statement t) (fork_in s p x b d)
fork_suits t s p x b (integer (pos n)) =
    of_if (Suits (of_statement t)) (has_ids s) _ _ (of_named (Suits (of_statement t)) (first (of_statement t)) x _ _ (the_end t _)) (wrong _ s _)
fork_suits t s p x b (integer (negsuc n)) = wrong _ s _
fork_suits t s p x b (object n) = wrong _ s _
fork_suits t s p x b (text n) = wrong _ s _
fork_suits t s p x b (error n) = wrong _ s _
fork_suits t s p x b (list n) = wrong _ s _

next_codes : (t : Statement) (n : ℕ) (held : List Datum) (arms : Arms) → Suits (of_statement t) (codes_from n held arms)
next_codes t n held no_arms = part _ 1 held
next_codes t n held (except x any_code p later) = next_codes t (suc n) _ later
next_codes t n held (except x (codes_in no_arguments) p later) = next_codes t (suc n) _ later
next_codes t n held (except x (codes_in (argument e es)) p later) = part _ (suc n) _
next_codes t n held (except x (codes_in (splice e es)) p later) = part _ (suc n) _

point_suits : (t : Statement) (s : Scene) (n : ℕ) (vs : List Datum) (a : ArmPoint) → Suits (of_statement t) (point_effect s n vs a)
point_suits t s n vs one_code = the_end t s
point_suits t s n vs (last_code later) = next_codes t n vs later
point_suits t s n vs one_program = the_end t s

guarded_suits : (t : Statement) (s : Scene) (arms : Arms) (n : ℕ) (vs : List Datum) → Suits (of_statement t) (guarded_effect s arms n vs)
guarded_suits t s arms zero vs = next_codes t 1 vs arms
guarded_suits t s arms (suc n) vs = point_suits t s (suc (suc n)) vs (guarded_point arms (suc n))

left_suits : (t : Statement) (s : Scene) (o : Option BodyLeft) → Suits (of_statement t) (go_on_leaving s o)
left_suits t s None = the_end t s
left_suits t s (Some ended) = the_end t s
left_suits t s (Some (left_by l)) = leaving _ l

finally_suits : (t : Statement) (s : Scene) (n : ℕ) (vs : List Datum) → Suits (of_statement t) (finally_effect s n vs)
finally_suits t s zero vs = part _ 1 []
finally_suits t s (suc zero) vs = part _ 2 _
finally_suits t s (suc (suc n)) vs = of_one (Suits (of_statement t)) (wrong _) s _ vs (λ d. left_suits t s (read_left d))

statement_suits : (t : Statement) (s : Scene) (p : Pending) (n : ℕ) (vs : List Datum) → Suits (of_statement t) (statement_effect s p t n vs)
statement_suits (evaluate e) s p n vs = of_one (Suits (of_statement (evaluate e))) (wrong _) s _ vs (λ v. the_end _ s)
statement_suits (give e) s p n vs = of_one (Suits (of_statement (give e))) (wrong _) s _ vs (λ v. leaving _ _)
statement_suits give_zero s p n vs = leaving _ _
statement_suits (branch bs q) s p n vs =
    of_if (Suits (of_statement (branch bs q))) (is_odd n) _ _
    (of_one (Suits (of_statement (branch bs q))) (wrong _) s _ vs (λ v. of_if (Suits (of_statement (branch bs q))) (is_true v) _ _ (part _ (suc n) []) (other_part _ s _ (nth (statement_parts (branch bs q)) (suc n)))))
    (the_end _ s)
statement_suits (for_each x e b) s p n vs = list_suits _ s x vs
statement_suits (for_range x a c b) s p n vs = of_if (Suits (of_statement (for_range x a c b))) (are_bounds vs) _ _ (turn_suits _ s x 3 (range_turn_at n vs)) (wrong _ s _)
statement_suits (repeat x c b) s p n vs = while_suits _ s n vs
statement_suits (fork x e b) s p n vs = of_one (Suits (of_statement (fork x e b))) (wrong _) s _ vs (λ d. fork_suits _ s p x b d)
statement_suits (guarded b arms) s p n vs = guarded_suits _ s arms n vs
statement_suits (finished b q) s p n vs = finally_suits _ s n vs
statement_suits (leave_loop x) s p n vs = leaving _ _
statement_suits (next_turn x) s p n vs = leaving _ _

pub effect_suits : (c : Construct) (s : Scene) (p : Pending) (n : ℕ) (vs : List Datum) → has_step c n ≡ true → Suits c (effect s p c n vs)
unfolding effect
effect_suits (of_expr e) s p n vs h = expr_suits e s p n vs
effect_suits (of_target t) s p n vs h = cc
effect_suits (of_default x e) s p n vs h = of_one (Suits (of_default x e)) (wrong _) s _ vs (λ v. first _ x v _ (default_end x e s))
effect_suits (of_statement t) s p n vs h = statement_suits t s p n vs
effect_suits (of_program q) s p n vs h = cc

-- ---- what is done with a leaving

unfoldable pub SuitsSome : Construct → Option Effect → Type 0
SuitsSome c None = Unit {0}
SuitsSome c (Some e) = Suits c e

nothing : (c : Construct) → SuitsSome c None
unfolding SuitsSome
nothing c = tt

some : (c : Construct) (e : Effect) → Suits c e → SuitsSome c (Some e)
unfolding SuitsSome
some c e h = h

some_if : (c : Construct) (b : Bool) (o r : Option Effect) → SuitsSome c o → SuitsSome c r → SuitsSome c (if b then o else r)
some_if c true o r h k = h
some_if c false o r h k = k

loop_suits : (t : Statement) (s : Scene) (l : Leaving) → SuitsSome (of_statement t) (loop_catches s l)
loop_suits t s (returned v) = nothing _
loop_suits t s (failed f) = nothing _
loop_suits t s (broken zero) = some _ _ (the_end t s)
loop_suits t s (broken (suc k)) = nothing _
loop_suits t s (continued zero) = some _ _ (early t)
loop_suits t s (continued (suc k)) = nothing _

fallback_suits : (e : Expr) (s : Scene) (n : ℕ) (d : Fallback) (c : Datum) → Suits (of_expr e) (fallback_effect s n d c)
fallback_suits e s n the_code c = value e s c
fallback_suits e s n (instead x) c = part _ n []

expression_suits : (e : Expr) (s : Scene) (codes : Codes) (d : Fallback) (held : List Datum) (l : Leaving) → SuitsSome (of_expr e) (expression_catches s codes d held l)
expression_suits e s codes d [] l = nothing _
expression_suits e s codes d (c ∷ []) (returned v) = nothing _
expression_suits e s codes d (c ∷ []) (failed f) = some_if _ (takes_code c f.code) _ _ (some _ _ (fallback_suits e s _ d f.code)) (nothing _)
expression_suits e s codes d (c ∷ []) (broken k) = nothing _
expression_suits e s codes d (c ∷ []) (continued k) = nothing _
expression_suits e s codes d (c ∷ u ∷ held) l = nothing _

handler_suits : (t : Statement) (n : ℕ) (arms : Arms) (held : List Datum) (f : Failure) → SuitsSome (of_statement t) (handler_for n arms held f)
handler_suits t n no_arms held f = nothing _
handler_suits t n (except x codes p later) [] f = nothing _
handler_suits t n (except x codes p later) (c ∷ held) f =
    some_if _ (takes_code c f.code) _ _ (some _ _ (of_named (Suits (of_statement t)) (first (of_statement t)) x _ _ (part _ _ []))) (handler_suits t (suc (n + code_count codes)) later held f)

body_suits : (t : Statement) (arms : Arms) (held : List Datum) (l : Leaving) → SuitsSome (of_statement t) (body_catches arms held l)
body_suits t arms held (failed f) = handler_suits t 1 arms held f
body_suits t arms held (returned v) = nothing _
body_suits t arms held (broken k) = nothing _
body_suits t arms held (continued k) = nothing _

pub catches_suit : (c : Construct) (s : Scene) (n : ℕ) (held : List Datum) (l : Leaving) → SuitsSome c (catches s c n held l)
catches_suit (of_expr (caught e codes d)) s (suc zero) held l = expression_suits _ s codes d held l
catches_suit (of_statement (for_each x e b)) s (suc (suc zero)) held l = loop_suits _ s l
catches_suit (of_statement (for_range x a c b)) s (suc (suc (suc zero))) held l = loop_suits _ s l
catches_suit (of_statement (repeat x c b)) s (suc (suc zero)) held l = loop_suits _ s l
catches_suit (of_statement (guarded b arms)) s (suc zero) held l = body_suits _ arms held l
catches_suit (of_statement (finished b q)) s (suc zero) held l = some _ _ (part _ 2 _)
catches_suit c s n held l = nothing c
