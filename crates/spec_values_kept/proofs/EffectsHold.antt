-- Each step of a construct of a program's tree, over values, holds values.
use Rattle.std.proofs.Common.{◌≡◌, ◌≤◌, ◌<◌, ◌^◌, ℕ, zero, suc, ◌==◌, ℤ, pos, negsuc, ◌+ℤ◌, int_le, drop, Bool, true, false, ◌&&◌, List, [], ◌∷◌, ◌++◌, Option, Some, None, option_map, IsTrue, refl, sym, ap, subst, if◌then◌else◌, arith, codes, leb-true, le-leb}
use Rattle.std.proofs.lemmas.Bool.{eqb-true}
use Rattle.std.specs.Prelude.{FitsSigned}
use Rattle.std.specs.Int.{w32}
use Rattle.std.proofs.lemmas.Int.{ints}
use Rattle.std.specs.Cmp.Lexicographic.{slice_cmp}
use Rattle.std.specs.Ordering.{nat_cmp}
use Rattle.spec_value.specs.Datum.{Datum, integer, object, text, error, list, Data, no_data, item, of_list, to_list, Text, ErrorCode, type_mismatch, verb_not_found, invalid_indirection, invalid_argument, limit_exceeded, same_text, is_true}
use Rattle.spec_value.specs.Answer.{Answer, gives, raises, is_allowed}
use Rattle.spec_value.specs.Literal.{error_message}
use Rattle.spec_value.specs.Places.{item_at}
use Rattle.spec_value.specs.Indexing.{index_value, range_value}
use Rattle.spec_value.specs.Operators.{unary_value, binary_value}
use Rattle.spec_value.specs.Scatter.{Scattering, gets, refuses, scattered}
use Rattle.spec_value.specs.Table.{Named, named, with_name}
use Rattle.spec_value.proofs.Entries.{first_holds, second_holds, both_hold}
use Rattle.spec_program.specs.Tree.{Expr, literal, variable, own_length, unary, binary, both, either, conditional, listing, call, property, verb_call, index, range, caught, assignment, scatter, no_arguments, argument, splice, Codes, any_code, codes_in, Fallback, the_code, instead, Target, to_variable, to_property, to_index, to_range, Items, no_items, required, optional, remaining, defaulted, Statement, evaluate, give, give_zero, branch, for_each, for_range, repeat, fork, guarded, finished, leave_loop, next_turn, Program, Branches, Otherwise, Arms, no_arms, except}
use Rattle.spec_program.specs.Construct.{Construct, of_expr, of_target, of_default, of_statement, of_program}
use Rattle.spec_program.specs.Place.{Part, arity}
use Rattle.spec_program.specs.Trees.{is_name, may_name, is_literal, has_item, rest_once, goes_on, has_arm, expr_fits, codes_fit, target_fits, items_fit, statement_fits, program_fits, arms_fit, is_around, program_height}
use Rattle.spec_world.specs.World.{Object, Entry, frame_entry, native_entry, object_at}
use Rattle.spec_world.specs.VerbsSought.{Sought, find_verb}
use Rattle.spec_moo.specs.Scene.{Scene, has_ids, next_id, moment_after}
use Rattle.spec_moo.specs.Properties.{Written, wrote, refused, read, write}
use Rattle.spec_moo.specs.Pending.{Pending, calls_of, caller_of}
use Rattle.spec_moo.specs.Leaving.{Failure, failure, Leaving, returned, failed, broken, continued, Traced, trace_values, failure_items, failure_value, BodyLeft, ended, left_by, leaving_held, onto_trace, read_trace, read_left, takes_code}
use Rattle.spec_moo.specs.Effect.{Effect, hands, takes, answered, erring, sets_named, on_one, on_two, on_three}
use Rattle.spec_moo.specs.Effects.Access.{valued, variable_value, at_index, at_range, Stored, in_variable, in_property, not_stored, property_stored, whole_stored, target_value, with_index, with_range, stored, stored_effect}
use Rattle.spec_moo.specs.Effects.Lists.{indexed_in, length_in}
use Rattle.spec_moo.specs.Effects.Operators.{conditional_effect}
use Rattle.spec_moo.specs.Effects.Calls.{with_arguments, found_effect, on_object_effect, verb_effect, above_definer, function_effect}
use Rattle.spec_moo.specs.Effects.Branches.{is_odd, part_or_end}
use Rattle.spec_moo.specs.Effects.Loops.{Turn, item_turn, list_turn, turn_effect, list_loop_effect, range_turn, first_turn, later_turn, are_bounds, range_turn_at, while_effect, loops_left, loop_catches}
use Rattle.spec_moo.specs.Effects.Handlers.{argument_count, code_count, codes_known, codes_held, without_codes, fallback_effect, expression_catches, ArmPoint, one_code, last_code, one_program, guarded_point, codes_from, point_effect, guarded_effect, handler_for, body_catches, go_on_leaving, finally_effect}
use Rattle.spec_moo.specs.Effects.Scatter.{item_kinds, item_count, given, all_given, missing, default_or_end, assigned, defaults_after, scattered_effect}
use Rattle.spec_moo.specs.Effects.Forks.{with_named, forked_task, fork_after, fork_in}
use Rattle.spec_moo.specs.Tables.{effect, expr_effect, statement_effect, catches}
use Rattle.spec_holding.specs.Fitting.{ConstructFits}
use Rattle.spec_values_kept.specs.Values.{InRange, IsPrinted, IsKept, AreKept, IsHeld, Each, IfThere, AnswerKept, ScatteringKept}
use Rattle.spec_values_kept.specs.Nodes.{construct_nodes, program_nodes}
use Rattle.spec_values_kept.specs.WorldValues.{ProgramHolds, CallHolds, StartHolds, VariableHolds, Counts, LeavingHolds, LeftHolds, TellsLeaving, OneHeld, CodesFirst, AtCode, CaughtHolds, HeldBy, EntriesHold, WorldHolds}
use Rattle.spec_values_kept.specs.UnderWay.{construct_height, SceneHolds, FailureHolds, CallerHolds, NativesHold, TakesHold, EffectHolds, ContentsFew}
use Rattle.spec_values_kept.proofs.Numbers.{fits_range, below_in_range}
use Rattle.spec_values_kept.proofs.Nesting.{kept_value, kept_data, kept_held, held_value, allowed_kept, first_kept, kept_item, onto_held}
use Rattle.spec_values_kept.proofs.Texts.{message_text}
use Rattle.spec_values_kept.proofs.ValuesGiven.{list_of, limit_gives, unary_gives, binary_gives, indexes_keep, ranges_keep, items_put, ranges_put, scatters_keep, length_gives}
use Rattle.spec_values_kept.proofs.Tables.{each_more, each_found, each_put}
use Rattle.spec_values_kept.proofs.CodePrinted.{name_printed}
use Rattle.spec_values_kept.proofs.WorldChanges.{SoughtHolds, verb_sought, read_gives, WrittenHolds, write_holds, task_put}
use Rattle.spec_values_kept.proofs.BuiltinsHold.{fits, id_in_range, moment_is_number, called_holds, raised_holds}

-- ---- failures and leavings

pub failure_holds : (e : ErrorCode) → FailureHolds (failure e)
failure_holds e = (raised_holds (error e) (error_message e) (integer (pos 0)) refl refl refl (message_text e) refl, refl)

-- ---- what a verb under way has, besides its pieces

abbrev pub BaseHolds : Pending → Type 0
BaseHolds p = InRange p.player × (CallHolds p.frame.call × (Each VariableHolds p.frame.variables × EntriesHold p.outer))

calls_hold_too : (es : List Entry) → EntriesHold es → Each CallHolds (calls_of es)
calls_hold_too [] h = tt
calls_hold_too (frame_entry f ∷ es) h = ((h.0).0, calls_hold_too es h.1)
calls_hold_too (native_entry n ∷ es) h = calls_hold_too es h.1

pub caller_holds : (p : Pending) → InRange p.player → CallHolds p.frame.call → EntriesHold p.outer → CallerHolds (caller_of p)
caller_holds p i h k = (i, (h, calls_hold_too p.outer k))

variable_there : (vars : Named Datum) (x : Text) → Each VariableHolds vars → IfThere IsKept (named vars x)
variable_there vars x h = each_found (slice_cmp nat_cmp) IsKept vars x (values vars h)
  where
    values : (es : Named Datum) → Each VariableHolds es → Each (λ e. IsKept e.1) es
    values [] k = tt
    values (e ∷ es) k = ((k.0).1, values es k.1)

pub variable_put : (vars : Named Datum) (x : Text) (v : Datum) → IsPrinted x → IsKept v → Each VariableHolds vars → Each VariableHolds (with_name vars x v)
variable_put vars x v i k h = each_put (slice_cmp nat_cmp) VariableHolds x v vars (i, k) (λ e j. (j.0, k)) h

variable_gives : (vars : Named Datum) (x : Text) → Each VariableHolds vars → AnswerKept (variable_value vars x)
variable_gives vars x h = go (named vars x) (variable_there vars x h)
  where
    go : (o : Option Datum) → IfThere IsKept o → AnswerKept (valued o)
    go None k = tt
    go (Some v) k = k

-- low and few enough
pub record Small (c : Construct) : Type 0 where
  pub low : construct_height c ≤ 100
  pub few : construct_nodes c < 2 ^ 31

abbrev pub LoopsThere : List (Option Text) → Pending → Type 0
LoopsThere names p = (x : Option Text) → IsTrue (is_around names x) → loops_left x p.frame.pieces ≤ 100

-- ---- with so many verbs waiting outside

module _ (far : ℕ) where
  -- ---- the steps of one construct

  module _ (c : Construct) (s : Scene) (h : SceneHolds s) where
    pub of_error : (e : ErrorCode) → EffectHolds far c (erring s e)
    of_error e = (h, failure_holds e)

    of_answer : (a : Answer) → AnswerKept a → EffectHolds far c (answered s a)
    of_answer (gives v) k = (h, k)
    of_answer (raises e) k = (h, failure_holds e)

    of_if : (b : Bool) (e f : Effect) → EffectHolds far c e → EffectHolds far c f → EffectHolds far c (if b then e else f)
    of_if true e f i k = i
    of_if false e f i k = k

    of_one : (P : Datum → Type 0) (f : Datum → Effect) (vs : List Datum) → Each P vs → ((v : Datum) → P v → EffectHolds far c (f v)) → EffectHolds far c (on_one s f vs)
    of_one P f [] a k = of_error type_mismatch
    of_one P f (v ∷ []) a k = k v a.0
    of_one P f (v ∷ u ∷ vs) a k = of_error type_mismatch

    of_two : (P : Datum → Type 0) (f : Datum → Datum → Effect) (vs : List Datum) → Each P vs → ((v u : Datum) → P v → P u → EffectHolds far c (f v u)) → EffectHolds far c (on_two s f vs)
    of_two P f [] a k = of_error type_mismatch
    of_two P f (v ∷ []) a k = of_error type_mismatch
    of_two P f (v ∷ u ∷ []) a k = k v u a.0 (a.1).0
    of_two P f (v ∷ u ∷ z ∷ vs) a k = of_error type_mismatch

    of_three : (P : Datum → Type 0) (f : Datum → Datum → Datum → Effect) (vs : List Datum) → Each P vs
        → ((v u z : Datum) → P v → P u → P z → EffectHolds far c (f v u z)) → EffectHolds far c (on_three s f vs)
    of_three P f [] a k = of_error type_mismatch
    of_three P f (v ∷ []) a k = of_error type_mismatch
    of_three P f (v ∷ u ∷ []) a k = of_error type_mismatch
    of_three P f (v ∷ u ∷ z ∷ []) a k = k v u z a.0 (a.1).0 ((a.1).1).0
    of_three P f (v ∷ u ∷ z ∷ y ∷ vs) a k = of_error type_mismatch

    pub of_named : (x : Option Text) (v : Datum) (e : Effect) → IsTrue (may_name x) → IsKept v → EffectHolds far c e → EffectHolds far c (sets_named x v e)
    of_named None v e n i k = k
    of_named (Some x) v e n i k = ((name_printed x n, i), k)

    -- ---- calls

    found_holds : (p : Pending) (o : ℤ) (word : Text) (xs : Data) (f : Option Sought) → CallHolds p.frame.call → InRange o → IsPrinted word → IsKept (list xs)
        → IfThere SoughtHolds f → EffectHolds far c (found_effect s p o word xs f)
    found_holds p o word xs None i j l m k = of_error verb_not_found
    found_holds p o word xs (Some f) i j l m k = (called_holds p.frame.call o word f i j l k, ((((k.1).1).1).1, m))

    verb_call_holds : (p : Pending) (x y : Datum) (xs : Data) → CallHolds p.frame.call → IsHeld x → IsHeld y → IsKept (list xs) → EffectHolds far c (verb_effect s p x y xs)
    verb_call_holds p (object o) (text word) xs i j l m = go (object_at s.world o)
      where
        go : (r : Option Object) → EffectHolds far c (on_object_effect s p o word xs r)
        go None = of_error invalid_indirection
        go (Some x) = found_holds p o word xs (find_verb s.world o word) i j l m (verb_sought s.world o word h.0)
    verb_call_holds p x y xs i j l m = of_error type_mismatch

    above_holds : (word : Text) (r : Option Object) → IfThere SoughtHolds (above_definer s.world word r)
    above_holds word None = tt
    above_holds word (Some x) = verb_sought s.world x.header.parent word h.0

    back_again : (xs : Data) → of_list (to_list xs) ≡ xs
    back_again no_data = refl
    back_again (item x xs) = ap (item x) (back_again xs)

    function_holds : NativesHold → (p : Pending) (g : Text) (xs : Data) → BaseHolds p → IsKept (list xs) → IsTrue (is_allowed (list xs)) → EffectHolds far c (function_effect s p g xs)
    function_holds natives p g xs b m l =
        of_if (same_text g (codes "pass")) _ _
        (found_holds p p.frame.call.this p.frame.call.verb xs _ (b.1).0 ((b.1).0).0 ((((((b.1).0).1).1).1).1) m (above_holds p.frame.call.verb (object_at s.world p.frame.call.definer)))
        (natives s (caller_of p) g (to_list xs) h (caller_holds p b.0 (b.1).0 ((b.1).1).1) (list_of xs (kept_data xs m)) (subst (λ ys. IsTrue (is_allowed (list ys))) (sym (back_again xs)) l))

    arguments_hold : (f : Data → Effect) (l : Datum) → IsHeld l → ((xs : Data) → IsKept (list xs) → IsTrue (is_allowed (list xs)) → EffectHolds far c (f xs)) → EffectHolds far c (with_arguments s f l)
    arguments_hold f (list xs) i k = go (is_allowed (list xs)) refl
      where
        go : (b : Bool) → is_allowed (list xs) ≡ b → EffectHolds far c (if b then f xs else erring s limit_exceeded)
        go true e = k xs (allowed_kept (list xs) e (held_value (list xs) i)) e
        go false e = of_error limit_exceeded
    arguments_hold f l i k = of_error type_mismatch

    -- ---- what stands at a target

    at_index_gives : (a : Answer) (vs : List Datum) → AnswerKept a → AnswerKept (at_index a vs)
    at_index_gives (raises e) vs i = tt
    at_index_gives (gives v) [] i = tt
    at_index_gives (gives v) (u ∷ vs) i = indexes_keep v u i

    at_range_gives : (a : Answer) (vs : List Datum) → AnswerKept a → AnswerKept (at_range a vs)
    at_range_gives (raises e) vs i = tt
    at_range_gives (gives v) [] i = tt
    at_range_gives (gives v) (u ∷ []) i = tt
    at_range_gives (gives v) (u ∷ z ∷ vs) i = ranges_keep v u z i

    target_gives : ContentsFew s.world → (who : ℤ) (vars : Named Datum) (t : Target) (vs : List Datum) → Each VariableHolds vars → AnswerKept (target_value s.world who vars t vs)
    target_gives few who vars (to_variable x) vs i = variable_gives vars x i
    target_gives few who vars (to_property o name) [] i = tt
    target_gives few who vars (to_property o name) (a ∷ []) i = tt
    target_gives few who vars (to_property o name) (a ∷ b ∷ vs) i = read_gives s.world who a b h.0 few
    target_gives few who vars (to_index t a) vs i = at_index_gives (target_value s.world who vars t vs) (drop (arity t) vs) (target_gives few who vars t vs i)
    target_gives few who vars (to_range t a b) vs i = at_range_gives (target_value s.world who vars t vs) (drop (arity t) vs) (target_gives few who vars t vs i)

    with_index_gives : (a : Answer) (vs : List Datum) (v : Datum) → AnswerKept a → IsKept v → AnswerKept (with_index a vs v)
    with_index_gives (raises e) vs v i k = tt
    with_index_gives (gives x) [] v i k = tt
    with_index_gives (gives x) (u ∷ vs) v i k = items_put x u v (kept_value x i) (kept_value v k)

    with_range_gives : (a : Answer) (vs : List Datum) (v : Datum) → AnswerKept a → IsKept v → AnswerKept (with_range a vs v)
    with_range_gives (raises e) vs v i k = tt
    with_range_gives (gives x) [] v i k = tt
    with_range_gives (gives x) (u ∷ []) v i k = tt
    with_range_gives (gives x) (u ∷ z ∷ vs) v i k = ranges_put x u z v (kept_value x i) (kept_value v k)

    -- ---- assignments

    abbrev StoredHolds : Stored → Type 0
    StoredHolds (in_variable x u) = IsPrinted x × IsKept u
    StoredHolds (in_property w) = WorldHolds w
    StoredHolds (not_stored e) = Unit {0}

    property_holds : (w : Written) → WrittenHolds w → StoredHolds (property_stored w)
    property_holds (wrote u) k = k
    property_holds (refused e) k = tt

    whole_holds : (store : Datum → Stored) (a : Answer) → AnswerKept a → ((x : Datum) → IsKept x → StoredHolds (store x)) → StoredHolds (whole_stored store a)
    whole_holds store (gives x) i k = k x i
    whole_holds store (raises e) i k = tt

    stored_holds : ContentsFew s.world → (who : ℤ) (vars : Named Datum) (b : Bool) (t : Target) (vs : List Datum) (v : Datum) → IsTrue (target_fits b t) → Each VariableHolds vars → IsKept v
        → StoredHolds (stored s.world who vars t vs v)
    stored_holds few who vars b (to_variable x) vs v k i l = (name_printed x k, l)
    stored_holds few who vars b (to_property o name) [] v k i l = tt
    stored_holds few who vars b (to_property o name) (x ∷ []) v k i l = tt
    stored_holds few who vars b (to_property o name) (x ∷ y ∷ vs) v k i l = property_holds (write s.world who x y v) (write_holds s.world who x y v l h.0)
    stored_holds few who vars b (to_index t a) vs v k i l =
        whole_holds _ (with_index (target_value s.world who vars t vs) (drop (arity t) vs) v)
        (with_index_gives (target_value s.world who vars t vs) (drop (arity t) vs) v (target_gives few who vars t vs i) l)
        (λ x m. stored_holds few who vars b t vs x (second_holds (goes_on t) _ (first_holds (goes_on t && target_fits b t) _ k)) i m)
    stored_holds few who vars b (to_range t a d) vs v k i l =
        whole_holds _ (with_range (target_value s.world who vars t vs) (drop (arity t) vs) v)
        (with_range_gives (target_value s.world who vars t vs) (drop (arity t) vs) v (target_gives few who vars t vs i) l)
        (λ x m. stored_holds few who vars b t vs x (second_holds (goes_on t) _ (first_holds (goes_on t && target_fits b t) _ k)) i m)

    stored_effect_holds : (v : Datum) (r : Stored) → IsKept v → StoredHolds r → EffectHolds far c (stored_effect s v r)
    stored_effect_holds v (in_variable x u) i k = (k, (h, i))
    stored_effect_holds v (in_property w) i k = ((k, h.1), i)
    stored_effect_holds v (not_stored e) i k = of_error e

    dropped : (n : ℕ) (vs : List Datum) → AreKept vs → AreKept (drop n vs)
    dropped zero vs a = a
    dropped (suc n) [] a = tt
    dropped (suc n) (v ∷ vs) a = dropped n vs a.1

    -- ---- scatters

    default_holds : (l : Datum) (o : Option ℕ) → IsKept l → ((m : ℕ) → TakesHold far c m (l ∷ [])) → EffectHolds far c (default_or_end s l o)
    default_holds l None i k = (h, i)
    default_holds l (Some n) i k = k (suc n)

    one_given : (x : Text) (o : Option Datum) (e : Effect) → IsTrue (is_name x) → IfThere IsKept o → EffectHolds far c e → EffectHolds far c (given x o e)
    one_given x None e n a k = k
    one_given x (Some v) e n a k = ((name_printed x n, a), k)

    given_hold : (b : Bool) (ys : Items) (vs : List (Option Datum)) (e : Effect) → IsTrue (items_fit b ys) → Each (IfThere IsKept) vs → EffectHolds far c e → EffectHolds far c (all_given ys vs e)
    given_hold b no_items vs e i a k = k
    given_hold b (required x more) [] e i a k = k
    given_hold b (optional x more) [] e i a k = k
    given_hold b (remaining x more) [] e i a k = k
    given_hold b (defaulted x d more) [] e i a k = k
    given_hold b (required x more) (v ∷ vs) e i a k = one_given x v _ (first_holds (is_name x) _ i) a.0 (given_hold b more vs e (second_holds (is_name x) _ i) a.1 k)
    given_hold b (optional x more) (v ∷ vs) e i a k = one_given x v _ (first_holds (is_name x) _ i) a.0 (given_hold b more vs e (second_holds (is_name x) _ i) a.1 k)
    given_hold b (remaining x more) (v ∷ vs) e i a k = one_given x v _ (first_holds (is_name x) _ i) a.0 (given_hold b more vs e (second_holds (is_name x) _ i) a.1 k)
    given_hold b (defaulted x d more) (v ∷ vs) e i a k =
        one_given x v _ (first_holds (is_name x) _ i) a.0 (given_hold b more vs e (second_holds (expr_fits b d) _ (second_holds (is_name x) _ i)) a.1 k)

    scattered_holds : (b : Bool) (xs : Items) (n : ℕ) (l : Datum) → IsTrue (items_fit b xs) → IsKept l → ((m : ℕ) → TakesHold far c m (l ∷ [])) → EffectHolds far c (scattered_effect s xs n l)
    scattered_holds b xs n l i k m =
        of_if (n == suc (item_count xs)) _ _ (first_time (scattered (item_kinds xs) l) (scatters_keep (item_kinds xs) l k)) (later (scattered (item_kinds xs) l))
      where
        first_time : (r : Scattering) → ScatteringKept r → EffectHolds far c (assigned s xs l r)
        first_time (refuses e) a = of_error e
        first_time (gets vs) a = given_hold b xs vs _ i a (default_holds l (missing 0 xs vs) k m)

        later : (r : Scattering) → EffectHolds far c (defaults_after s xs n l r)
        later (refuses e) = of_error e
        later (gets vs) = default_holds l (missing n xs vs) k m

  -- ---- expressions

  literal_is_value : (v : Datum) → IsTrue (is_literal v) → IsKept v
  literal_is_value (integer (pos n)) h = let l : n ≤ 2147483647 = leb-true n 2147483647 h in below_in_range n (omega (arith, l))
  literal_is_value (integer (negsuc n)) h = let e : n ≡ 2147483647 = eqb-true n 2147483647 h in subst (λ m. InRange (negsuc m)) (sym e) refl
  literal_is_value (object o) h = h
  literal_is_value (text t) h = h
  literal_is_value (error e) h = refl
  literal_is_value (list xs) h = cc

  -- ---- caught expressions

  at_last : (k : ℕ) (vs : List Datum) → AtCode (suc k) k vs → OneHeld vs
  at_last zero vs h = h
  at_last (suc k) vs h = at_last k vs h

  one_first : (vs : List Datum) → OneHeld vs → CodesFirst vs
  one_first [] h = tt
  one_first (v ∷ []) h = (h, tt)
  one_first (v ∷ u ∷ vs) h = absurd h

  at_first : (k : ℕ) → AtCode k 0 (list no_data ∷ [])
  at_first zero = (refl, tt)
  at_first (suc k) = refl

  nothing_at : (k m : ℕ) → AtCode k m []
  nothing_at zero m = tt
  nothing_at (suc k) zero = tt
  nothing_at (suc k) (suc m) = nothing_at k m

  nothing_held : (k n : ℕ) → CaughtHolds k n []
  nothing_held k zero = tt
  nothing_held k (suc zero) = tt
  nothing_held k (suc (suc m)) = nothing_at k m

  second_at : (k m : ℕ) (v u : Datum) → AtCode k m (v ∷ u ∷ []) → IsKept u
  second_at zero m v u h = (h.1).0
  second_at (suc k) zero v u h = absurd h
  second_at (suc k) (suc m) v u h = second_at k m v u h

  second_kept : (k n : ℕ) (v u : Datum) → CaughtHolds k n (v ∷ u ∷ []) → IsKept u
  second_kept k zero v u h = (h.1).0
  second_kept k (suc zero) v u h = (h.1).0
  second_kept k (suc (suc m)) v u h = second_at k m v u h

  codes_held_first : (codes : Codes) (vs : List Datum) → CaughtHolds (code_count codes) (codes_known codes) vs → CodesFirst (codes_held codes vs)
  codes_held_first any_code vs h = (refl, tt)
  codes_held_first (codes_in no_arguments) vs h = (refl, tt)
  codes_held_first (codes_in (argument e es)) vs h = one_first vs (at_last (argument_count es) vs h)
  codes_held_first (codes_in (splice e es)) vs h = one_first vs (at_last (argument_count es) vs h)

  caught_holds : (a : Expr) (codes : Codes) (d : Fallback) (s : Scene) (n : ℕ) (vs : List Datum) → SceneHolds s → CaughtHolds (code_count codes) n vs
      → EffectHolds far (of_expr (caught a codes d)) (if n == codes_known codes then takes 1 (codes_held codes vs) else without_codes s n vs)
  caught_holds a codes d s n vs h k = go (n == codes_known codes) refl
    where
      value : (m : ℕ) (us : List Datum) → CaughtHolds (code_count codes) m us → EffectHolds far (of_expr (caught a codes d)) (on_two s (λ c v. hands s v) us)
      value m [] i = of_error (of_expr (caught a codes d)) s h type_mismatch
      value m (v ∷ []) i = of_error (of_expr (caught a codes d)) s h type_mismatch
      value m (v ∷ u ∷ []) i = (h, second_kept (code_count codes) m v u i)
      value m (v ∷ u ∷ z ∷ us) i = of_error (of_expr (caught a codes d)) s h type_mismatch

      without : (m : ℕ) → CaughtHolds (code_count codes) m vs → EffectHolds far (of_expr (caught a codes d)) (without_codes s m vs)
      without zero i = (at_first (code_count codes), λ e. refl)
      without (suc m) i = value (suc m) vs i

      go : (b : Bool) → (n == codes_known codes) ≡ b → EffectHolds far (of_expr (caught a codes d)) (if b then takes 1 (codes_held codes vs) else without_codes s n vs)
      go true e = (codes_held_first codes vs (subst (λ m. CaughtHolds (code_count codes) m vs) (eqb-true n (codes_known codes) e) k), λ i. cc)
      go false e = without n k

  conditional_holds : (a b d : Expr) (s : Scene) (n : ℕ) (vs : List Datum) → SceneHolds s → AreKept vs → EffectHolds far (of_expr (conditional a b d)) (conditional_effect s n vs)
  conditional_holds a b d s zero vs h k = of_one (of_expr (conditional a b d)) s h IsKept _ vs k (λ v i. (h, i))
  conditional_holds a b d s (suc zero) vs h k =
      of_one (of_expr (conditional a b d)) s h IsKept _ vs k (λ v i. of_if (of_expr (conditional a b d)) s h (is_true v) _ _ (tt, λ e. refl) (tt, λ e. refl))
  conditional_holds a b d s (suc (suc n)) vs h k = of_one (of_expr (conditional a b d)) s h IsKept _ vs k (λ v i. (h, i))

  length_holds : (a : Answer) → AnswerKept (length_in a)
  length_holds (raises e) = tt
  length_holds (gives v) = length_gives v

  expr_holds : NativesHold → (b : Bool) (a : Expr) (s : Scene) (p : Pending) (n : ℕ) (vs : List Datum) → SceneHolds s → ContentsFew s.world → BaseHolds p → IsTrue (expr_fits b a)
      → HeldBy far (of_expr a) n vs → EffectHolds far (of_expr a) (expr_effect s p a n vs)
  expr_holds natives b (literal v) s p n vs h few g i k = (h, literal_is_value v i)
  expr_holds natives b (variable x) s p n vs h few g i k = of_answer (of_expr (variable x)) s h _ (variable_gives p.frame.variables x ((g.1).1).0)
  expr_holds natives b own_length s p n vs h few g i k = of_answer (of_expr own_length) s h _ (length_holds (indexed_in s p p.frame.pieces))
  expr_holds natives b (unary u a) s p n vs h few g i k =
      of_one (of_expr (unary u a)) s h IsKept _ vs k (λ x j. of_answer (of_expr (unary u a)) s h (unary_value u x) (unary_gives u x (kept_value x j)))
  expr_holds natives b (binary op a d) s p n vs h few g i k =
      of_two (of_expr (binary op a d)) s h IsKept _ vs k (λ x y j l. of_answer (of_expr (binary op a d)) s h (binary_value op x y) (binary_gives op x y (kept_value x j) (kept_value y l)))
  expr_holds natives b (both a d) s p n vs h few g i k =
      of_one (of_expr (both a d)) s h IsKept _ vs k (λ x j. of_if (of_expr (both a d)) s h (is_true x) _ _ (tt, λ e. refl) (h, j))
  expr_holds natives b (either a d) s p n vs h few g i k =
      of_one (of_expr (either a d)) s h IsKept _ vs k (λ x j. of_if (of_expr (either a d)) s h (is_true x) _ _ (h, j) (tt, λ e. refl))
  expr_holds natives b (conditional a d f) s p n vs h few g i k = conditional_holds a d f s n vs h k
  expr_holds natives b (listing es) s p n vs h few g i k =
      of_one (of_expr (listing es)) s h IsHeld _ vs k (λ x j. of_answer (of_expr (listing es)) s h _ (limit_gives x (held_value x j)))
  expr_holds natives b (call f es) s p n vs h few g i k =
      of_one (of_expr (call f es)) s h IsHeld _ vs k
      (λ l j. arguments_hold (of_expr (call f es)) s h _ l j (λ xs m o. function_holds (of_expr (call f es)) s h natives p f xs g m o))
  expr_holds natives b (property o q) s p n vs h few g i k =
      of_two (of_expr (property o q)) s h IsKept _ vs k (λ x y j l. of_answer (of_expr (property o q)) s h (read s.world p.frame.call.programmer x y) (read_gives s.world p.frame.call.programmer x y h.0 few))
  expr_holds natives b (verb_call o v es) s p n vs h few g i k =
      of_three (of_expr (verb_call o v es)) s h IsHeld _ vs k
      (λ x y l j m a. arguments_hold (of_expr (verb_call o v es)) s h _ l a (λ xs q r. verb_call_holds (of_expr (verb_call o v es)) s h p x y xs (g.1).0 j m q))
  expr_holds natives b (index a d) s p n vs h few g i k =
      of_two (of_expr (index a d)) s h IsKept _ vs k (λ x y j l. of_answer (of_expr (index a d)) s h (index_value x y) (indexes_keep x y j))
  expr_holds natives b (range a d f) s p n vs h few g i k =
      of_three (of_expr (range a d f)) s h IsKept _ vs k (λ x y z j l m. of_answer (of_expr (range a d f)) s h (range_value x y z) (ranges_keep x y z j))
  expr_holds natives b (caught a codes d) s p n vs h few g i k = caught_holds a codes d s n vs h k
  expr_holds natives b (assignment t a) s p n vs h few g i k =
      of_one (of_expr (assignment t a)) s h IsKept _ (drop (arity t) vs) (dropped (of_expr (assignment t a)) s h (arity t) vs k)
      (λ v j. stored_effect_holds (of_expr (assignment t a)) s h v _ j
      (stored_holds (of_expr (assignment t a)) s h few p.frame.call.programmer p.frame.variables b t vs v (first_holds (target_fits b t) _ i) ((g.1).1).0 j))
  expr_holds natives b (scatter xs a) s p zero vs h few g i k = (tt, λ e. refl)
  expr_holds natives b (scatter xs a) s p (suc n) vs h few g i k =
      of_one (of_expr (scatter xs a)) s h IsKept _ vs k
      (λ l j. scattered_holds (of_expr (scatter xs a)) s h b xs (suc n) l (first_holds (items_fit b xs) _ (second_holds (has_item xs && rest_once xs) _ i)) j (λ m. ((j, tt), λ e. j)))

  -- ---- loops

  abbrev TurnHolds : (Datum → Type 0) → Turn → Type 0
  TurnHolds P None = Unit {0}
  TurnHolds P (Some t) = IsKept t.0 × Each P t.1

  item_holds : (xs : Data) (k : ℕ) → IsKept (list xs) → TurnHolds Counts (item_turn xs k)
  item_holds xs k h = go (item_at xs k) (kept_item xs k h)
    where
      go : (o : Option Datum) → IfThere IsKept o → TurnHolds Counts (option_map (λ v. (v, list xs ∷ integer (pos (suc k)) ∷ [])) o)
      go None i = tt
      go (Some v) i = (i, (h, (tt, tt)))

  list_turn_holds : (xs : Data) (us : List Datum) → IsKept (list xs) → TurnHolds Counts (list_turn (list xs ∷ us))
  list_turn_holds xs [] h = item_holds xs 0 h
  list_turn_holds xs (integer (pos k) ∷ []) h = item_holds xs k h
  list_turn_holds xs us h = tt

  integers_hold : (a b : ℤ) → InRange a → InRange b → TurnHolds IsKept (range_turn (λ z. integer z) a b)
  integers_hold a b h k = go (int_le a b)
    where
      go : (l : Bool) → TurnHolds IsKept (if l then Some (integer a, integer a ∷ integer b ∷ []) else None)
      go true = (h, (h, (k, tt)))
      go false = tt

  objects_hold : (a b : ℤ) → InRange a → InRange b → TurnHolds IsKept (range_turn (λ z. object z) a b)
  objects_hold a b h k = go (int_le a b)
    where
      go : (l : Bool) → TurnHolds IsKept (if l then Some (object a, object a ∷ object b ∷ []) else None)
      go true = (h, (h, (k, tt)))
      go false = tt

  -- a turn later: where there is one, its number is no more than the last
  next_turn_in_range : (a b : ℤ) → InRange a → InRange b → int_le (a +ℤ pos 1) b ≡ true → InRange (a +ℤ pos 1)
  next_turn_in_range a b h k e =
      let f : FitsSigned w32 a = fits a h in let g : FitsSigned w32 b = fits b k in
      let r : FitsSigned w32 (a +ℤ pos 1) = omega (arith, ints, f, g, e) in fits_range (a +ℤ pos 1) r

  later_integers : (a b : ℤ) → InRange a → InRange b → TurnHolds IsKept (range_turn (λ z. integer z) (a +ℤ pos 1) b)
  later_integers a b h k = go (int_le (a +ℤ pos 1) b) refl
    where
      go : (l : Bool) → int_le (a +ℤ pos 1) b ≡ l → TurnHolds IsKept (if l then Some (integer (a +ℤ pos 1), integer (a +ℤ pos 1) ∷ integer b ∷ []) else None)
      go true e = let i = next_turn_in_range a b h k e in (i, (i, (k, tt)))
      go false e = tt

  later_objects : (a b : ℤ) → InRange a → InRange b → TurnHolds IsKept (range_turn (λ z. object z) (a +ℤ pos 1) b)
  later_objects a b h k = go (int_le (a +ℤ pos 1) b) refl
    where
      go : (l : Bool) → int_le (a +ℤ pos 1) b ≡ l → TurnHolds IsKept (if l then Some (object (a +ℤ pos 1), object (a +ℤ pos 1) ∷ object b ∷ []) else None)
      go true e = let i = next_turn_in_range a b h k e in (i, (i, (k, tt)))
      go false e = tt

  first_turn_holds : (vs : List Datum) → AreKept vs → TurnHolds IsKept (first_turn vs)
  first_turn_holds (integer a ∷ integer b ∷ []) h = integers_hold a b h.0 (h.1).0
  first_turn_holds (object a ∷ object b ∷ []) h = objects_hold a b h.0 (h.1).0
  first_turn_holds vs h = tt

  later_turn_holds : (vs : List Datum) → AreKept vs → TurnHolds IsKept (later_turn vs)
  later_turn_holds (integer a ∷ integer b ∷ []) h = later_integers a b h.0 (h.1).0
  later_turn_holds (object a ∷ object b ∷ []) h = later_objects a b h.0 (h.1).0
  later_turn_holds vs h = tt

  range_turn_holds : (n : ℕ) (vs : List Datum) → AreKept vs → TurnHolds IsKept (range_turn_at n vs)
  range_turn_holds zero vs h = later_turn_holds vs h
  range_turn_holds (suc zero) vs h = later_turn_holds vs h
  range_turn_holds (suc (suc zero)) vs h = first_turn_holds vs h
  range_turn_holds (suc (suc (suc n))) vs h = later_turn_holds vs h

  each_loop_holds : (x : Text) (a : Expr) (q : Program) (s : Scene) (vs : List Datum) → SceneHolds s → IsTrue (is_name x) → Each Counts vs
      → EffectHolds far (of_statement (for_each x a q)) (list_loop_effect s x vs)
  each_loop_holds x a q s [] h n k = of_error (of_statement (for_each x a q)) s h type_mismatch
  each_loop_holds x a q s (list xs ∷ us) h n k = go (list_turn (list xs ∷ us)) (list_turn_holds xs us k.0)
    where
      go : (o : Turn) → TurnHolds Counts o → EffectHolds far (of_statement (for_each x a q)) (turn_effect s x 2 o)
      go None i = h
      go (Some t) i = ((name_printed x n, i.0), (i.1, λ e. tt))
  each_loop_holds x a q s (integer m ∷ us) h n k = of_error (of_statement (for_each x a q)) s h type_mismatch
  each_loop_holds x a q s (object m ∷ us) h n k = of_error (of_statement (for_each x a q)) s h type_mismatch
  each_loop_holds x a q s (text m ∷ us) h n k = of_error (of_statement (for_each x a q)) s h type_mismatch
  each_loop_holds x a q s (error m ∷ us) h n k = of_error (of_statement (for_each x a q)) s h type_mismatch

  range_loop_holds : (x : Text) (a b : Expr) (q : Program) (s : Scene) (o : Turn) → SceneHolds s → IsTrue (is_name x) → TurnHolds IsKept o
      → EffectHolds far (of_statement (for_range x a b q)) (turn_effect s x 3 o)
  range_loop_holds x a b q s None h n i = h
  range_loop_holds x a b q s (Some t) h n i = ((name_printed x n, i.0), (i.1, λ e. tt))

  while_holds : (x : Option Text) (a : Expr) (q : Program) (s : Scene) (n : ℕ) (vs : List Datum) → SceneHolds s → AreKept vs → EffectHolds far (of_statement (repeat x a q)) (while_effect s n vs)
  while_holds x a q s zero vs h k = (tt, λ e. tt)
  while_holds x a q s (suc zero) vs h k =
      of_one (of_statement (repeat x a q)) s h IsKept _ vs k (λ v i. of_if (of_statement (repeat x a q)) s h (is_true v) _ _ (tt, λ e. tt) h)
  while_holds x a q s (suc (suc n)) vs h k = (tt, λ e. tt)

  other_part_holds : (bs : Branches) (q : Otherwise) (s : Scene) (n : ℕ) (o : Option Part) → SceneHolds s → EffectHolds far (of_statement (branch bs q)) (part_or_end s n o)
  other_part_holds bs q s n None h = h
  other_part_holds bs q s n (Some x) h = (tt, λ e. tt)

  -- ---- `try`

  module _ (q : Program) (arms : Arms) where
    codes_from_holds : (n : ℕ) (vs : List Datum) (later : Arms) → Each IsHeld vs → EffectHolds far (of_statement (guarded q arms)) (codes_from n vs later)
    codes_from_holds n vs no_arms k = (k, λ e. tt)
    codes_from_holds n vs (except x any_code p later) k = codes_from_holds (suc n) (vs ++ integer (pos 0) ∷ []) later (each_more IsHeld vs (integer (pos 0)) k refl)
    codes_from_holds n vs (except x (codes_in no_arguments) p later) k = codes_from_holds (suc n) (vs ++ list no_data ∷ []) later (each_more IsHeld vs (list no_data) k refl)
    codes_from_holds n vs (except x (codes_in (argument a es)) p later) k = (each_more IsHeld vs (list no_data) k refl, λ e. tt)
    codes_from_holds n vs (except x (codes_in (splice a es)) p later) k = (each_more IsHeld vs (list no_data) k refl, λ e. tt)

    guarded_holds : (s : Scene) (n : ℕ) (vs : List Datum) → SceneHolds s → Each IsHeld vs → EffectHolds far (of_statement (guarded q arms)) (guarded_effect s arms n vs)
    guarded_holds s zero vs h k = codes_from_holds 1 vs arms k
    guarded_holds s (suc n) vs h k = go (guarded_point arms (suc n))
      where
        go : (a : ArmPoint) → EffectHolds far (of_statement (guarded q arms)) (point_effect s (suc (suc n)) vs a)
        go one_code = h
        go (last_code later) = codes_from_holds (suc (suc n)) vs later k
        go one_program = h

  -- ---- how a body was left

  left_again : (c : Construct) (s : Scene) (o : Option BodyLeft) → SceneHolds s → LeftHolds far o → EffectHolds far c (go_on_leaving s o)
  left_again c s None h k = h
  left_again c s (Some ended) h k = h
  left_again c s (Some (left_by l)) h k = k

  trace_read : (ts : List Traced) → read_trace (trace_values ts) ≡ Some ts
  trace_read [] = refl
  trace_read (t ∷ ts) = ap (λ o. onto_trace (Some t) o) (trace_read ts)

  -- a leaving is told so that it goes on as it was
  tells_leaving : (l : Leaving) → LeavingHolds far l → TellsLeaving far (leaving_held l)
  tells_leaving (returned v) h = (onto_held (integer (pos 1)) (item v no_data) refl (onto_held v no_data h refl), h)
  tells_leaving (failed f) h = (
    onto_held (integer (pos 2)) (failure_items f) refl (kept_held (failure_value f) h.0),
    subst (λ o. LeftHolds far (option_map (λ l. left_by l) (option_map (λ trace. failed (record { code = f.code; message = f.message; value = f.value; traceback = trace })) o)))
        (sym (trace_read f.traceback)) h,
  )
  tells_leaving (broken k) h = (onto_held (integer (pos 3)) (item (integer (pos k)) no_data) refl (onto_held (integer (pos k)) no_data h refl), h)
  tells_leaving (continued k) h = (onto_held (integer (pos 4)) (item (integer (pos k)) no_data) refl (onto_held (integer (pos k)) no_data h refl), h)

  finally_holds : (q r : Program) (s : Scene) (n : ℕ) (vs : List Datum) → SceneHolds s → Each (TellsLeaving far) vs → EffectHolds far (of_statement (finished q r)) (finally_effect s n vs)
  finally_holds q r s zero vs h k = (tt, λ e. tt)
  finally_holds q r s (suc zero) vs h k = (((refl, tt), tt), λ e. tt)
  finally_holds q r s (suc (suc n)) vs h k =
      of_one (of_statement (finished q r)) s h (TellsLeaving far) _ vs k (λ d i. left_again (of_statement (finished q r)) s (read_left d) h i.1)

  -- ---- `fork`

  named_variables : (vars : Named Datum) (x : Option Text) (v : Datum) → IsTrue (may_name x) → IsKept v → Each VariableHolds vars → Each VariableHolds (with_named x v vars)
  named_variables vars None v n k h = h
  named_variables vars (Some x) v n k h = variable_put vars x v (name_printed x n) k h

  fork_holds : (x : Option Text) (a : Expr) (q : Program) (s : Scene) (p : Pending) (d : Datum) → SceneHolds s → BaseHolds p
      → StartHolds p.frame.start → IsTrue (may_name x)
      → ProgramHolds q → EffectHolds far (of_statement (fork x a q)) (fork_in s p x q d)
  fork_holds x a q s p (integer (pos n)) h g st named fits_too = go (has_ids s) refl
    where
      go : (b : Bool) → has_ids s ≡ b → EffectHolds far (of_statement (fork x a q)) (if b then fork_after s p x q n else erring s limit_exceeded)
      go true e =
          let i : InRange (next_id s) = id_in_range s h e in
          of_named (of_statement (fork x a q)) s h x (integer (next_id s)) _ named i (
            task_put s.world (next_id s) (forked_task p (moment_after s n) (with_named x (integer (next_id s)) p.frame.variables) q) i
                (g.0, (moment_is_number s n, (((g.1).0, (st, (fits_too, (named_variables p.frame.variables x (integer (next_id s)) named i ((g.1).1).0, tt)))), tt))) h.0,
            h.1,
          )
      go false e = of_error (of_statement (fork x a q)) s h limit_exceeded
  fork_holds x a q s p (integer (negsuc n)) h g st named fits_too = of_error (of_statement (fork x a q)) s h invalid_argument
  fork_holds x a q s p (object n) h g st named fits_too = of_error (of_statement (fork x a q)) s h type_mismatch
  fork_holds x a q s p (text n) h g st named fits_too = of_error (of_statement (fork x a q)) s h type_mismatch
  fork_holds x a q s p (error n) h g st named fits_too = of_error (of_statement (fork x a q)) s h type_mismatch
  fork_holds x a q s p (list n) h g st named fits_too = of_error (of_statement (fork x a q)) s h type_mismatch

  -- ---- statements

  body_holds : (x : Option Text) (a : Expr) (q : Program) → Small (of_statement (fork x a q)) → IsTrue (program_fits [] q) → ProgramHolds q
  body_holds x a q m h =
      let l : construct_height (of_statement (fork x a q)) ≤ 100 = m.low in let f : construct_nodes (of_statement (fork x a q)) < 2 ^ 31 = m.few in
      (both_hold (program_fits [] q) _ h (le-leb (program_height q) 100 (omega (arith, l))), below_in_range (program_nodes q) (omega (arith, f)))

  statement_holds : (names : List (Option Text)) (t : Statement) (s : Scene) (p : Pending) (n : ℕ) (vs : List Datum) → SceneHolds s → BaseHolds p
      → StartHolds p.frame.start → Small (of_statement t) → IsTrue (statement_fits names t) → LoopsThere names p → HeldBy far (of_statement t) n vs
      → EffectHolds far (of_statement t) (statement_effect s p t n vs)
  statement_holds names (evaluate a) s p n vs h g st m i l k = of_one (of_statement (evaluate a)) s h IsKept _ vs k (λ v j. h)
  statement_holds names (give a) s p n vs h g st m i l k =
      of_one (of_statement (give a)) s h IsKept _ vs k (λ v j. j)
  statement_holds names give_zero s p n vs h g st m i l k = refl
  statement_holds names (branch bs q) s p n vs h g st m i l k =
      of_if (of_statement (branch bs q)) s h (is_odd n) _ _
      (of_one (of_statement (branch bs q)) s h IsKept _ vs k (λ v j. of_if (of_statement (branch bs q)) s h (is_true v) _ _ (tt, λ e. tt) (other_part_holds bs q s _ _ h)))
      h
  statement_holds names (for_each x a q) s p n vs h g st m i l k = each_loop_holds x a q s vs h (first_holds (is_name x) _ i) k
  statement_holds names (for_range x a b q) s p n vs h g st m i l k =
      of_if (of_statement (for_range x a b q)) s h (are_bounds vs) _ _
      (range_loop_holds x a b q s (range_turn_at n vs) h (first_holds (is_name x) _ i) (range_turn_holds n vs k)) (of_error (of_statement (for_range x a b q)) s h type_mismatch)
  statement_holds names (repeat x a q) s p n vs h g st m i l k = while_holds x a q s n vs h k
  statement_holds names (fork x a q) s p n vs h g st m i l k =
      of_one (of_statement (fork x a q)) s h IsKept _ vs k (λ d j. fork_holds x a q s p d h g st (first_holds (may_name x) _ i)
      (body_holds x a q m (second_holds (expr_fits false a) _ (second_holds (may_name x) _ i))))
  statement_holds names (guarded q arms) s p n vs h g st m i l k = guarded_holds q arms s n vs h k
  statement_holds names (finished q r) s p n vs h g st m i l k = finally_holds q r s n vs h k
  statement_holds names (leave_loop x) s p n vs h g st m i l k =
      let j : loops_left x p.frame.pieces ≤ 100 = l x (second_holds (may_name x) _ i) in (below_in_range (loops_left x p.frame.pieces) (omega (arith, j)))
  statement_holds names (next_turn x) s p n vs h g st m i l k =
      let j : loops_left x p.frame.pieces ≤ 100 = l x (second_holds (may_name x) _ i) in (below_in_range (loops_left x p.frame.pieces) (omega (arith, j)))

  pub effect_holds : NativesHold → (names : List (Option Text)) (c : Construct) (s : Scene) (p : Pending) (n : ℕ) (vs : List Datum) → SceneHolds s → ContentsFew s.world → BaseHolds p
      → StartHolds p.frame.start → Small c → ConstructFits names c → LoopsThere names p → HeldBy far c n vs → EffectHolds far c (effect s p c n vs)
  unfolding effect
  effect_holds natives names (of_expr a) s p n vs h few g st m i l k = expr_holds natives i.0 a s p n vs h few g i.1 k
  effect_holds natives names (of_target t) s p n vs h few g st m i l k = h
  effect_holds natives names (of_default x a) s p n vs h few g st m i l k =
      of_one (of_default x a) s h IsKept _ vs k (λ v j. ((name_printed x i.0, j), h))
  effect_holds natives names (of_statement t) s p n vs h few g st m i l k = statement_holds names t s p n vs h g st m i l k
  effect_holds natives names (of_program q) s p n vs h few g st m i l k = h

  -- ---- what a construct does with a leaving in one of its parts

  fallback_holds : (a : Expr) (codes : Codes) (d : Fallback) (s : Scene) (n : ℕ) (v : Datum) → SceneHolds s → IsKept v
      → EffectHolds far (of_expr (caught a codes d)) (fallback_effect s n d v)
  fallback_holds a codes the_code s n v h k = (h, k)
  fallback_holds a codes (instead b) s n v h k = (nothing_held (code_count codes) n, λ e. refl)

  abbrev pub CatchHolds : Construct → Option Effect → Type 0
  CatchHolds c o = IfThere (λ e. EffectHolds far c e) o

  some_if : (c : Construct) (b : Bool) (o r : Option Effect) → CatchHolds c o → CatchHolds c r → CatchHolds c (if b then o else r)
  some_if c true o r h k = h
  some_if c false o r h k = k

  -- the error's code is a value, and so is the error
  code_of : (f : Failure) → IsKept (failure_value f) → IsKept f.code
  code_of f h = first_kept f.code (item (text f.message) (item f.value (item (list (trace_values f.traceback)) no_data))) h

  expression_holds : (a : Expr) (codes : Codes) (d : Fallback) (s : Scene) (held : List Datum) (l : Leaving) → SceneHolds s → LeavingHolds far l
      → CatchHolds (of_expr (caught a codes d)) (expression_catches s codes d held l)
  expression_holds a codes d s (v ∷ []) (failed f) h k =
      some_if (of_expr (caught a codes d)) (takes_code v f.code) _ _ (fallback_holds a codes d s _ f.code h (code_of f k.0)) tt
  expression_holds a codes d s held l h k = tt

  handler_holds : (names : List (Option Text)) (q : Program) (all arms : Arms) (s : Scene) (n : ℕ) (held : List Datum) (f : Failure) → SceneHolds s
      → IsTrue (arms_fit names arms) → IsKept (failure_value f) → CatchHolds (of_statement (guarded q all)) (handler_for n arms held f)
  handler_holds names q all no_arms s n held f h i k = tt
  handler_holds names q all (except x codes p later) s n [] f h i k = tt
  handler_holds names q all (except x codes p later) s n (v ∷ held) f h i k =
      some_if (of_statement (guarded q all)) (takes_code v f.code) _ _
      (of_named (of_statement (guarded q all)) s h x (failure_value f) _ (first_holds (may_name x) _ (first_holds (may_name x && codes_fit false codes) _ i)) k (tt, λ e. tt))
      (handler_holds names q all later s _ held f h (second_holds (program_fits names p) _ (second_holds (may_name x && codes_fit false codes) _ i)) k)

  body_catches_hold : (names : List (Option Text)) (q : Program) (arms : Arms) (s : Scene) (held : List Datum) (l : Leaving) → SceneHolds s → IsTrue (arms_fit names arms)
      → LeavingHolds far l → CatchHolds (of_statement (guarded q arms)) (body_catches arms held l)
  body_catches_hold names q arms s held (failed f) h i k = handler_holds names q arms arms s 1 held f h i k.0
  body_catches_hold names q arms s held (returned v) h i k = tt
  body_catches_hold names q arms s held (broken m) h i k = tt
  body_catches_hold names q arms s held (continued m) h i k = tt

  loop_holds : (c : Construct) (s : Scene) (l : Leaving) → SceneHolds s → CatchHolds c (loop_catches s l)
  loop_holds c s (broken zero) h = h
  loop_holds c s (continued zero) h = tt
  loop_holds c s l h = tt

  statement_catches : (names : List (Option Text)) (t : Statement) (s : Scene) (n : ℕ) (held : List Datum) (l : Leaving) → SceneHolds s
      → IsTrue (statement_fits names t) → LeavingHolds far l → CatchHolds (of_statement t) (catches s (of_statement t) n held l)
  statement_catches names (for_each x a p) s (suc (suc zero)) held l h i k = loop_holds (of_statement (for_each x a p)) s l h
  statement_catches names (for_range x a b p) s (suc (suc (suc zero))) held l h i k = loop_holds (of_statement (for_range x a b p)) s l h
  statement_catches names (repeat x a p) s (suc (suc zero)) held l h i k = loop_holds (of_statement (repeat x a p)) s l h
  statement_catches names (guarded q arms) s (suc zero) held l h i k =
      body_catches_hold names q arms s held l h (second_holds (program_fits names q) _ (second_holds (has_arm arms) _ i)) k
  statement_catches names (finished q r) s (suc zero) held l h i k = ((tells_leaving l k, tt), λ e. tt)
  statement_catches names t s n held l h i k = tt

  pub catches_hold : (names : List (Option Text)) (c : Construct) (s : Scene) (n : ℕ) (held : List Datum) (l : Leaving) → SceneHolds s → ConstructFits names c
      → LeavingHolds far l → CatchHolds c (catches s c n held l)
  catches_hold names (of_expr (caught a codes d)) s (suc zero) held l h i k = expression_holds a codes d s held l h k
  catches_hold names (of_statement t) s n held l h i k = statement_catches names t s n held l h i k
  catches_hold names c s n held l h i k = tt
