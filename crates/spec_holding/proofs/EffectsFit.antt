-- Each step of a construct of a program's tree takes parts with what they want, and sets variables of the tree.
use Rattle.std.proofs.Common.{◌≡◌, ◌∙◌, ◌<◌, ◌≤◌, ℕ, zero, suc, ◌==◌, ℤ, pos, int_le, nat_le, nat_lt, drop, append_assoc, append-nil, Bool, true, false, ◌&&◌, List, [], ◌∷◌, ◌++◌, Option, Some, None, option_map, IsTrue, refl, sym, ap, subst, if◌then◌else◌, arith, codes, le-leb, leb-true}
use Rattle.std.specs.List.{list_all}
use Rattle.std.proofs.lemmas.Bool.{eqb-true}
use Rattle.spec_value.specs.Datum.{Datum, integer, object, text, error, list, Data, no_data, item, Text, to_list, same_text, is_true}
use Rattle.spec_value.specs.Answer.{Answer, gives, raises, is_allowed}
use Rattle.spec_value.specs.Places.{item_at}
use Rattle.spec_value.specs.Scatter.{Scattering, gets, refuses, scattered}
use Rattle.spec_value.specs.Table.{Named, is_named}
use Rattle.spec_value.proofs.Keys.{still_sorted}
use Rattle.spec_world.proofs.SlotChanges.{names_total}
use Rattle.spec_value.proofs.Entries.{first_holds, second_holds, both_hold}
use Rattle.spec_program.specs.Tree.{Expr, literal, variable, own_length, unary, binary, both, either, conditional, listing, call, property, verb_call, index, range, caught, assignment, scatter, no_arguments, argument, splice, Codes, any_code, codes_in, Fallback, Target, to_variable, to_property, to_index, to_range, Items, no_items, required, optional, remaining, defaulted, Statement, evaluate, give, give_zero, branch, for_each, for_range, repeat, fork, guarded, finished, leave_loop, next_turn, Program, Branches, no_branches, on, Otherwise, no_else, else_do, Arms, no_arms, except}
use Rattle.spec_program.specs.Construct.{Construct, of_expr, of_target, of_default, of_statement, of_program}
use Rattle.spec_program.specs.Place.{Kind, any_list, code_list, all_codes, Holds, holds, walks_list, walks_range, why_left, Part, part, nth, item_parts, branch_parts, otherwise_parts, arm_kinds, arm_parts, statement_parts, arity}
use Rattle.spec_program.specs.Trees.{is_name, may_name, has_item, rest_once, goes_on, expr_fits, target_fits, items_fit, statement_fits, program_fits, is_around}
use Rattle.spec_world.specs.World.{Object, object_at}
use Rattle.spec_world.specs.WellFormed.{is_variable, held_fits, count, nonempty, are_traced}
use Rattle.spec_world.specs.VerbsSought.{Sought, find_verb}
use Rattle.spec_moo.specs.Scene.{Scene, has_ids, next_id}
use Rattle.spec_moo.specs.Properties.{Written, wrote, refused, write}
use Rattle.spec_moo.specs.Pending.{Pending, caller_of}
use Rattle.spec_moo.specs.Leaving.{Traced, failed, broken, continued, trace_values, left_by, read_traced, onto_trace, read_trace, read_failure, read_return, read_loops, read_numbered, read_left}
use Rattle.spec_moo.specs.Effect.{Effect, takes, answered, sets_named, on_one, on_two, on_three}
use Rattle.spec_moo.specs.Effects.Access.{Stored, in_variable, in_property, not_stored, property_stored, whole_stored, target_value, with_index, with_range, stored, stored_effect}
use Rattle.spec_moo.specs.Effects.Operators.{conditional_effect}
use Rattle.spec_moo.specs.Effects.Calls.{with_arguments, found_effect, on_object_effect, verb_effect, above_definer, function_effect}
use Rattle.spec_moo.specs.Effects.Branches.{is_odd, part_or_end}
use Rattle.spec_moo.specs.Effects.Loops.{Turn, item_turn, list_turn, turn_effect, list_loop_effect, range_turn, first_turn, later_turn, are_bounds, range_turn_at, while_effect, loops_left}
use Rattle.spec_moo.specs.Effects.Handlers.{codes_known, codes_held, without_codes, ArmPoint, one_code, last_code, one_program, guarded_point, codes_from, point_effect, guarded_effect, go_on_leaving, finally_effect}
use Rattle.spec_moo.specs.Effects.Scatter.{item_kinds, item_count, all_given, missing, default_or_end, assigned, defaults_after, scatter_effect}
use Rattle.spec_moo.specs.Effects.Forks.{with_named, fork_in}
use Rattle.spec_moo.specs.Tables.{effect, expr_effect, statement_effect}
use Rattle.spec_holding.specs.Points.{KnowsCodes, OperateFits, EndFits, PartFits}
use Rattle.spec_holding.specs.Fitting.{ConstructFits}
use Rattle.spec_holding.specs.UnderWay.{VariablesFit, WorldHolds, SceneHolds, NativesHold, EffectFits}
use Rattle.spec_holding.proofs.HeldValues.{same_some, Fit, fits_beside}
use Rattle.spec_holding.proofs.WorldsHold.{SoughtFits, verb_fits, still_variables, task_put, WrittenHolds, write_holds}

pub less_is : (k n : ℕ) → k < n → IsTrue (nat_lt k n)
less_is k n l = le-leb (suc k) n (omega (arith, l))

pub is_less : (k n : ℕ) → IsTrue (nat_lt k n) → k < n
is_less k n h = let l : suc k ≤ n = leb-true (suc k) n h in omega (arith, l)

-- ---- lists of parts

pub nth_behind : (ps : List Part) (n : ℕ) (x : Part) (xs : List Part) → drop n ps ≡ x ∷ xs → nth ps n ≡ Some x
nth_behind [] zero x xs e = cc
nth_behind [] (suc n) x xs e = cc
nth_behind (p ∷ ps) zero x xs e = ap first e
  where
    first : List Part → Option Part
    first [] = None
    first (y ∷ ys) = Some y
nth_behind (p ∷ ps) (suc n) x xs e = nth_behind ps n x xs e

pub one_behind : (ps : List Part) (n : ℕ) (x : Part) (xs : List Part) → drop n ps ≡ x ∷ xs → drop (suc n) ps ≡ xs
one_behind [] zero x xs e = cc
one_behind [] (suc n) x xs e = cc
one_behind (p ∷ ps) zero x xs e = ap rest e
  where
    rest : List Part → List Part
    rest [] = []
    rest (y ∷ ys) = ys
one_behind (p ∷ ps) (suc n) x xs e = one_behind ps n x xs e

part_of : (around : ℕ) (c : Construct) (vs : List Datum) (o : Option Part) → EndFits c vs → ((y : Part) → o ≡ Some y → IsTrue (held_fits around y.held vs))
    → PartFits around c vs o
part_of around c vs None h k = h
part_of around c vs (Some y) h k = k y refl

-- ---- the steps of one construct

module _ (around : ℕ) (c : Construct) (s : Scene) (h : SceneHolds s) where
  of_answer : (a : Answer) → EffectFits around c (answered s a)
  of_answer (gives v) = h
  of_answer (raises e) = h

  of_if : (b : Bool) (e f : Effect) → EffectFits around c e → EffectFits around c f → EffectFits around c (if b then e else f)
  of_if true e f i k = i
  of_if false e f i k = k

  of_one : (f : Datum → Effect) (vs : List Datum) → ((v : Datum) → EffectFits around c (f v)) → EffectFits around c (on_one s f vs)
  of_one f [] k = h
  of_one f (v ∷ []) k = k v
  of_one f (v ∷ u ∷ vs) k = h

  of_two : (f : Datum → Datum → Effect) (vs : List Datum) → ((v u : Datum) → EffectFits around c (f v u)) → EffectFits around c (on_two s f vs)
  of_two f [] k = h
  of_two f (v ∷ []) k = h
  of_two f (v ∷ u ∷ []) k = k v u
  of_two f (v ∷ u ∷ z ∷ vs) k = h

  of_three : (f : Datum → Datum → Datum → Effect) (vs : List Datum) → ((v u z : Datum) → EffectFits around c (f v u z)) → EffectFits around c (on_three s f vs)
  of_three f [] k = h
  of_three f (v ∷ []) k = h
  of_three f (v ∷ u ∷ []) k = h
  of_three f (v ∷ u ∷ z ∷ []) k = k v u z
  of_three f (v ∷ u ∷ z ∷ y ∷ vs) k = h

  pub of_named : (x : Option Text) (v : Datum) (e : Effect) → IsTrue (may_name x) → EffectFits around c e → EffectFits around c (sets_named x v e)
  of_named None v e n k = k
  of_named (Some x) v e n k = (n, k)

  -- ---- calls

  found_fits : (p : Pending) (o : ℤ) (word : Text) (xs : Data) (f : Option Sought) → SoughtFits f → EffectFits around c (found_effect s p o word xs f)
  found_fits p o word xs None k = h
  found_fits p o word xs (Some f) k = k

  verb_call_fits : (p : Pending) (x y : Datum) (xs : Data) → EffectFits around c (verb_effect s p x y xs)
  verb_call_fits p (object o) (text word) xs = go (object_at s.world o)
    where
      go : (m : Option Object) → EffectFits around c (on_object_effect s p o word xs m)
      go None = h
      go (Some x) = found_fits p o word xs (find_verb s.world o word) (verb_fits s.world o word h)
  verb_call_fits p x y xs = h

  above_fits : (word : Text) (m : Option Object) → SoughtFits (above_definer s.world word m)
  above_fits word None = tt
  above_fits word (Some x) = verb_fits s.world x.header.parent word h

  function_fits : NativesHold → (p : Pending) (g : Text) (xs : Data) → EffectFits around c (function_effect s p g xs)
  function_fits natives p g xs =
      of_if (same_text g (codes "pass")) _ _
      (found_fits p _ _ xs _ (above_fits p.frame.call.verb (object_at s.world p.frame.call.definer))) (natives s (caller_of p) g (to_list xs) h)

  arguments_fit_too : (f : Data → Effect) (l : Datum) → ((xs : Data) → EffectFits around c (f xs)) → EffectFits around c (with_arguments s f l)
  arguments_fit_too f (list xs) k = of_if (is_allowed (list xs)) _ _ (k xs) h
  arguments_fit_too f l k = h

  -- ---- assignments

  abbrev StoredFits : Stored → Type 0
  StoredFits (in_variable x u) = IsTrue (is_variable x)
  StoredFits (in_property w) = WorldHolds w
  StoredFits (not_stored e) = Unit {0}

  property_fits : (w : Written) → WrittenHolds w → StoredFits (property_stored w)
  property_fits (wrote u) k = k
  property_fits (refused e) k = tt

  whole_fits : (store : Datum → Stored) (a : Answer) → ((x : Datum) → StoredFits (store x)) → StoredFits (whole_stored store a)
  whole_fits store (gives x) k = k x
  whole_fits store (raises e) k = tt

  stored_fit : (who : ℤ) (vars : Named Datum) (b : Bool) (t : Target) (vs : List Datum) (v : Datum) → IsTrue (target_fits b t)
      → StoredFits (stored s.world who vars t vs v)
  stored_fit who vars b (to_variable x) vs v k = k
  stored_fit who vars b (to_property o name) [] v k = tt
  stored_fit who vars b (to_property o name) (x ∷ []) v k = tt
  stored_fit who vars b (to_property o name) (x ∷ y ∷ vs) v k = property_fits (write s.world who x y v) (write_holds s.world who x y v h)
  stored_fit who vars b (to_index t i) vs v k =
      whole_fits _ (with_index (target_value s.world who vars t vs) (drop (arity t) vs) v)
      (λ x. stored_fit who vars b t vs x (second_holds (goes_on t) _ (first_holds (goes_on t && target_fits b t) _ k)))
  stored_fit who vars b (to_range t i j) vs v k =
      whole_fits _ (with_range (target_value s.world who vars t vs) (drop (arity t) vs) v)
      (λ x. stored_fit who vars b t vs x (second_holds (goes_on t) _ (first_holds (goes_on t && target_fits b t) _ k)))

  stored_effect_fits : (v : Datum) (r : Stored) → StoredFits r → EffectFits around c (stored_effect s v r)
  stored_effect_fits v (in_variable x u) k = (k, h)
  stored_effect_fits v (in_property w) k = k
  stored_effect_fits v (not_stored e) k = h

-- ---- scatters

last_item : (xs : Items) (a : Expr) → nth (item_parts xs ++ part (of_expr a) [] ∷ []) (item_count xs) ≡ Some (part (of_expr a) [])
last_item no_items a = refl
last_item (required x more) a = last_item more a
last_item (optional x more) a = last_item more a
last_item (remaining x more) a = last_item more a
last_item (defaulted x d more) a = last_item more a

less_one : (o : Option ℕ) (n : ℕ) → option_map suc o ≡ Some n → (m : ℕ) × (o ≡ Some m) × (n ≡ suc m)
less_one None n e = cc
less_one (Some m) n e = (m, refl, sym (same_some _ n e))

missing_holds : (k : ℕ) (xs : Items) (vs : List (Option Datum)) (ps : List Part) (n : ℕ) (y : Part) → missing k xs vs ≡ Some n
    → nth (item_parts xs ++ ps) n ≡ Some y → y.held ≡ holds (any_list ∷ [])
missing_holds k no_items vs ps n y e f = cc
missing_holds k (required x more) [] ps n y e f = cc
missing_holds k (optional x more) [] ps n y e f = cc
missing_holds k (remaining x more) [] ps n y e f = cc
missing_holds k (defaulted x d more) [] ps n y e f = cc
missing_holds zero (defaulted x d more) (None ∷ vs) ps n y e f =
    sym (ap (λ (z : Part). z.held) (same_some _ y (subst (λ m. nth (item_parts (defaulted x d more) ++ ps) m ≡ Some y) (sym (same_some _ n e)) f)))
missing_holds zero (defaulted x d more) (Some v ∷ vs) ps n y e f =
    let m = less_one _ n e in missing_holds zero more vs ps m.0 y m.1 (subst (λ k. nth (item_parts (defaulted x d more) ++ ps) k ≡ Some y) m.2 f)
missing_holds zero (required x more) (v ∷ vs) ps n y e f =
    let m = less_one _ n e in missing_holds zero more vs ps m.0 y m.1 (subst (λ k. nth (item_parts (required x more) ++ ps) k ≡ Some y) m.2 f)
missing_holds zero (optional x more) (v ∷ vs) ps n y e f =
    let m = less_one _ n e in missing_holds zero more vs ps m.0 y m.1 (subst (λ k. nth (item_parts (optional x more) ++ ps) k ≡ Some y) m.2 f)
missing_holds zero (remaining x more) (v ∷ vs) ps n y e f =
    let m = less_one _ n e in missing_holds zero more vs ps m.0 y m.1 (subst (λ k. nth (item_parts (remaining x more) ++ ps) k ≡ Some y) m.2 f)
missing_holds (suc k) (required x more) (v ∷ vs) ps n y e f =
    let m = less_one _ n e in missing_holds k more vs ps m.0 y m.1 (subst (λ k. nth (item_parts (required x more) ++ ps) k ≡ Some y) m.2 f)
missing_holds (suc k) (optional x more) (v ∷ vs) ps n y e f =
    let m = less_one _ n e in missing_holds k more vs ps m.0 y m.1 (subst (λ k. nth (item_parts (optional x more) ++ ps) k ≡ Some y) m.2 f)
missing_holds (suc k) (remaining x more) (v ∷ vs) ps n y e f =
    let m = less_one _ n e in missing_holds k more vs ps m.0 y m.1 (subst (λ k. nth (item_parts (remaining x more) ++ ps) k ≡ Some y) m.2 f)
missing_holds (suc k) (defaulted x d more) (v ∷ vs) ps n y e f =
    let m = less_one _ n e in missing_holds k more vs ps m.0 y m.1 (subst (λ k. nth (item_parts (defaulted x d more) ++ ps) k ≡ Some y) m.2 f)

module _ (around : ℕ) (b : Bool) (xs : Items) (a : Expr) (s : Scene) (h : SceneHolds s) where
  defaults_fit : (k : ℕ) (ds : Data) (vs : List (Option Datum)) → EffectFits around (of_expr (scatter xs a)) (default_or_end s (list ds) (missing k xs vs))
  defaults_fit k ds vs = go (missing k xs vs) refl
    where
      go : (o : Option ℕ) → missing k xs vs ≡ o → EffectFits around (of_expr (scatter xs a)) (default_or_end s (list ds) o)
      go None e = h
      go (Some n) e =
          part_of around (of_expr (scatter xs a)) (list ds ∷ []) (nth (item_parts xs ++ part (of_expr a) [] ∷ []) n) tt
          (λ y f. subst (λ z. IsTrue (held_fits around z (list ds ∷ []))) (sym (missing_holds k xs vs (part (of_expr a) [] ∷ []) n y e f)) refl)

  given_fit : (ys : Items) (vs : List (Option Datum)) (e : Effect) → IsTrue (items_fit b ys) → EffectFits around (of_expr (scatter xs a)) e
      → EffectFits around (of_expr (scatter xs a)) (all_given ys vs e)
  given_fit no_items vs e i k = k
  given_fit (required x more) [] e i k = k
  given_fit (optional x more) [] e i k = k
  given_fit (remaining x more) [] e i k = k
  given_fit (defaulted x d more) [] e i k = k
  given_fit (required x more) (None ∷ vs) e i k = given_fit more vs e (second_holds (is_name x) _ i) k
  given_fit (optional x more) (None ∷ vs) e i k = given_fit more vs e (second_holds (is_name x) _ i) k
  given_fit (remaining x more) (None ∷ vs) e i k = given_fit more vs e (second_holds (is_name x) _ i) k
  given_fit (defaulted x d more) (None ∷ vs) e i k = given_fit more vs e (second_holds (expr_fits b d) _ (second_holds (is_name x) _ i)) k
  given_fit (required x more) (Some v ∷ vs) e i k = (first_holds (is_name x) _ i, given_fit more vs e (second_holds (is_name x) _ i) k)
  given_fit (optional x more) (Some v ∷ vs) e i k = (first_holds (is_name x) _ i, given_fit more vs e (second_holds (is_name x) _ i) k)
  given_fit (remaining x more) (Some v ∷ vs) e i k = (first_holds (is_name x) _ i, given_fit more vs e (second_holds (is_name x) _ i) k)
  given_fit (defaulted x d more) (Some v ∷ vs) e i k =
      (first_holds (is_name x) _ i, given_fit more vs e (second_holds (expr_fits b d) _ (second_holds (is_name x) _ i)) k)

  assigned_fit : (ds : Data) (r : Scattering) → IsTrue (items_fit b xs) → EffectFits around (of_expr (scatter xs a)) (assigned s xs (list ds) r)
  assigned_fit ds (refuses e) i = h
  assigned_fit ds (gets vs) i = given_fit xs vs _ i (defaults_fit 0 ds vs)

  later_fit : (n : ℕ) (ds : Data) (r : Scattering) → EffectFits around (of_expr (scatter xs a)) (defaults_after s xs n (list ds) r)
  later_fit n ds (refuses e) = h
  later_fit n ds (gets vs) = defaults_fit n ds vs

  scatter_fit : (n : ℕ) (vs : List Datum) → IsTrue (items_fit b xs) → EffectFits around (of_expr (scatter xs a)) (scatter_effect s xs n vs)
  scatter_fit zero vs i =
      subst (λ o. PartFits around (of_expr (scatter xs a)) [] o) (sym (last_item xs a)) refl
  scatter_fit (suc n) vs i = of_one around (of_expr (scatter xs a)) s h _ vs go
    where
      both_ways : (l : Datum) → EffectFits around (of_expr (scatter xs a)) (assigned s xs l (scattered (item_kinds xs) l))
          → EffectFits around (of_expr (scatter xs a)) (defaults_after s xs (suc n) l (scattered (item_kinds xs) l))
          → EffectFits around (of_expr (scatter xs a)) (if suc n == suc (item_count xs) then assigned s xs l (scattered (item_kinds xs) l) else defaults_after s xs (suc n) l (scattered (item_kinds xs) l))
      both_ways l j k = of_if around (of_expr (scatter xs a)) s h (suc n == suc (item_count xs)) _ _ j k

      go : (l : Datum) → EffectFits around (of_expr (scatter xs a)) (if suc n == suc (item_count xs) then assigned s xs l (scattered (item_kinds xs) l) else defaults_after s xs (suc n) l (scattered (item_kinds xs) l))
      go (list ds) = both_ways (list ds) (assigned_fit ds (scattered (item_kinds xs) (list ds)) i) (later_fit (suc n) ds (scattered (item_kinds xs) (list ds)))
      go (integer m) = both_ways (integer m) h h
      go (object m) = both_ways (object m) h h
      go (text m) = both_ways (text m) h h
      go (error m) = both_ways (error m) h h

-- ---- expressions

codes_now : (around : ℕ) (a : Expr) (codes : Codes) (d : Fallback) (s : Scene) (n : ℕ) (vs : List Datum) → SceneHolds s → (n == codes_known codes) ≡ false
    → EffectFits around (of_expr (caught a codes d)) (without_codes s n vs)
codes_now around a any_code d s zero vs h e = cc
codes_now around a (codes_in no_arguments) d s zero vs h e = cc
codes_now around a (codes_in (argument b es)) d s zero vs h e = refl
codes_now around a (codes_in (splice b es)) d s zero vs h e = refl
codes_now around a codes d s (suc n) vs h e = of_two around (of_expr (caught a codes d)) s h _ vs (λ x y. h)

caught_fits : (around : ℕ) (a : Expr) (codes : Codes) (d : Fallback) (s : Scene) (n : ℕ) (vs : List Datum) → SceneHolds s
    → OperateFits around (of_expr (caught a codes d)) n vs
    → EffectFits around (of_expr (caught a codes d)) (if n == codes_known codes then takes 1 (codes_held codes vs) else without_codes s n vs)
caught_fits around a codes d s n vs h k = go (n == codes_known codes) refl
  where
    go : (b : Bool) → (n == codes_known codes) ≡ b → EffectFits around (of_expr (caught a codes d)) (if b then takes 1 (codes_held codes vs) else without_codes s n vs)
    go true e = k (eqb-true n (codes_known codes) e)
    go false e = codes_now around a codes d s n vs h e

conditional_fits : (around : ℕ) (a b d : Expr) (s : Scene) (n : ℕ) (vs : List Datum) → SceneHolds s
    → EffectFits around (of_expr (conditional a b d)) (conditional_effect s n vs)
conditional_fits around a b d s zero vs h = of_one around (of_expr (conditional a b d)) s h _ vs (λ v. h)
conditional_fits around a b d s (suc zero) vs h =
    of_one around (of_expr (conditional a b d)) s h _ vs (λ v. of_if around (of_expr (conditional a b d)) s h (is_true v) _ _ refl refl)
conditional_fits around a b d s (suc (suc n)) vs h = of_one around (of_expr (conditional a b d)) s h _ vs (λ v. h)

expr_fit : NativesHold → (around : ℕ) (b : Bool) (a : Expr) (s : Scene) (p : Pending) (n : ℕ) (vs : List Datum) → SceneHolds s → IsTrue (expr_fits b a)
    → OperateFits around (of_expr a) n vs → EffectFits around (of_expr a) (expr_effect s p a n vs)
expr_fit natives around b (literal v) s p n vs h i k = h
expr_fit natives around b (variable x) s p n vs h i k = of_answer around (of_expr (variable x)) s h _
expr_fit natives around b own_length s p n vs h i k = of_answer around (of_expr own_length) s h _
expr_fit natives around b (unary u a) s p n vs h i k = of_one around (of_expr (unary u a)) s h _ vs (λ x. of_answer around (of_expr (unary u a)) s h _)
expr_fit natives around b (binary op a d) s p n vs h i k =
    of_two around (of_expr (binary op a d)) s h _ vs (λ x y. of_answer around (of_expr (binary op a d)) s h _)
expr_fit natives around b (both a d) s p n vs h i k =
    of_one around (of_expr (both a d)) s h _ vs (λ x. of_if around (of_expr (both a d)) s h (is_true x) _ _ refl h)
expr_fit natives around b (either a d) s p n vs h i k =
    of_one around (of_expr (either a d)) s h _ vs (λ x. of_if around (of_expr (either a d)) s h (is_true x) _ _ h refl)
expr_fit natives around b (conditional a d f) s p n vs h i k = conditional_fits around a d f s n vs h
expr_fit natives around b (listing es) s p n vs h i k = of_one around (of_expr (listing es)) s h _ vs (λ x. of_answer around (of_expr (listing es)) s h _)
expr_fit natives around b (call g es) s p n vs h i k =
    of_one around (of_expr (call g es)) s h _ vs (λ l. arguments_fit_too around (of_expr (call g es)) s h _ l (function_fits around (of_expr (call g es)) s h natives p g))
expr_fit natives around b (property o q) s p n vs h i k =
    of_two around (of_expr (property o q)) s h _ vs (λ x y. of_answer around (of_expr (property o q)) s h _)
expr_fit natives around b (verb_call o v es) s p n vs h i k =
    of_three around (of_expr (verb_call o v es)) s h _ vs
    (λ x y l. arguments_fit_too around (of_expr (verb_call o v es)) s h _ l (verb_call_fits around (of_expr (verb_call o v es)) s h p x y))
expr_fit natives around b (index a d) s p n vs h i k =
    of_two around (of_expr (index a d)) s h _ vs (λ x y. of_answer around (of_expr (index a d)) s h _)
expr_fit natives around b (range a d f) s p n vs h i k =
    of_three around (of_expr (range a d f)) s h _ vs (λ x y z. of_answer around (of_expr (range a d f)) s h _)
expr_fit natives around b (caught a codes d) s p n vs h i k = caught_fits around a codes d s n vs h k
expr_fit natives around b (assignment t a) s p n vs h i k =
    of_one around (of_expr (assignment t a)) s h _ (drop (arity t) vs) (λ v. stored_effect_fits around (of_expr (assignment t a)) s h v _
    (stored_fit around (of_expr (assignment t a)) s h p.frame.call.programmer p.frame.variables b t vs v (first_holds (target_fits b t) _ i)))
expr_fit natives around b (scatter xs a) s p n vs h i k =
    scatter_fit around b xs a s h n vs (first_holds (items_fit b xs) _ (second_holds (has_item xs && rest_once xs) _ i))

-- ---- loops

abbrev TurnFits : ℕ → Holds → Turn → Type 0
TurnFits around w None = Unit {0}
TurnFits around w (Some t) = IsTrue (held_fits around w t.1)

within : (xs : Data) (k : ℕ) (v : Datum) → item_at xs k ≡ Some v → k < count xs
within no_data k v e = cc
within (item x xs) zero v e = omega arith
within (item x xs) (suc k) v e = let l : k < count xs = within xs k v e in omega (arith, l)

item_fits : (around : ℕ) (xs : Data) (k : ℕ) → TurnFits around walks_list (item_turn xs k)
item_fits around xs k = go (item_at xs k) refl
  where
    go : (o : Option Datum) → item_at xs k ≡ o → TurnFits around walks_list (option_map (λ v. (v, list xs ∷ integer (pos (suc k)) ∷ [])) o)
    go None e = tt
    go (Some v) e =
        let l : k < count xs = within xs k v e in
        both_hold (nat_le 1 (suc k)) _ (le-leb 1 (suc k) (omega arith)) (le-leb (suc k) (count xs) (omega (arith, l)))

list_turn_fits : (around : ℕ) (xs : Data) (us : List Datum) → TurnFits around walks_list (list_turn (list xs ∷ us))
list_turn_fits around xs [] = item_fits around xs 0
list_turn_fits around xs (integer (pos k) ∷ []) = item_fits around xs k
list_turn_fits around xs us = tt

integers_fit : (around : ℕ) (a b : ℤ) → TurnFits around walks_range (range_turn (λ z. integer z) a b)
integers_fit around a b = go (int_le a b) refl
  where
    go : (l : Bool) → int_le a b ≡ l → TurnFits around walks_range (if l then Some (integer a, integer a ∷ integer b ∷ []) else None)
    go true e = e
    go false e = tt

objects_fit : (around : ℕ) (a b : ℤ) → TurnFits around walks_range (range_turn (λ z. object z) a b)
objects_fit around a b = go (int_le a b) refl
  where
    go : (l : Bool) → int_le a b ≡ l → TurnFits around walks_range (if l then Some (object a, object a ∷ object b ∷ []) else None)
    go true e = e
    go false e = tt

first_turn_fits : (around : ℕ) (vs : List Datum) → TurnFits around walks_range (first_turn vs)
first_turn_fits around (integer a ∷ integer b ∷ []) = integers_fit around a b
first_turn_fits around (object a ∷ object b ∷ []) = objects_fit around a b
first_turn_fits around vs = tt

later_turn_fits : (around : ℕ) (vs : List Datum) → TurnFits around walks_range (later_turn vs)
later_turn_fits around (integer a ∷ integer b ∷ []) = integers_fit around _ b
later_turn_fits around (object a ∷ object b ∷ []) = objects_fit around _ b
later_turn_fits around vs = tt

range_turn_fits : (around n : ℕ) (vs : List Datum) → TurnFits around walks_range (range_turn_at n vs)
range_turn_fits around zero vs = later_turn_fits around vs
range_turn_fits around (suc zero) vs = later_turn_fits around vs
range_turn_fits around (suc (suc zero)) vs = first_turn_fits around vs
range_turn_fits around (suc (suc (suc n))) vs = later_turn_fits around vs

each_fits : (around : ℕ) (x : Text) (a : Expr) (q : Program) (s : Scene) (vs : List Datum) → SceneHolds s → IsTrue (is_name x)
    → EffectFits around (of_statement (for_each x a q)) (list_loop_effect s x vs)
each_fits around x a q s [] h n = h
each_fits around x a q s (list xs ∷ us) h n = go (list_turn (list xs ∷ us)) (list_turn_fits around xs us)
  where
    go : (o : Turn) → TurnFits around walks_list o → EffectFits around (of_statement (for_each x a q)) (turn_effect s x 2 o)
    go None k = h
    go (Some t) k = (n, k)
each_fits around x a q s (integer m ∷ us) h n = h
each_fits around x a q s (object m ∷ us) h n = h
each_fits around x a q s (text m ∷ us) h n = h
each_fits around x a q s (error m ∷ us) h n = h

range_fits : (around : ℕ) (x : Text) (a b : Expr) (q : Program) (s : Scene) (o : Turn) → SceneHolds s → IsTrue (is_name x) → TurnFits around walks_range o
    → EffectFits around (of_statement (for_range x a b q)) (turn_effect s x 3 o)
range_fits around x a b q s None h n k = h
range_fits around x a b q s (Some t) h n k = (n, k)

while_fits : (around : ℕ) (x : Option Text) (a : Expr) (q : Program) (s : Scene) (n : ℕ) (vs : List Datum) → SceneHolds s
    → EffectFits around (of_statement (repeat x a q)) (while_effect s n vs)
while_fits around x a q s zero vs h = refl
while_fits around x a q s (suc zero) vs h =
    of_one around (of_statement (repeat x a q)) s h _ vs (λ v. of_if around (of_statement (repeat x a q)) s h (is_true v) _ _ refl h)
while_fits around x a q s (suc (suc n)) vs h = refl

-- ---- `if`

branches_hold : (bs : Branches) (q : Otherwise) (n : ℕ) (y : Part) → nth (branch_parts bs ++ otherwise_parts q) n ≡ Some y → y.held ≡ holds []
branches_hold no_branches no_else n y e = cc
branches_hold no_branches (else_do p) zero y e = sym (ap (λ (z : Part). z.held) (same_some _ y e))
branches_hold no_branches (else_do p) (suc n) y e = cc
branches_hold (on a p more) q zero y e = sym (ap (λ (z : Part). z.held) (same_some _ y e))
branches_hold (on a p more) q (suc zero) y e = sym (ap (λ (z : Part). z.held) (same_some _ y e))
branches_hold (on a p more) q (suc (suc n)) y e = branches_hold more q n y e

branch_part : (around : ℕ) (bs : Branches) (q : Otherwise) (n : ℕ)
    → PartFits around (of_statement (branch bs q)) [] (nth (branch_parts bs ++ otherwise_parts q) n)
branch_part around bs q n =
    part_of around (of_statement (branch bs q)) [] _ tt (λ y e. subst (λ z. IsTrue (held_fits around z [])) (sym (branches_hold bs q n y e)) refl)

other_part_fits : (around : ℕ) (bs : Branches) (q : Otherwise) (s : Scene) (n : ℕ) (o : Option Part) → SceneHolds s
    → EffectFits around (of_statement (branch bs q)) (part_or_end s (suc n) o)
other_part_fits around bs q s n None h = h
other_part_fits around bs q s n (Some x) h = branch_part around bs q n

-- ---- `try`

module _ (around : ℕ) (q : Program) (arms : Arms) where
  abbrev Known : ℕ → List Datum → Arms → Type 0
  Known n vs later = KnowsCodes arms (statement_parts (guarded q arms)) n vs later

  known_further : (n : ℕ) (vs : List Datum) (k : Kind) (v : Datum) (before : List Kind) (x : Part) (later : Arms) → Fit before vs → Fit (k ∷ []) (v ∷ [])
      → drop n (statement_parts (guarded q arms)) ≡ x ∷ arm_parts (before ++ k ∷ []) later → arm_kinds arms ≡ before ++ k ∷ arm_kinds later
      → KnowsCodes arms (statement_parts (guarded q arms)) (suc n) (vs ++ v ∷ []) later
  known_further n vs k v before x later h i e f =
      record {
        before = before ++ k ∷ [];
        fits = fits_beside before k vs v h (first_holds _ true i);
        behind = one_behind (statement_parts (guarded q arms)) n x _ e;
        kinds = f ∙ sym (append_assoc before (k ∷ []) (arm_kinds later));
      }

  code_begun : (n : ℕ) (vs : List Datum) (a : Expr) (before : List Kind) (xs : List Part) → Fit before vs
      → drop n (statement_parts (guarded q arms)) ≡ part (of_expr a) (before ++ any_list ∷ []) ∷ xs
      → PartFits around (of_statement (guarded q arms)) (vs ++ list no_data ∷ []) (nth (statement_parts (guarded q arms)) n)
  code_begun n vs a before xs h e =
      subst (λ o. PartFits around (of_statement (guarded q arms)) (vs ++ list no_data ∷ []) o) (sym (nth_behind (statement_parts (guarded q arms)) n _ xs e))
      (fits_beside before any_list vs (list no_data) h refl)

  codes_from_fits : (n : ℕ) (vs : List Datum) (later : Arms) → KnowsCodes arms (statement_parts (guarded q arms)) n vs later
      → EffectFits around (of_statement (guarded q arms)) (codes_from n vs later)
  codes_from_fits n vs no_arms k = subst (λ ks. Fit ks vs) (sym (k.kinds ∙ append-nil k.before)) k.fits
  codes_from_fits n vs (except x any_code p later) k =
      codes_from_fits (suc n) (vs ++ integer (pos 0) ∷ []) later (known_further n vs all_codes (integer (pos 0)) k.before _ later k.fits refl k.behind k.kinds)
  codes_from_fits n vs (except x (codes_in no_arguments) p later) k =
      codes_from_fits (suc n) (vs ++ list no_data ∷ []) later (known_further n vs code_list (list no_data) k.before _ later k.fits refl k.behind k.kinds)
  codes_from_fits n vs (except x (codes_in (argument a es)) p later) k = code_begun n vs a k.before _ k.fits k.behind
  codes_from_fits n vs (except x (codes_in (splice a es)) p later) k = code_begun n vs a k.before _ k.fits k.behind

  guarded_fits : (s : Scene) (n : ℕ) (vs : List Datum) → SceneHolds s → OperateFits around (of_statement (guarded q arms)) n vs
      → EffectFits around (of_statement (guarded q arms)) (guarded_effect s arms n vs)
  guarded_fits s zero vs h k = codes_from_fits 1 vs arms (k arms refl)
  guarded_fits s (suc n) vs h k = go (guarded_point arms (suc n)) refl
    where
      go : (a : ArmPoint) → guarded_point arms (suc n) ≡ a → EffectFits around (of_statement (guarded q arms)) (point_effect s (suc (suc n)) vs a)
      go one_code e = h
      go (last_code later) e = codes_from_fits (suc (suc n)) vs later (k later e)
      go one_program e = h

-- ---- how a body was left

trace_left : (ds : Data) (ts : List Traced) → read_trace ds ≡ Some ts → IsTrue (nonempty ds) → IsTrue (nonempty (trace_values ts))
trace_left no_data ts e h = cc
trace_left (item d ds) [] e h = go (read_traced d) (read_trace ds) e
  where
    go : (a : Option Traced) (b : Option (List Traced)) → onto_trace a b ≡ Some [] → IsTrue (nonempty (trace_values []))
    go None b i = cc
    go (Some t) None i = cc
    go (Some t) (Some us) i = cc
trace_left (item d ds) (t ∷ ts) e h = refl

pub traces_fit : (ts : List Traced) → IsTrue (are_traced (trace_values ts))
traces_fit [] = refl
traces_fit (t ∷ ts) = traces_fit ts

module _ (around : ℕ) (t : Statement) (s : Scene) (h : SceneHolds s) where
  failure_left : (xs : Data) → IsTrue (held_fits around why_left (list (item (integer (pos 2)) xs) ∷ []))
      → EffectFits around (of_statement t) (go_on_leaving s (option_map (λ l. left_by l) (read_failure xs)))
  failure_left (item x (item (text m) (item v (item (list ds) no_data)))) k = go (read_trace ds) refl
    where
      go : (o : Option (List Traced)) → read_trace ds ≡ o
          → EffectFits around (of_statement t) (go_on_leaving s (option_map (λ l. left_by l) (option_map (λ trace. failed (record { code = x; message = m; value = v; traceback = trace })) o)))
      go None e = h
      go (Some ts) e = (refl, both_hold (nonempty (trace_values ts)) _ (trace_left ds ts e (first_holds (nonempty ds) _ k)) (traces_fit ts))
  failure_left xs k = h

  return_left : (xs : Data) → EffectFits around (of_statement t) (go_on_leaving s (option_map (λ l. left_by l) (read_return xs)))
  return_left no_data = h
  return_left (item v no_data) = (refl, refl)
  return_left (item v (item u us)) = h

  broken_left : (xs : Data) → IsTrue (held_fits around why_left (list (item (integer (pos 3)) xs) ∷ []))
      → EffectFits around (of_statement t) (go_on_leaving s (option_map (λ l. left_by l) (read_loops (λ k. broken k) xs)))
  broken_left (item (integer (pos k)) no_data) i = (refl, i)
  broken_left xs i = h

  continued_left : (xs : Data) → IsTrue (held_fits around why_left (list (item (integer (pos 4)) xs) ∷ []))
      → EffectFits around (of_statement t) (go_on_leaving s (option_map (λ l. left_by l) (read_loops (λ k. continued k) xs)))
  continued_left (item (integer (pos k)) no_data) i = (refl, i)
  continued_left xs i = h

  numbered_left : (n : ℕ) (xs : Data) → IsTrue (held_fits around why_left (list (item (integer (pos n)) xs) ∷ []))
      → EffectFits around (of_statement t) (go_on_leaving s (read_numbered n xs))
  numbered_left zero xs k = h
  numbered_left (suc zero) xs k = return_left xs
  numbered_left (suc (suc zero)) xs k = failure_left xs k
  numbered_left (suc (suc (suc zero))) xs k = broken_left xs k
  numbered_left (suc (suc (suc (suc zero)))) xs k = continued_left xs k
  numbered_left (suc (suc (suc (suc (suc n))))) xs k = cc

  left_fits : (d : Datum) → IsTrue (held_fits around why_left (d ∷ [])) → EffectFits around (of_statement t) (go_on_leaving s (read_left d))
  left_fits (list (item (integer (pos n)) xs)) k = numbered_left n xs k
  left_fits d k = h

  all_left : (vs : List Datum) → IsTrue (held_fits around why_left vs) → EffectFits around (of_statement t) (on_one s (λ d. go_on_leaving s (read_left d)) vs)
  all_left [] k = h
  all_left (d ∷ []) k = left_fits d k
  all_left (d ∷ u ∷ vs) k = h

finally_fits : (around : ℕ) (q r : Program) (s : Scene) (n : ℕ) (vs : List Datum) → SceneHolds s → OperateFits around (of_statement (finished q r)) n vs
    → EffectFits around (of_statement (finished q r)) (finally_effect s n vs)
finally_fits around q r s zero vs h k = refl
finally_fits around q r s (suc zero) vs h k = refl
finally_fits around q r s (suc (suc n)) vs h k = all_left around (finished q r) s h vs k

-- ---- `fork`

named_variables : (p : Pending) (x : Option Text) (v : Datum) → IsTrue (may_name x) → VariablesFit p.frame
    → IsTrue (is_named (with_named x v p.frame.variables)) × IsTrue (list_all (λ e. is_variable e.0) (with_named x v p.frame.variables))
named_variables p None v n h = h
named_variables p (Some x) v n h = (still_sorted names_total x v p.frame.variables h.0, still_variables p.frame.variables x v n h.1)

fork_fits : (around : ℕ) (x : Option Text) (a : Expr) (q : Program) (s : Scene) (p : Pending) (d : Datum) → SceneHolds s → IsTrue (may_name x)
    → IsTrue (program_fits [] q) → VariablesFit p.frame → EffectFits around (of_statement (fork x a q)) (fork_in s p x q d)
fork_fits around x a q s p (integer (pos n)) h named fits vars =
    of_if around (of_statement (fork x a q)) s h (has_ids s) _ _
    (of_named around (of_statement (fork x a q)) s h x _ _ named
    (h.0, task_put s.world.tasks (next_id s) _ ((named_variables p x (integer (next_id s)) named vars, (refl, fits)), tt) h.1)) h
fork_fits around x a q s p d h named fits vars = h

-- ---- statements

abbrev pub LoopsThere : List (Option Text) → ℕ → Pending → Type 0
LoopsThere names around p = (x : Option Text) → IsTrue (is_around names x) → loops_left x p.frame.pieces < around

statement_fit : (names : List (Option Text)) (around : ℕ) (t : Statement) (s : Scene) (p : Pending) (n : ℕ) (vs : List Datum) → SceneHolds s
    → IsTrue (statement_fits names t) → LoopsThere names around p → VariablesFit p.frame → OperateFits around (of_statement t) n vs
    → EffectFits around (of_statement t) (statement_effect s p t n vs)
statement_fit names around (evaluate a) s p n vs h i l vars k = of_one around (of_statement (evaluate a)) s h _ vs (λ v. h)
statement_fit names around (give a) s p n vs h i l vars k = of_one around (of_statement (give a)) s h _ vs (λ v. (refl, refl))
statement_fit names around give_zero s p n vs h i l vars k = (refl, refl)
statement_fit names around (branch bs q) s p n vs h i l vars k =
    of_if around (of_statement (branch bs q)) s h (is_odd n) _ _
    (of_one around (of_statement (branch bs q)) s h _ vs (λ v. of_if around (of_statement (branch bs q)) s h (is_true v) _ _ (branch_part around bs q n) (other_part_fits around bs q s (suc n) _ h)))
    h
statement_fit names around (for_each x a q) s p n vs h i l vars k = each_fits around x a q s vs h (first_holds (is_name x) _ i)
statement_fit names around (for_range x a b q) s p n vs h i l vars k =
    of_if around (of_statement (for_range x a b q)) s h (are_bounds vs) _ _
    (range_fits around x a b q s (range_turn_at n vs) h (first_holds (is_name x) _ i) (range_turn_fits around n vs)) h
statement_fit names around (repeat x a q) s p n vs h i l vars k = while_fits around x a q s n vs h
statement_fit names around (fork x a q) s p n vs h i l vars k =
    of_one around (of_statement (fork x a q)) s h _ vs (λ d. fork_fits around x a q s p d h (first_holds (may_name x) _ i)
    (second_holds (expr_fits false a) _ (second_holds (may_name x) _ i)) vars)
statement_fit names around (guarded q arms) s p n vs h i l vars k = guarded_fits around q arms s n vs h k
statement_fit names around (finished q r) s p n vs h i l vars k = finally_fits around q r s n vs h k
statement_fit names around (leave_loop x) s p n vs h i l vars k =
    (refl, less_is (loops_left x p.frame.pieces) around (l x (second_holds (may_name x) _ i)))
statement_fit names around (next_turn x) s p n vs h i l vars k =
    (refl, less_is (loops_left x p.frame.pieces) around (l x (second_holds (may_name x) _ i)))

pub effect_fits : NativesHold → (names : List (Option Text)) (around : ℕ) (c : Construct) (s : Scene) (p : Pending) (n : ℕ) (vs : List Datum) → SceneHolds s
    → ConstructFits names c → LoopsThere names around p → VariablesFit p.frame → OperateFits around c n vs → EffectFits around c (effect s p c n vs)
unfolding effect
effect_fits natives names around (of_expr a) s p n vs h i l vars k = expr_fit natives around i.0 a s p n vs h i.1 k
effect_fits natives names around (of_target t) s p n vs h i l vars k = h
effect_fits natives names around (of_default x a) s p n vs h i l vars k = of_one around (of_default x a) s h _ vs (λ v. (i.0, h))
effect_fits natives names around (of_statement t) s p n vs h i l vars k = statement_fit names around t s p n vs h i l vars k
effect_fits natives names around (of_program q) s p n vs h i l vars k = h
