-- A turn keeps what a world's objects, links and tasks agree on.
use Rattle.std.proofs.Common.{◌≤◌, arith, leb-true, ◌≡◌, ℕ, zero, suc, ◌+◌, ◌==◌, ◌||◌, ◌&&◌, Bool, true, false, List, [], ◌∷◌, ◌++◌, Option, Some, None, refl, IsTrue, if◌then◌else◌, ℤ, pos, negsuc}
use Rattle.std.specs.Prelude.{codes, drop, option_map}
use Rattle.spec_value.specs.Datum.{Datum, integer, object, text, error, list, Data, to_list, Text, same_text, is_true, type_mismatch, too_many_calls, limit_exceeded}
use Rattle.spec_value.specs.Answer.{Answer, gives, raises, is_allowed, limited_answer}
use Rattle.spec_value.specs.Scatter.{Scattering, gets, refuses, scattered}
use Rattle.spec_value.specs.PureBuiltins.{PureFunction, call_value}
use Rattle.spec_value.specs.Table.{Named}
use Rattle.spec_program.specs.Tree.{Expr, literal, variable, own_length, unary, binary, both, either, conditional, listing, call, property, verb_call, index, range, caught, assignment, scatter, no_arguments, argument, splice, Codes, any_code, codes_in, Fallback, the_code, instead, Target, to_variable, to_property, to_index, to_range, Items, no_items, required, optional, remaining, defaulted, Statement, evaluate, give, give_zero, branch, for_each, for_range, repeat, fork, guarded, finished, leave_loop, next_turn, Program, Arms, no_arms, except}
use Rattle.spec_program.specs.Construct.{Construct, of_expr, of_target, of_default, of_statement, of_program, Piece}
use Rattle.spec_program.specs.Place.{Part, parts, nth, statement_parts, arity}
use Rattle.spec_world.specs.World.{Object, Native, NativeName, move_native, create_native, recycle_native, eval_native, Entry, frame_entry, native_entry, Call, Task, object_at}
use Rattle.spec_world.specs.WellFormed.{is_moment, goes_on_after_frame, frames, native_fits}
use Rattle.spec_world.specs.Agreeing.{native_holds, EntriesHold}
use Rattle.std.specs.List.{list_all}
use Rattle.spec_value.proofs.Entries.{second_holds, both_hold}
use Rattle.spec_world.specs.VerbsSought.{Sought, find_verb}
use Rattle.spec_world.proofs.WorldsKept.{task_put}
use Rattle.spec_moo.specs.Scene.{Scene, in_world, has_ids, next_id, id_taken, moment_after, enqueued}
use Rattle.spec_moo.specs.Properties.{row_of, Written, wrote, refused, write}
use Rattle.spec_moo.specs.Pending.{Focus, begin, hand, aim, operate, next, leave, Pending, done, raised, out_of_ticks, waiting, killed, Turned, goes_on, halts, caller_of}
use Rattle.spec_moo.specs.Leaving.{Leaving, returned, failed, broken, continued, Failure, failure, BodyLeft, ended, left_by, read_left, takes_code}
use Rattle.spec_moo.specs.Held.{way_at, held_at_first, held_with}
use Rattle.spec_moo.specs.NativeEffect.{Caller, NativeEffect, answers, complains, begins, waits, dies, becomes}
use Rattle.spec_moo.specs.Natives.{or_later, native, stage_of, native_turn}
use Rattle.spec_moo.specs.Natives.Values.{value_rows, values}
use Rattle.spec_moo.specs.Natives.Objects.{objects}
use Rattle.spec_moo.specs.Natives.Properties.{properties}
use Rattle.spec_moo.specs.Natives.Verbs.{verbs}
use Rattle.spec_moo.specs.Natives.Tasks.{tasks}
use Rattle.spec_moo.specs.Effect.{Effect, hands, errs, takes, ends, leaves, stays, sets, calls, natively, answered, sets_named, on_one, on_two, on_three}
use Rattle.spec_moo.specs.Effects.Access.{with_index, with_range, target_value, Stored, in_variable, in_property, not_stored, property_stored, whole_stored, stored, stored_effect}
use Rattle.spec_moo.specs.Effects.Operators.{conditional_effect}
use Rattle.spec_moo.specs.Effects.Calls.{with_arguments, found_effect, on_object_effect, verb_effect, above_definer, function_effect}
use Rattle.spec_moo.specs.Effects.Branches.{is_odd, part_or_end, branch_effect}
use Rattle.spec_moo.specs.Effects.Loops.{Turn, turn_effect, list_turn, list_loop_effect, are_bounds, range_turn_at, while_effect, loop_catches}
use Rattle.spec_moo.specs.Effects.Handlers.{code_count, codes_known, without_codes, fallback_effect, expression_catches, ArmPoint, one_code, last_code, one_program, guarded_point, codes_from, point_effect, guarded_effect, handler_for, body_catches, go_on_leaving, finally_effect}
use Rattle.spec_moo.specs.Effects.Scatter.{item_kinds, item_count, given, all_given, missing, default_or_end, assigned, defaults_after, scatter_effect}
use Rattle.spec_moo.specs.Effects.Forks.{with_named, forked_task, fork_after, fork_in}
use Rattle.spec_moo.specs.Tables.{has_step, effect, expr_effect, statement_effect, catches}
use Rattle.spec_moo.specs.Turn.{on_tree, on_part, at_point, reach, always_raises, failing, has_room, entering, native_answered, native_effected, with_variable, effected, caught_by, passing, in_frame, back_in_native, back_with, raised_into, out_of_verb, receiving, turn_on, turn}
use Rattle.spec_moo.specs.Standing.{StandsStill}
use Rattle.spec_moo.specs.Worlds.{IsUnderWay, IdFits, SceneAgrees, MayWait, NativeKeeps, TurnedKeeps}
use Rattle.spec_moo.proofs.NativeWorlds.{SomeKeeps}
use Rattle.spec_moo.proofs.ObjectRows.{objects_keep, stage_keeps}
use Rattle.spec_moo.proofs.PropertyRows.{properties_group, verbs_group, WrittenKeeps, write_keeps}
use Rattle.spec_moo.proofs.TaskRows.{id_in_range, taken, later_moment, tasks_group}
use Rattle.spec_moo.proofs.TurnsStay.{turns_stay}

-- the world's next number stays this one
module _ (fixed : ℕ) where
  -- ---- built-in functions

  values_keep : (s : Scene) (c : Caller) (name : Text) (args : List Datum) → SceneAgrees fixed s → SomeKeeps fixed (values s c name args)
  values_keep s c name args h = go (row_of value_rows name)
    where
      go : (o : Option PureFunction) → SomeKeeps fixed (option_map (λ f. answers s (call_value f args)) o)
      go None = tt
      go (Some f) = h

  or_keeps : (o : Option NativeEffect) (later : Text → NativeEffect) (name : Text) → SomeKeeps fixed o → NativeKeeps fixed (later name)
      → NativeKeeps fixed (or_later o later name)
  or_keeps None later name h k = k
  or_keeps (Some e) later name h k = h

  pub natives_keep : (s : Scene) (c : Caller) (name : Text) (args : List Datum) → SceneAgrees fixed s → NativeKeeps fixed (native s c name args)
  unfolding native
  natives_keep s c name args h =
      or_keeps (values s c name args) _ name (values_keep s c name args h)
      (or_keeps (objects s c name args) _ name (objects_keep fixed s c name args h)
      (or_keeps (properties s c name args) _ name (properties_group fixed s c name args h)
      (or_keeps (verbs s c name args) _ name (verbs_group fixed s c name args h)
      (or_keeps (tasks s c name args) _ name (tasks_group fixed s c name args h) h))))

  pub stages_keep : (s : Scene) (c : Caller) (n : Native) (v : Datum) → SceneAgrees fixed s → NativeKeeps fixed (native_turn s c n v)
  unfolding native_turn
  stages_keep s c n v h = go n.name
    where
      go : (name : NativeName) → NativeKeeps fixed (stage_of s c name n v)
      go move_native = stage_keeps fixed s c n v h
      go create_native = stage_keeps fixed s c n v h
      go recycle_native = stage_keeps fixed s c n v h
      go eval_native = h

  -- ---- effects

  unfoldable pub EffectKeeps : Effect → Type 0
  EffectKeeps (hands s v) = SceneAgrees fixed s
  EffectKeeps (errs s f) = SceneAgrees fixed s
  EffectKeeps (takes n vs) = Unit {0}
  EffectKeeps (ends s) = SceneAgrees fixed s
  EffectKeeps (leaves l) = Unit {0}
  EffectKeeps stays = Unit {0}
  EffectKeeps (sets x v e) = EffectKeeps e
  EffectKeeps (calls d body args) = Unit {0}
  EffectKeeps (natively e) = NativeKeeps fixed e

  value : (s : Scene) (v : Datum) → SceneAgrees fixed s → EffectKeeps (hands s v)
  unfolding EffectKeeps
  value s v h = h

  wrong : (s : Scene) (f : Failure) → SceneAgrees fixed s → EffectKeeps (errs s f)
  unfolding EffectKeeps
  wrong s f h = h

  part : (n : ℕ) (vs : List Datum) → EffectKeeps (takes n vs)
  unfolding EffectKeeps
  part n vs = tt

  the_end : (s : Scene) → SceneAgrees fixed s → EffectKeeps (ends s)
  unfolding EffectKeeps
  the_end s h = h

  leaving : (l : Leaving) → EffectKeeps (leaves l)
  unfolding EffectKeeps
  leaving l = tt

  first : (x : Text) (v : Datum) (e : Effect) → EffectKeeps e → EffectKeeps (sets x v e)
  unfolding EffectKeeps
  first x v e h = h

  choice : (b : Bool) (e f : Effect) → EffectKeeps e → EffectKeeps f → EffectKeeps (if b then e else f)
  choice true e f h k = h
  choice false e f h k = k

  answer : (s : Scene) (a : Answer) → SceneAgrees fixed s → EffectKeeps (answered s a)
  answer s (gives v) h = value s v h
  answer s (raises e) h = wrong s (failure e) h

  of_named : (x : Option Text) (v : Datum) (e : Effect) → EffectKeeps e → EffectKeeps (sets_named x v e)
  of_named None v e h = h
  of_named (Some x) v e h = first x v e h

  one : (s : Scene) (f : Datum → Effect) (vs : List Datum) → SceneAgrees fixed s → ((v : Datum) → EffectKeeps (f v)) → EffectKeeps (on_one s f vs)
  one s f [] h k = wrong s _ h
  one s f (v ∷ []) h k = k v
  one s f (v ∷ u ∷ vs) h k = wrong s _ h

  two : (s : Scene) (f : Datum → Datum → Effect) (vs : List Datum) → SceneAgrees fixed s → ((v u : Datum) → EffectKeeps (f v u)) → EffectKeeps (on_two s f vs)
  two s f [] h k = wrong s _ h
  two s f (v ∷ []) h k = wrong s _ h
  two s f (v ∷ u ∷ []) h k = k v u
  two s f (v ∷ u ∷ z ∷ vs) h k = wrong s _ h

  three : (s : Scene) (f : Datum → Datum → Datum → Effect) (vs : List Datum) → SceneAgrees fixed s → ((v u z : Datum) → EffectKeeps (f v u z))
      → EffectKeeps (on_three s f vs)
  three s f [] h k = wrong s _ h
  three s f (v ∷ []) h k = wrong s _ h
  three s f (v ∷ u ∷ []) h k = wrong s _ h
  three s f (v ∷ u ∷ z ∷ []) h k = k v u z
  three s f (v ∷ u ∷ z ∷ y ∷ vs) h k = wrong s _ h

  -- ---- expressions

  found_keeps : (s : Scene) (p : Pending) (o : ℤ) (word : Text) (xs : Data) (f : Option Sought) → SceneAgrees fixed s
      → EffectKeeps (found_effect s p o word xs f)
  unfolding EffectKeeps
  found_keeps s p o word xs None h = h
  found_keeps s p o word xs (Some f) h = tt

  object_keeps : (s : Scene) (p : Pending) (o : ℤ) (word : Text) (xs : Data) (x : Option Object) → SceneAgrees fixed s
      → EffectKeeps (on_object_effect s p o word xs x)
  object_keeps s p o word xs None h = wrong s _ h
  object_keeps s p o word xs (Some x) h = found_keeps s p o word xs (find_verb s.world o word) h

  verb_keeps : (s : Scene) (p : Pending) (x y : Datum) (xs : Data) → SceneAgrees fixed s → EffectKeeps (verb_effect s p x y xs)
  verb_keeps s p (object o) (text word) xs h = object_keeps s p o word xs (object_at s.world o) h
  verb_keeps s p (object o) (integer n) xs h = wrong s _ h
  verb_keeps s p (object o) (object n) xs h = wrong s _ h
  verb_keeps s p (object o) (error n) xs h = wrong s _ h
  verb_keeps s p (object o) (list n) xs h = wrong s _ h
  verb_keeps s p (integer o) y xs h = wrong s _ h
  verb_keeps s p (text o) y xs h = wrong s _ h
  verb_keeps s p (error o) y xs h = wrong s _ h
  verb_keeps s p (list o) y xs h = wrong s _ h

  function_keeps : (s : Scene) (p : Pending) (g : Text) (xs : Data) → SceneAgrees fixed s → EffectKeeps (function_effect s p g xs)
  unfolding EffectKeeps
  function_keeps s p g xs h =
      choice (same_text g (codes "pass")) _ _
      (found_keeps s p _ _ xs (above_definer s.world p.frame.call.verb (object_at s.world p.frame.call.definer)) h)
      (natives_keep s (caller_of p) g (to_list xs) h)

  arguments_keep : (s : Scene) (f : Data → Effect) (l : Datum) → SceneAgrees fixed s → ((xs : Data) → EffectKeeps (f xs)) → EffectKeeps (with_arguments s f l)
  arguments_keep s f (list xs) h k = choice (is_allowed (list xs)) _ _ (k xs) (wrong s _ h)
  arguments_keep s f (integer n) h k = wrong s _ h
  arguments_keep s f (object n) h k = wrong s _ h
  arguments_keep s f (text n) h k = wrong s _ h
  arguments_keep s f (error n) h k = wrong s _ h

  abbrev StoredKeeps : Scene → Stored → Type 0
  StoredKeeps s (in_variable x v) = Unit {0}
  StoredKeeps s (in_property w) = SceneAgrees fixed (in_world s w)
  StoredKeeps s (not_stored e) = Unit {0}

  property_keeps : (s : Scene) (r : Written) → WrittenKeeps fixed s r → StoredKeeps s (property_stored r)
  property_keeps s (wrote w) h = h
  property_keeps s (refused e) h = tt

  whole_keeps : (s : Scene) (store : Datum → Stored) (a : Answer) → ((x : Datum) → StoredKeeps s (store x)) → StoredKeeps s (whole_stored store a)
  whole_keeps s store (gives x) h = h x
  whole_keeps s store (raises e) h = tt

  stored_keeps : (s : Scene) (who : ℤ) (vars : Named Datum) (t : Target) (vs : List Datum) (v : Datum) → SceneAgrees fixed s
      → StoredKeeps s (stored s.world who vars t vs v)
  stored_keeps s who vars (to_variable x) vs v h = tt
  stored_keeps s who vars (to_property o name) [] v h = tt
  stored_keeps s who vars (to_property o name) (a ∷ []) v h = tt
  stored_keeps s who vars (to_property o name) (a ∷ b ∷ vs) v h = property_keeps s (write s.world who a b v) (write_keeps fixed s who a b v h)
  stored_keeps s who vars (to_index t i) vs v h =
      whole_keeps s (λ x. stored s.world who vars t vs x) (with_index (target_value s.world who vars t vs) (drop (arity t) vs) v) (λ x. stored_keeps s who vars t vs x h)
  stored_keeps s who vars (to_range t a b) vs v h =
      whole_keeps s (λ x. stored s.world who vars t vs x) (with_range (target_value s.world who vars t vs) (drop (arity t) vs) v) (λ x. stored_keeps s who vars t vs x h)

  assigned_keeps : (s : Scene) (v : Datum) (r : Stored) → SceneAgrees fixed s → StoredKeeps s r → EffectKeeps (stored_effect s v r)
  assigned_keeps s v (in_variable x u) h k = first x u _ (value s v h)
  assigned_keeps s v (in_property w) h k = value (in_world s w) v k
  assigned_keeps s v (not_stored e) h k = wrong s _ h

  given_keeps : (x : Text) (o : Option Datum) (e : Effect) → EffectKeeps e → EffectKeeps (given x o e)
  given_keeps x None e h = h
  given_keeps x (Some v) e h = first x v e h

  all_given_keep : (xs : Items) (vs : List (Option Datum)) (e : Effect) → EffectKeeps e → EffectKeeps (all_given xs vs e)
  all_given_keep no_items vs e h = h
  all_given_keep (required x more) [] e h = h
  all_given_keep (optional x more) [] e h = h
  all_given_keep (remaining x more) [] e h = h
  all_given_keep (defaulted x d more) [] e h = h
  all_given_keep (required x more) (v ∷ vs) e h = given_keeps x v _ (all_given_keep more vs e h)
  all_given_keep (optional x more) (v ∷ vs) e h = given_keeps x v _ (all_given_keep more vs e h)
  all_given_keep (remaining x more) (v ∷ vs) e h = given_keeps x v _ (all_given_keep more vs e h)
  all_given_keep (defaulted x d more) (v ∷ vs) e h = given_keeps x v _ (all_given_keep more vs e h)

  defaults_keep : (s : Scene) (l : Datum) (o : Option ℕ) → SceneAgrees fixed s → EffectKeeps (default_or_end s l o)
  defaults_keep s l None h = value s l h
  defaults_keep s l (Some n) h = part _ _

  scattered_keep : (s : Scene) (xs : Items) (l : Datum) (r : Scattering) → SceneAgrees fixed s → EffectKeeps (assigned s xs l r)
  scattered_keep s xs l (refuses c) h = wrong s _ h
  scattered_keep s xs l (gets vs) h = all_given_keep xs vs _ (defaults_keep s l (missing 0 xs vs) h)

  later_keep : (s : Scene) (xs : Items) (n : ℕ) (l : Datum) (r : Scattering) → SceneAgrees fixed s → EffectKeeps (defaults_after s xs n l r)
  later_keep s xs n l (refuses c) h = wrong s _ h
  later_keep s xs n l (gets vs) h = defaults_keep s l (missing n xs vs) h

  scatter_keeps : (s : Scene) (xs : Items) (n : ℕ) (vs : List Datum) → SceneAgrees fixed s → EffectKeeps (scatter_effect s xs n vs)
  scatter_keeps s xs zero vs h = part _ _
  scatter_keeps s xs (suc n) vs h =
      one s _ vs h (λ l. choice (suc n == suc (item_count xs)) _ _ (scattered_keep s xs l (scattered (item_kinds xs) l) h) (later_keep s xs (suc n) l (scattered (item_kinds xs) l) h))

  conditional_keeps : (s : Scene) (n : ℕ) (vs : List Datum) → SceneAgrees fixed s → EffectKeeps (conditional_effect s n vs)
  conditional_keeps s zero vs h = one s _ vs h (λ v. value s v h)
  conditional_keeps s (suc zero) vs h = one s _ vs h (λ v. choice (is_true v) _ _ (part 2 []) (part 3 []))
  conditional_keeps s (suc (suc n)) vs h = one s _ vs h (λ v. value s v h)

  codes_keep : (s : Scene) (n : ℕ) (vs : List Datum) → SceneAgrees fixed s → EffectKeeps (without_codes s n vs)
  codes_keep s zero vs h = part _ _
  codes_keep s (suc n) vs h = two s _ vs h (λ c v. value s v h)

  expr_keeps : (e : Expr) (s : Scene) (p : Pending) (n : ℕ) (vs : List Datum) → SceneAgrees fixed s → EffectKeeps (expr_effect s p e n vs)
  expr_keeps (literal v) s p n vs h = value s v h
  expr_keeps (variable x) s p n vs h = answer s _ h
  expr_keeps own_length s p n vs h = answer s _ h
  expr_keeps (unary u a) s p n vs h = one s _ vs h (λ x. answer s _ h)
  expr_keeps (binary op a b) s p n vs h = two s _ vs h (λ x y. answer s _ h)
  expr_keeps (both a b) s p n vs h = one s _ vs h (λ x. choice (is_true x) _ _ (part 2 []) (value s x h))
  expr_keeps (either a b) s p n vs h = one s _ vs h (λ x. choice (is_true x) _ _ (value s x h) (part 2 []))
  expr_keeps (conditional c a b) s p n vs h = conditional_keeps s n vs h
  expr_keeps (listing es) s p n vs h = one s _ vs h (λ x. answer s _ h)
  expr_keeps (call f es) s p n vs h = one s _ vs h (λ l. arguments_keep s _ l h (λ xs. function_keeps s p f xs h))
  expr_keeps (property o q) s p n vs h = two s _ vs h (λ x y. answer s _ h)
  expr_keeps (verb_call o v es) s p n vs h = three s _ vs h (λ x y l. arguments_keep s _ l h (λ xs. verb_keeps s p x y xs h))
  expr_keeps (index x i) s p n vs h = two s _ vs h (λ x y. answer s _ h)
  expr_keeps (range x a b) s p n vs h = three s _ vs h (λ x y z. answer s _ h)
  expr_keeps (caught e codes d) s p n vs h = choice (n == codes_known codes) _ _ (part 1 _) (codes_keep s n vs h)
  expr_keeps (assignment t e) s p n vs h =
      one s _ (drop (arity t) vs) h (λ v. assigned_keeps s v (stored s.world p.frame.call.programmer p.frame.variables t vs v) h (stored_keeps s p.frame.call.programmer p.frame.variables t vs v h))
  expr_keeps (scatter xs e) s p n vs h = scatter_keeps s xs n vs h

  -- ---- statements

  other_part : (s : Scene) (n : ℕ) (o : Option Part) → SceneAgrees fixed s → EffectKeeps (part_or_end s n o)
  other_part s n None h = the_end s h
  other_part s n (Some x) h = part n []

  turn_keeps : (s : Scene) (x : Text) (body : ℕ) (o : Turn) → SceneAgrees fixed s → EffectKeeps (turn_effect s x body o)
  turn_keeps s x body None h = the_end s h
  turn_keeps s x body (Some o) h = first x _ _ (part body _)

  list_keeps : (s : Scene) (x : Text) (vs : List Datum) → SceneAgrees fixed s → EffectKeeps (list_loop_effect s x vs)
  list_keeps s x [] h = wrong s _ h
  list_keeps s x (list xs ∷ vs) h = turn_keeps s x 2 (list_turn (list xs ∷ vs)) h
  list_keeps s x (integer n ∷ vs) h = wrong s _ h
  list_keeps s x (object n ∷ vs) h = wrong s _ h
  list_keeps s x (text n ∷ vs) h = wrong s _ h
  list_keeps s x (error n ∷ vs) h = wrong s _ h

  while_keeps : (s : Scene) (n : ℕ) (vs : List Datum) → SceneAgrees fixed s → EffectKeeps (while_effect s n vs)
  while_keeps s zero vs h = part 1 []
  while_keeps s (suc zero) vs h = one s _ vs h (λ v. choice (is_true v) _ _ (part 2 []) (the_end s h))
  while_keeps s (suc (suc n)) vs h = part 1 []

  -- the body is queued as a task of its own
  fork_keeps : (s : Scene) (p : Pending) (x : Option Text) (b : Program) (n : ℕ) → SceneAgrees fixed s → has_ids s ≡ true → EffectKeeps (fork_after s p x b n)
  fork_keeps s p x b n h has =
      of_named x (integer (next_id s)) (ends (enqueued (id_taken s) (next_id s) t)) (the_end (enqueued (id_taken s) (next_id s) t) after)
    where
      t : Task
      t = forked_task p (moment_after s n) (with_named x (integer (next_id s)) p.frame.variables) b

      after : SceneAgrees fixed (enqueued (id_taken s) (next_id s) t)
      after =
          let k = taken fixed s s.task h has h.own in
          let w = task_put s.world (next_id s) t h.world (id_in_range fixed s h has) (fits (later_moment fixed s n)) tt (refl, (omega arith, refl)) (λ c l. cc) in
          record { world = w; number = k.number; before = k.before; moment = k.moment; ids = k.ids; own = go s.task h.own; next = h.next }
        where
          fits : IsTrue (is_moment (moment_after s n)) → IsTrue (is_moment (moment_after s n) && true)
          fits m = both_hold _ true m refl

          go : (i : Option ℤ) → IdFits s.world i → IdFits (enqueued (id_taken s) (next_id s) t).world i
          go None m = tt
          go (Some i) m = m

  fork_in_keeps : (s : Scene) (p : Pending) (x : Option Text) (b : Program) (d : Datum) → SceneAgrees fixed s → EffectKeeps (fork_in s p x b d)
  fork_in_keeps s p x b (integer (pos n)) h = go (has_ids s) refl
    where
      go : (r : Bool) → has_ids s ≡ r → EffectKeeps (if r then fork_after s p x b n else errs s (failure limit_exceeded))
      go true e = fork_keeps s p x b n h e
      go false e = wrong s _ h
  fork_in_keeps s p x b (integer (negsuc n)) h = wrong s _ h
  fork_in_keeps s p x b (object n) h = wrong s _ h
  fork_in_keeps s p x b (text n) h = wrong s _ h
  fork_in_keeps s p x b (error n) h = wrong s _ h
  fork_in_keeps s p x b (list n) h = wrong s _ h

  next_codes : (n : ℕ) (held : List Datum) (arms : Arms) → EffectKeeps (codes_from n held arms)
  next_codes n held no_arms = part 1 held
  next_codes n held (except x any_code p later) = next_codes (suc n) _ later
  next_codes n held (except x (codes_in no_arguments) p later) = next_codes (suc n) _ later
  next_codes n held (except x (codes_in (argument e es)) p later) = part (suc n) _
  next_codes n held (except x (codes_in (splice e es)) p later) = part (suc n) _

  point_keeps : (s : Scene) (n : ℕ) (vs : List Datum) (a : ArmPoint) → SceneAgrees fixed s → EffectKeeps (point_effect s n vs a)
  point_keeps s n vs (last_code later) h = next_codes n vs later
  point_keeps s n vs one_code h = the_end s h
  point_keeps s n vs one_program h = the_end s h

  guarded_keeps : (s : Scene) (arms : Arms) (n : ℕ) (vs : List Datum) → SceneAgrees fixed s → EffectKeeps (guarded_effect s arms n vs)
  guarded_keeps s arms zero vs h = next_codes 1 vs arms
  guarded_keeps s arms (suc n) vs h = point_keeps s (suc (suc n)) vs (guarded_point arms (suc n)) h

  going_on_keeps : (s : Scene) (o : Option BodyLeft) → SceneAgrees fixed s → EffectKeeps (go_on_leaving s o)
  going_on_keeps s None h = the_end s h
  going_on_keeps s (Some ended) h = the_end s h
  going_on_keeps s (Some (left_by l)) h = leaving l

  finally_keeps : (s : Scene) (n : ℕ) (vs : List Datum) → SceneAgrees fixed s → EffectKeeps (finally_effect s n vs)
  finally_keeps s zero vs h = part 1 []
  finally_keeps s (suc zero) vs h = part 2 _
  finally_keeps s (suc (suc n)) vs h = one s _ vs h (λ d. going_on_keeps s (read_left d) h)

  branch_keeps : (s : Scene) (ps : List Part) (n : ℕ) (vs : List Datum) → SceneAgrees fixed s → EffectKeeps (branch_effect s ps n vs)
  branch_keeps s ps n vs h =
      choice (is_odd n) _ _ (one s _ vs h (λ v. choice (is_true v) _ _ (part (suc n) []) (other_part s (suc (suc n)) (nth ps (suc n)) h))) (the_end s h)

  statement_keeps : (t : Statement) (s : Scene) (p : Pending) (n : ℕ) (vs : List Datum) → SceneAgrees fixed s → EffectKeeps (statement_effect s p t n vs)
  statement_keeps (evaluate e) s p n vs h = one s _ vs h (λ v. the_end s h)
  statement_keeps (give e) s p n vs h = one s _ vs h (λ v. leaving _)
  statement_keeps give_zero s p n vs h = leaving _
  statement_keeps (branch bs q) s p n vs h = branch_keeps s (statement_parts (branch bs q)) n vs h
  statement_keeps (for_each x e b) s p n vs h = list_keeps s x vs h
  statement_keeps (for_range x a c b) s p n vs h = choice (are_bounds vs) _ _ (turn_keeps s x 3 (range_turn_at n vs) h) (wrong s _ h)
  statement_keeps (repeat x c b) s p n vs h = while_keeps s n vs h
  statement_keeps (fork x e b) s p n vs h = one s _ vs h (λ d. fork_in_keeps s p x b d h)
  statement_keeps (guarded b arms) s p n vs h = guarded_keeps s arms n vs h
  statement_keeps (finished b q) s p n vs h = finally_keeps s n vs h
  statement_keeps (leave_loop x) s p n vs h = leaving _
  statement_keeps (next_turn x) s p n vs h = leaving _

  effect_keeps : (s : Scene) (p : Pending) (c : Construct) (n : ℕ) (vs : List Datum) → SceneAgrees fixed s → EffectKeeps (effect s p c n vs)
  unfolding effect
  effect_keeps s p (of_expr e) n vs h = expr_keeps e s p n vs h
  effect_keeps s p (of_default x e) n vs h = one s _ vs h (λ v. first x v _ (the_end s h))
  effect_keeps s p (of_statement t) n vs h = statement_keeps t s p n vs h
  effect_keeps s p (of_target t) n vs h = the_end s h
  effect_keeps s p (of_program q) n vs h = the_end s h

  -- ---- leavings that are caught

  abbrev CaughtKeeps : Option Effect → Type 0
  CaughtKeeps None = Unit {0}
  CaughtKeeps (Some e) = EffectKeeps e

  if_caught : (b : Bool) (x y : Option Effect) → CaughtKeeps x → CaughtKeeps y → CaughtKeeps (if b then x else y)
  if_caught true x y h k = h
  if_caught false x y h k = k

  fallback_keeps : (s : Scene) (n : ℕ) (d : Fallback) (c : Datum) → SceneAgrees fixed s → EffectKeeps (fallback_effect s n d c)
  fallback_keeps s n the_code c h = value s c h
  fallback_keeps s n (instead e) c h = part n []

  expression_keeps : (s : Scene) (codes : Codes) (d : Fallback) (held : List Datum) (l : Leaving) → SceneAgrees fixed s
      → CaughtKeeps (expression_catches s codes d held l)
  expression_keeps s codes d [] l h = tt
  expression_keeps s codes d (c ∷ []) (failed f) h =
      if_caught (takes_code c f.code) (Some (fallback_effect s (suc (suc (code_count codes))) d f.code)) None (fallback_keeps s (suc (suc (code_count codes))) d f.code h) tt
  expression_keeps s codes d (c ∷ []) (returned v) h = tt
  expression_keeps s codes d (c ∷ []) (broken k) h = tt
  expression_keeps s codes d (c ∷ []) (continued k) h = tt
  expression_keeps s codes d (c ∷ u ∷ vs) l h = tt

  loop_keeps : (s : Scene) (l : Leaving) → SceneAgrees fixed s → CaughtKeeps (loop_catches s l)
  unfolding EffectKeeps
  loop_keeps s (broken zero) h = h
  loop_keeps s (broken (suc k)) h = tt
  loop_keeps s (continued zero) h = tt
  loop_keeps s (continued (suc k)) h = tt
  loop_keeps s (returned v) h = tt
  loop_keeps s (failed f) h = tt

  handler_keeps : (n : ℕ) (arms : Arms) (held : List Datum) (f : Failure) → CaughtKeeps (handler_for n arms held f)
  handler_keeps n no_arms held f = tt
  handler_keeps n (except x codes p later) [] f = tt
  handler_keeps n (except x codes p later) (c ∷ held) f =
      if_caught (takes_code c f.code) (Some (sets_named x _ (takes (suc (n + code_count codes)) []))) _ (of_named x _ _ (part _ [])) (handler_keeps (suc (n + code_count codes)) later held f)

  body_keeps : (arms : Arms) (held : List Datum) (l : Leaving) → CaughtKeeps (body_catches arms held l)
  body_keeps arms held (failed f) = handler_keeps 1 arms held f
  body_keeps arms held (returned v) = tt
  body_keeps arms held (broken k) = tt
  body_keeps arms held (continued k) = tt

  catches_keep : (c : Construct) (s : Scene) (n : ℕ) (held : List Datum) (l : Leaving) → SceneAgrees fixed s → CaughtKeeps (catches s c n held l)
  catches_keep (of_expr (caught e codes d)) s (suc zero) held l h = expression_keeps s codes d held l h
  catches_keep (of_statement (for_each x e b)) s (suc (suc zero)) held l h = loop_keeps s l h
  catches_keep (of_statement (for_range x a c b)) s (suc (suc (suc zero))) held l h = loop_keeps s l h
  catches_keep (of_statement (repeat x c b)) s (suc (suc zero)) held l h = loop_keeps s l h
  catches_keep (of_statement (guarded b arms)) s (suc zero) held l h = body_keeps arms held l
  catches_keep (of_statement (finished b q)) s (suc zero) held l h = part 2 _
  catches_keep c s n held l h = tt

  -- ---- turns

  abbrev Kept : Turned → Type 0
  Kept (goes_on s p) = SceneAgrees fixed s
  Kept (halts s (waiting why es)) = SceneAgrees fixed s × MayWait s.world why
  Kept (halts s why) = SceneAgrees fixed s

  part_keeps : (s : Scene) (p : Pending) (c : Construct) (n : ℕ) (vs : List Datum) (ps : List Piece) (o : Option Part) → SceneAgrees fixed s
      → Kept (on_part s p c n vs ps o)
  part_keeps s p c n vs ps None h = h
  part_keeps s p c n vs ps (Some x) h = go x.tree
    where
      go : (t : Option Construct) → Kept (on_tree s p c n vs ps t)
      go None = h
      go (Some d) = h

  reach_keeps : (s : Scene) (p : Pending) (c : Construct) (n : ℕ) (vs : List Datum) (ps : List Piece) → SceneAgrees fixed s → Kept (reach s p c n vs ps)
  reach_keeps s p c n vs ps h = go (has_step c n)
    where
      go : (b : Bool) → Kept (at_point s p c n vs ps b)
      go true = h
      go false = part_keeps s p c n vs ps (nth (parts c) n) h

  turned_if : (b : Bool) (t u : Turned) → Kept t → Kept u → Kept (if b then t else u)
  turned_if true t u h k = h
  turned_if false t u h k = k

  failing_keeps : (s : Scene) (p : Pending) (c : Construct) (ps : List Piece) (f : Failure) → SceneAgrees fixed s → Kept (failing s p c ps f)
  failing_keeps s p c ps f h = turned_if (p.frame.call.debug || always_raises c) _ _ h h

  entering_keeps : (s : Scene) (p : Pending) (c : Construct) (ps : List Piece) (between : List Entry) (d : Call) (body : Program) (args : Data)
      → SceneAgrees fixed s → Kept (entering s p c ps between d body args)
  entering_keeps s p c ps between d body args h = turned_if (has_room p.outer) _ _ h (failing_keeps s p c ps (failure too_many_calls) h)

  answered_keeps : (s : Scene) (p : Pending) (c : Construct) (ps : List Piece) (a : Answer) → SceneAgrees fixed s → Kept (native_answered s p c ps a)
  answered_keeps s p c ps (gives v) h = h
  answered_keeps s p c ps (raises e) h = failing_keeps s p c ps (failure e) h

  native_keeps : (p : Pending) (c : Construct) (ps : List Piece) (e : NativeEffect) → NativeKeeps fixed e → Kept (native_effected p c ps e)
  unfolding native_effected
  native_keeps p c ps (answers s a) h = answered_keeps s p c ps (limited_answer a) h
  native_keeps p c ps (complains s f) h = failing_keeps s p c ps f h
  native_keeps p c ps (begins s n d body args) h = entering_keeps s p c ps (native_entry n ∷ []) d body args h.0
  native_keeps p c ps (waits s why) h = h
  native_keeps p c ps (dies s) h = h
  native_keeps p c ps (becomes s who) h = h

  effected_keeps : (s : Scene) (p : Pending) (c : Construct) (ps : List Piece) (e : Effect) → SceneAgrees fixed s → EffectKeeps e → Kept (effected s p c ps e)
  unfolding effected EffectKeeps
  effected_keeps s p c ps (hands t v) h k = k
  effected_keeps s p c ps (errs t f) h k = failing_keeps t p c ps f k
  effected_keeps s p c ps (takes zero vs) h k = h
  effected_keeps s p c ps (takes (suc n) vs) h k = part_keeps s p c n vs ps (nth (parts c) n) h
  effected_keeps s p c ps (ends t) h k = k
  effected_keeps s p c ps (leaves l) h k = h
  effected_keeps s p c ps stays h k = h
  effected_keeps s p c ps (sets x v e) h k = effected_keeps s (with_variable p x v) c ps e h k
  effected_keeps s p c ps (calls d body args) h k = entering_keeps s p c ps [] d body args h
  effected_keeps s p c ps (natively e) h k = native_keeps p c ps e k

  caught_keeps : (s : Scene) (p : Pending) (q : Piece) (ps : List Piece) (e : Effect) → SceneAgrees fixed s → EffectKeeps e → Kept (caught_by s p q ps e)
  caught_keeps s p q ps stays h k = reach_keeps s p q.construct q.part q.held ps h
  caught_keeps s p q ps e h k = effected_keeps s p q.construct ps e h k

  passing_keeps : (s : Scene) (p : Pending) (l : Leaving) (q : Piece) (ps : List Piece) (o : Option Effect) → SceneAgrees fixed s → CaughtKeeps o
      → Kept (passing s p l q ps o)
  passing_keeps s p l q ps None h k = h
  passing_keeps s p l q ps (Some e) h k = caught_keeps s p q ps e h k

  native_back : (s : Scene) (p : Pending) (n : Native) (v : Datum) (es : List Entry) → SceneAgrees fixed s → Kept (back_in_native s p n v es)
  native_back s p n v [] h = h
  native_back s p n v (native_entry m ∷ es) h = h
  native_back s p n v (frame_entry f ∷ es) h =
      native_keeps (in_frame p f es) (of_expr (literal v)) f.pieces (native_turn s (caller_of (in_frame p f es)) n v) (stages_keep s (caller_of (in_frame p f es)) n v h)

  value_back : (s : Scene) (p : Pending) (v : Datum) (es : List Entry) → SceneAgrees fixed s → Kept (back_with s p v es)
  value_back s p v [] h = h
  value_back s p v (frame_entry f ∷ es) h = h
  value_back s p v (native_entry n ∷ es) h = native_back s p n v es h

  error_back : (s : Scene) (p : Pending) (f : Failure) (es : List Entry) → SceneAgrees fixed s → Kept (raised_into s p f es)
  error_back s p f [] h = h
  error_back s p f (frame_entry g ∷ es) h = h
  error_back s p f (native_entry n ∷ es) h = error_back s p f es h

  out_keeps : (s : Scene) (p : Pending) (l : Leaving) → SceneAgrees fixed s → Kept (out_of_verb s p l)
  out_keeps s p (returned v) h = value_back s p v p.outer h
  out_keeps s p (failed f) h = error_back s p f p.outer h
  out_keeps s p (broken k) h = value_back s p (integer (pos 0)) p.outer h
  out_keeps s p (continued k) h = value_back s p (integer (pos 0)) p.outer h

  receiving_keeps : (s : Scene) (p : Pending) (q : Piece) (ps : List Piece) (vs : Option (List Datum)) → SceneAgrees fixed s → Kept (receiving s p q ps vs)
  receiving_keeps s p q ps None h = failing_keeps s p q.construct ps (failure type_mismatch) h
  receiving_keeps s p q ps (Some vs) h = reach_keeps s p q.construct q.part vs ps h

  turn_on_keeps : (s : Scene) (p : Pending) (f : Focus) (ps : List Piece) → SceneAgrees fixed s → Kept (turn_on s p f ps)
  unfolding turn_on
  turn_on_keeps s p (begin c) ps h = reach_keeps s p c 0 (held_at_first c) ps h
  turn_on_keeps s p (operate c n vs) ps h = effected_keeps s p c ps (effect s p c n vs) h (effect_keeps s p c n vs h)
  turn_on_keeps s p (hand v) [] h = h
  turn_on_keeps s p (hand v) (q ∷ ps) h = receiving_keeps s p q ps (held_with (way_at q.construct q.part) q.held v) h
  turn_on_keeps s p (aim vs) [] h = h
  turn_on_keeps s p (aim vs) (q ∷ ps) h = reach_keeps s p q.construct q.part (q.held ++ vs) ps h
  turn_on_keeps s p next [] h = h
  turn_on_keeps s p next (q ∷ ps) h = reach_keeps s p q.construct q.part q.held ps h
  turn_on_keeps s p (leave l) [] h = out_keeps s p l h
  turn_on_keeps s p (leave l) (q ∷ ps) h = passing_keeps s p l q ps (catches s q.construct q.part q.held l) h (catches_keep q.construct s q.part q.held l h)

  -- ---- what waits for the innermost verb

  abbrev Outer : List Entry → Type 0
  Outer es = IsTrue (goes_on_after_frame es) × ((suc (frames es) ≤ 50) × IsTrue (list_all native_holds es))

  abbrev OuterKept : Turned → Type 0
  OuterKept (goes_on s p) = Outer p.outer
  OuterKept (halts s (waiting why es)) = EntriesHold es
  OuterKept (halts s why) = Unit {0}

  part_outer : (s : Scene) (p : Pending) (c : Construct) (n : ℕ) (vs : List Datum) (ps : List Piece) (o : Option Part) → Outer p.outer
      → OuterKept (on_part s p c n vs ps o)
  part_outer s p c n vs ps None h = h
  part_outer s p c n vs ps (Some x) h = go x.tree
    where
      go : (t : Option Construct) → OuterKept (on_tree s p c n vs ps t)
      go None = h
      go (Some d) = h

  reach_outer : (s : Scene) (p : Pending) (c : Construct) (n : ℕ) (vs : List Datum) (ps : List Piece) → Outer p.outer → OuterKept (reach s p c n vs ps)
  reach_outer s p c n vs ps h = go (has_step c n)
    where
      go : (b : Bool) → OuterKept (at_point s p c n vs ps b)
      go true = h
      go false = part_outer s p c n vs ps (nth (parts c) n) h

  outer_if : (b : Bool) (t u : Turned) → (b ≡ true → OuterKept t) → OuterKept u → OuterKept (if b then t else u)
  outer_if true t u h k = h refl
  outer_if false t u h k = k

  failing_outer : (s : Scene) (p : Pending) (c : Construct) (ps : List Piece) (f : Failure) → Outer p.outer → OuterKept (failing s p c ps f)
  failing_outer s p c ps f h = outer_if (p.frame.call.debug || always_raises c) _ _ (λ e. h) h

  called_outer : (s : Scene) (p : Pending) (c : Construct) (ps : List Piece) (d : Call) (body : Program) (args : Data) → Outer p.outer
      → OuterKept (entering s p c ps [] d body args)
  called_outer s p c ps d body args h =
      outer_if (has_room p.outer) _ _ (λ e. let room : suc (frames p.outer) ≤ 49 = leb-true (suc (frames p.outer)) 49 e in (h.0, (omega (arith, room), h.1.1)))
      (failing_outer s p c ps (failure too_many_calls) h)

  begun_outer : (s : Scene) (p : Pending) (c : Construct) (ps : List Piece) (n : Native) (d : Call) (body : Program) (args : Data)
      → IsTrue (native_fits n.name n.stage n.arguments) → Outer p.outer
      → OuterKept (entering s p c ps (native_entry n ∷ []) d body args)
  begun_outer s p c ps n d body args fits h =
      outer_if (has_room p.outer) _ _ (λ e. let room : suc (frames p.outer) ≤ 49 = leb-true (suc (frames p.outer)) 49 e in (h.0, (omega (arith, room), both_hold (native_fits n.name n.stage n.arguments) _ fits h.1.1)))
      (failing_outer s p c ps (failure too_many_calls) h)

  answered_outer : (s : Scene) (p : Pending) (c : Construct) (ps : List Piece) (a : Answer) → Outer p.outer → OuterKept (native_answered s p c ps a)
  answered_outer s p c ps (gives v) h = h
  answered_outer s p c ps (raises e) h = failing_outer s p c ps (failure e) h

  native_outer : (p : Pending) (c : Construct) (ps : List Piece) (e : NativeEffect) → NativeKeeps fixed e → Outer p.outer → OuterKept (native_effected p c ps e)
  unfolding native_effected
  native_outer p c ps (answers s a) k h = answered_outer s p c ps (limited_answer a) h
  native_outer p c ps (complains s f) k h = failing_outer s p c ps f h
  native_outer p c ps (begins s n d body args) k h = begun_outer s p c ps n d body args k.1 h
  native_outer p c ps (waits s why) k h = h
  native_outer p c ps (dies s) k h = tt
  native_outer p c ps (becomes s who) k h = h

  effected_outer : (s : Scene) (p : Pending) (c : Construct) (ps : List Piece) (e : Effect) → EffectKeeps e → Outer p.outer → OuterKept (effected s p c ps e)
  unfolding effected EffectKeeps
  effected_outer s p c ps (hands t v) k h = h
  effected_outer s p c ps (errs t f) k h = failing_outer t p c ps f h
  effected_outer s p c ps (takes zero vs) k h = h
  effected_outer s p c ps (takes (suc n) vs) k h = part_outer s p c n vs ps (nth (parts c) n) h
  effected_outer s p c ps (ends t) k h = h
  effected_outer s p c ps (leaves l) k h = h
  effected_outer s p c ps stays k h = h
  effected_outer s p c ps (sets x v e) k h = effected_outer s (with_variable p x v) c ps e k h
  effected_outer s p c ps (calls d body args) k h = called_outer s p c ps d body args h
  effected_outer s p c ps (natively e) k h = native_outer p c ps e k h

  caught_outer : (s : Scene) (p : Pending) (q : Piece) (ps : List Piece) (e : Effect) → EffectKeeps e → Outer p.outer → OuterKept (caught_by s p q ps e)
  caught_outer s p q ps stays k h = reach_outer s p q.construct q.part q.held ps h
  caught_outer s p q ps e k h = effected_outer s p q.construct ps e k h

  passing_outer : (s : Scene) (p : Pending) (l : Leaving) (q : Piece) (ps : List Piece) (o : Option Effect) → CaughtKeeps o → Outer p.outer
      → OuterKept (passing s p l q ps o)
  passing_outer s p l q ps None k h = h
  passing_outer s p l q ps (Some e) k h = caught_outer s p q ps e k h

  -- a verb that is left: without it the others are as they were
  outer_native : (s : Scene) (p : Pending) (n : Native) (v : Datum) (es : List Entry) → SceneAgrees fixed s → Outer (native_entry n ∷ es)
      → OuterKept (back_in_native s p n v es)
  outer_native s p n v [] a h = tt
  outer_native s p n v (native_entry m ∷ es) a h = tt
  outer_native s p n v (frame_entry f ∷ es) a h =
      native_outer (in_frame p f es) (of_expr (literal v)) f.pieces (native_turn s (caller_of (in_frame p f es)) n v) (stages_keep s (caller_of (in_frame p f es)) n v a)
      (h.0, (omega (arith, h.1.0), second_holds (native_fits n.name n.stage n.arguments) _ h.1.1))

  outer_value : (s : Scene) (p : Pending) (v : Datum) (es : List Entry) → SceneAgrees fixed s → Outer es → OuterKept (back_with s p v es)
  outer_value s p v [] a h = tt
  outer_value s p v (frame_entry f ∷ es) a h = (h.0, (omega (arith, h.1.0), h.1.1))
  outer_value s p v (native_entry n ∷ es) a h = outer_native s p n v es a h

  outer_error : (s : Scene) (p : Pending) (f : Failure) (es : List Entry) → Outer es → OuterKept (raised_into s p f es)
  outer_error s p f [] h = tt
  outer_error s p f (frame_entry g ∷ es) h = (h.0, (omega (arith, h.1.0), h.1.1))
  outer_error s p f (native_entry n ∷ []) h = tt
  outer_error s p f (native_entry n ∷ frame_entry g ∷ es) h = (h.0, (omega (arith, h.1.0), second_holds (native_fits n.name n.stage n.arguments) _ h.1.1))
  outer_error s p f (native_entry n ∷ native_entry m ∷ es) h = absurd (cc (h.0))

  out_outer : (s : Scene) (p : Pending) (l : Leaving) → SceneAgrees fixed s → Outer p.outer → OuterKept (out_of_verb s p l)
  out_outer s p (returned v) a h = outer_value s p v p.outer a h
  out_outer s p (failed f) a h = outer_error s p f p.outer h
  out_outer s p (broken k) a h = outer_value s p (integer (pos 0)) p.outer a h
  out_outer s p (continued k) a h = outer_value s p (integer (pos 0)) p.outer a h

  receiving_outer : (s : Scene) (p : Pending) (q : Piece) (ps : List Piece) (vs : Option (List Datum)) → Outer p.outer → OuterKept (receiving s p q ps vs)
  receiving_outer s p q ps None h = failing_outer s p q.construct ps (failure type_mismatch) h
  receiving_outer s p q ps (Some vs) h = reach_outer s p q.construct q.part vs ps h

  turn_on_outer : (s : Scene) (p : Pending) (f : Focus) (ps : List Piece) → SceneAgrees fixed s → Outer p.outer → OuterKept (turn_on s p f ps)
  unfolding turn_on
  turn_on_outer s p (begin c) ps a h = reach_outer s p c 0 (held_at_first c) ps h
  turn_on_outer s p (operate c n vs) ps a h = effected_outer s p c ps (effect s p c n vs) (effect_keeps s p c n vs a) h
  turn_on_outer s p (hand v) [] a h = h
  turn_on_outer s p (hand v) (q ∷ ps) a h = receiving_outer s p q ps (held_with (way_at q.construct q.part) q.held v) h
  turn_on_outer s p (aim vs) [] a h = h
  turn_on_outer s p (aim vs) (q ∷ ps) a h = reach_outer s p q.construct q.part (q.held ++ vs) ps h
  turn_on_outer s p next [] a h = h
  turn_on_outer s p next (q ∷ ps) a h = reach_outer s p q.construct q.part q.held ps h
  turn_on_outer s p (leave l) [] a h = out_outer s p l a h
  turn_on_outer s p (leave l) (q ∷ ps) a h = passing_outer s p l q ps (catches s q.construct q.part q.held l) (catches_keep q.construct s q.part q.held l a) h

  outer_turn : (s : Scene) (p : Pending) → SceneAgrees fixed s → Outer p.outer → OuterKept (turn s p)
  unfolding turn
  outer_turn s p a h = turn_on_outer s p p.focus p.frame.pieces a h

  -- ---- all together

  joined_keeps : (t : Turned) → Kept t → StandsStill t → OuterKept t → TurnedKeeps fixed t
  joined_keeps (goes_on s p) h k o = (h, (k, o))
  joined_keeps (halts s (waiting why es)) h k o = (h.0, (h.1, (k, o)))
  joined_keeps (halts s (done v)) h k o = h
  joined_keeps (halts s (raised f)) h k o = h
  joined_keeps (halts s (out_of_ticks ts)) h k o = h
  joined_keeps (halts s killed) h k o = h

  kept_turn : (s : Scene) (p : Pending) → SceneAgrees fixed s → Kept (turn s p)
  unfolding turn
  kept_turn s p h = turn_on_keeps s p p.focus p.frame.pieces h

  pub turns_keep : (s : Scene) (p : Pending) → SceneAgrees fixed s → IsUnderWay p → TurnedKeeps fixed (turn s p)
  turns_keep s p h k = joined_keeps (turn s p) (kept_turn s p h) (turns_stay s p k.0) (outer_turn s p h k.1)
