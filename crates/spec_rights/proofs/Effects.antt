-- What the steps of constructs lead to, wherever built-ins, calls, writes and forks lead there.
use Rattle.std.proofs.Common.{ℕ, zero, suc, ◌+◌, ◌==◌, Bool, true, false, List, [], ◌∷◌, Option, Some, None, if◌then◌else◌, ℤ, pos, negsuc}
use Rattle.std.specs.Prelude.{codes, drop}
use Rattle.spec_value.specs.Datum.{Datum, integer, object, text, error, list, Data, to_list, Text, same_text, is_true, limit_exceeded}
use Rattle.spec_value.specs.Answer.{Answer, gives, raises, is_allowed}
use Rattle.spec_value.specs.Scatter.{Scattering, gets, refuses, scattered}
use Rattle.spec_value.specs.Table.{Named}
use Rattle.spec_program.specs.Tree.{Expr, literal, variable, own_length, unary, binary, both, either, conditional, listing, call, property, verb_call, index, range, caught, assignment, scatter, no_arguments, argument, splice, Codes, any_code, codes_in, Fallback, the_code, instead, Target, to_variable, to_property, to_index, to_range, Items, no_items, required, optional, remaining, defaulted, Statement, evaluate, give, give_zero, branch, for_each, for_range, repeat, fork, guarded, finished, leave_loop, next_turn, Program, Arms, no_arms, except}
use Rattle.spec_program.specs.Construct.{Construct, of_expr, of_target, of_default, of_statement, of_program}
use Rattle.spec_program.specs.Place.{Part, nth, statement_parts, arity}
use Rattle.spec_world.specs.World.{World, Object, Call, object_at}
use Rattle.spec_world.specs.VerbsSought.{Sought, find_verb}
use Rattle.spec_moo.specs.Scene.{Scene, in_world, has_ids, next_id, id_taken, moment_after, enqueued}
use Rattle.spec_moo.specs.Properties.{Written, wrote, refused, write}
use Rattle.spec_moo.specs.Pending.{Pending, caller_of}
use Rattle.spec_moo.specs.Leaving.{Leaving, returned, failed, broken, continued, Failure, failure, BodyLeft, ended, left_by, read_left, takes_code}
use Rattle.spec_moo.specs.NativeEffect.{NativeEffect}
use Rattle.spec_moo.specs.Natives.{native}
use Rattle.spec_moo.specs.Calling as calling
use Rattle.spec_moo.specs.Effect.{Effect, hands, errs, takes, ends, leaves, stays, sets, calls, natively, answered, sets_named, on_one, on_two, on_three}
use Rattle.spec_moo.specs.Effects.Access.{with_index, with_range, target_value, Stored, in_variable, in_property, not_stored, property_stored, whole_stored, stored, stored_effect}
use Rattle.spec_moo.specs.Effects.Operators.{conditional_effect}
use Rattle.spec_moo.specs.Effects.Calls.{with_arguments, found_effect, on_object_effect, verb_effect, above_definer, function_effect}
use Rattle.spec_moo.specs.Effects.Branches.{is_odd, part_or_end, branch_effect}
use Rattle.spec_moo.specs.Effects.Loops.{Turn, turn_effect, list_turn, list_loop_effect, are_bounds, range_turn_at, while_effect, loop_catches}
use Rattle.spec_moo.specs.Effects.Handlers.{code_count, codes_known, without_codes, fallback_effect, expression_catches, ArmPoint, one_code, last_code, one_program, guarded_point, codes_from, point_effect, guarded_effect, handler_for, body_catches, go_on_leaving, finally_effect}
use Rattle.spec_moo.specs.Effects.Scatter.{item_kinds, item_count, given, all_given, missing, default_or_end, assigned, defaults_after, scatter_effect}
use Rattle.spec_moo.specs.Effects.Forks.{with_named, forked_task, fork_after, fork_in}
use Rattle.spec_moo.specs.Tables.{effect, expr_effect, statement_effect, catches}
use Rattle.spec_rights.proofs.Doing.{OwnsVerb, SoughtOwned, verb_owned}

above_owned : (w : World) (word : Text) (m : Option Object) → SoughtOwned w (above_definer w word m)
above_owned w word None = tt
above_owned w word (Some x) = verb_owned w x.header.parent word

-- of a scene that is reached, a verb that is called, and what a built-in does
module _ (Goes : Scene → Type 0) (CallGoes : Call → Type 0) (NativeGoes : NativeEffect → Type 0) where
  abbrev pub WrittenGoes : Scene → Written → Type 0
  WrittenGoes s (wrote u) = Goes (in_world s u)
  WrittenGoes s (refused e) = Unit {0}

  pub record Ready (s : Scene) (p : Pending) : Type 0 where
    pub calls : (d : Call) → OwnsVerb s.world d.programmer → CallGoes d
    pub natives : (name : Text) (args : List Datum) → NativeGoes (native s (caller_of p) name args)
    pub writes : (x y v : Datum) → WrittenGoes s (write s.world p.frame.call.programmer x y v)
    pub forks : (due : ℕ) (vars : Named Datum) (body : Program) → Goes (enqueued (id_taken s) (next_id s) (forked_task p due vars body))

  -- ---- effects

  unfoldable pub EffectGoes : Effect → Type 0
  EffectGoes (hands s v) = Goes s
  EffectGoes (errs s f) = Goes s
  EffectGoes (takes n vs) = Unit {0}
  EffectGoes (ends s) = Goes s
  EffectGoes (leaves l) = Unit {0}
  EffectGoes stays = Unit {0}
  EffectGoes (sets x v e) = EffectGoes e
  EffectGoes (calls d body args) = CallGoes d
  EffectGoes (natively e) = NativeGoes e

  value : (s : Scene) (v : Datum) → Goes s → EffectGoes (hands s v)
  unfolding EffectGoes
  value s v h = h

  wrong : (s : Scene) (f : Failure) → Goes s → EffectGoes (errs s f)
  unfolding EffectGoes
  wrong s f h = h

  part : (n : ℕ) (vs : List Datum) → EffectGoes (takes n vs)
  unfolding EffectGoes
  part n vs = tt

  the_end : (s : Scene) → Goes s → EffectGoes (ends s)
  unfolding EffectGoes
  the_end s h = h

  leaving : (l : Leaving) → EffectGoes (leaves l)
  unfolding EffectGoes
  leaving l = tt

  sets_first : (x : Text) (v : Datum) (e : Effect) → EffectGoes e → EffectGoes (sets x v e)
  unfolding EffectGoes
  sets_first x v e h = h

  choice : (b : Bool) (e f : Effect) → EffectGoes e → EffectGoes f → EffectGoes (if b then e else f)
  choice true e f h k = h
  choice false e f h k = k

  answer : (s : Scene) (a : Answer) → Goes s → EffectGoes (answered s a)
  answer s (gives v) h = value s v h
  answer s (raises e) h = wrong s (failure e) h

  of_named : (x : Option Text) (v : Datum) (e : Effect) → EffectGoes e → EffectGoes (sets_named x v e)
  of_named None v e h = h
  of_named (Some x) v e h = sets_first x v e h

  one : (s : Scene) (f : Datum → Effect) (vs : List Datum) → Goes s → ((v : Datum) → EffectGoes (f v)) → EffectGoes (on_one s f vs)
  one s f [] h k = wrong s _ h
  one s f (v ∷ []) h k = k v
  one s f (v ∷ u ∷ vs) h k = wrong s _ h

  two : (s : Scene) (f : Datum → Datum → Effect) (vs : List Datum) → Goes s → ((v u : Datum) → EffectGoes (f v u)) → EffectGoes (on_two s f vs)
  two s f [] h k = wrong s _ h
  two s f (v ∷ []) h k = wrong s _ h
  two s f (v ∷ u ∷ []) h k = k v u
  two s f (v ∷ u ∷ z ∷ vs) h k = wrong s _ h

  three : (s : Scene) (f : Datum → Datum → Datum → Effect) (vs : List Datum) → Goes s → ((v u z : Datum) → EffectGoes (f v u z))
      → EffectGoes (on_three s f vs)
  three s f [] h k = wrong s _ h
  three s f (v ∷ []) h k = wrong s _ h
  three s f (v ∷ u ∷ []) h k = wrong s _ h
  three s f (v ∷ u ∷ z ∷ []) h k = k v u z
  three s f (v ∷ u ∷ z ∷ y ∷ vs) h k = wrong s _ h

  -- ---- expressions

  found_goes : (s : Scene) (p : Pending) (r : Ready s p) (o : ℤ) (word : Text) (xs : Data) (f : Option Sought) → SoughtOwned s.world f → Goes s
      → EffectGoes (found_effect s p o word xs f)
  unfolding EffectGoes
  found_goes s p r o word xs None k h = h
  found_goes s p r o word xs (Some f) k h = r.calls (calling.verb_call p.frame.call o word f) k

  object_goes : (s : Scene) (p : Pending) (r : Ready s p) (o : ℤ) (word : Text) (xs : Data) (x : Option Object) → Goes s
      → EffectGoes (on_object_effect s p o word xs x)
  object_goes s p r o word xs None h = wrong s _ h
  object_goes s p r o word xs (Some x) h = found_goes s p r o word xs (find_verb s.world o word) (verb_owned s.world o word) h

  verb_goes : (s : Scene) (p : Pending) (r : Ready s p) (x y : Datum) (xs : Data) → Goes s → EffectGoes (verb_effect s p x y xs)
  verb_goes s p r (object o) (text word) xs h = object_goes s p r o word xs (object_at s.world o) h
  verb_goes s p r (object o) (integer n) xs h = wrong s _ h
  verb_goes s p r (object o) (object n) xs h = wrong s _ h
  verb_goes s p r (object o) (error n) xs h = wrong s _ h
  verb_goes s p r (object o) (list n) xs h = wrong s _ h
  verb_goes s p r (integer o) y xs h = wrong s _ h
  verb_goes s p r (text o) y xs h = wrong s _ h
  verb_goes s p r (error o) y xs h = wrong s _ h
  verb_goes s p r (list o) y xs h = wrong s _ h

  function_goes : (s : Scene) (p : Pending) (r : Ready s p) (g : Text) (xs : Data) → Goes s → EffectGoes (function_effect s p g xs)
  unfolding EffectGoes
  function_goes s p r g xs h =
      choice (same_text g (codes "pass")) _ _
      (found_goes s p r _ _ xs (above_definer s.world p.frame.call.verb (object_at s.world p.frame.call.definer)) (above_owned s.world p.frame.call.verb (object_at s.world p.frame.call.definer)) h)
      (r.natives g (to_list xs))

  arguments_go : (s : Scene) (f : Data → Effect) (l : Datum) → Goes s → ((xs : Data) → EffectGoes (f xs)) → EffectGoes (with_arguments s f l)
  arguments_go s f (list xs) h k = choice (is_allowed (list xs)) _ _ (k xs) (wrong s _ h)
  arguments_go s f (integer n) h k = wrong s _ h
  arguments_go s f (object n) h k = wrong s _ h
  arguments_go s f (text n) h k = wrong s _ h
  arguments_go s f (error n) h k = wrong s _ h

  abbrev StoredGoes : Scene → Stored → Type 0
  StoredGoes s (in_variable x v) = Unit {0}
  StoredGoes s (in_property w) = Goes (in_world s w)
  StoredGoes s (not_stored e) = Unit {0}

  property_goes : (s : Scene) (r : Written) → WrittenGoes s r → StoredGoes s (property_stored r)
  property_goes s (wrote w) h = h
  property_goes s (refused e) h = tt

  whole_goes : (s : Scene) (store : Datum → Stored) (a : Answer) → ((x : Datum) → StoredGoes s (store x)) → StoredGoes s (whole_stored store a)
  whole_goes s store (gives x) h = h x
  whole_goes s store (raises e) h = tt

  stored_goes : (s : Scene) (p : Pending) (r : Ready s p) (vars : Named Datum) (t : Target) (vs : List Datum) (v : Datum) → Goes s
      → StoredGoes s (stored s.world p.frame.call.programmer vars t vs v)
  stored_goes s p r vars (to_variable x) vs v h = tt
  stored_goes s p r vars (to_property o name) [] v h = tt
  stored_goes s p r vars (to_property o name) (a ∷ []) v h = tt
  stored_goes s p r vars (to_property o name) (a ∷ b ∷ vs) v h = property_goes s (write s.world p.frame.call.programmer a b v) (r.writes a b v)
  stored_goes s p r vars (to_index t i) vs v h =
      whole_goes s (λ x. stored s.world p.frame.call.programmer vars t vs x) (with_index (target_value s.world p.frame.call.programmer vars t vs) (drop (arity t) vs) v) (λ x. stored_goes s p r vars t vs x h)
  stored_goes s p r vars (to_range t a b) vs v h =
      whole_goes s (λ x. stored s.world p.frame.call.programmer vars t vs x) (with_range (target_value s.world p.frame.call.programmer vars t vs) (drop (arity t) vs) v) (λ x. stored_goes s p r vars t vs x h)

  assigned_goes : (s : Scene) (v : Datum) (r : Stored) → Goes s → StoredGoes s r → EffectGoes (stored_effect s v r)
  assigned_goes s v (in_variable x u) h k = sets_first x u _ (value s v h)
  assigned_goes s v (in_property w) h k = value (in_world s w) v k
  assigned_goes s v (not_stored e) h k = wrong s _ h

  given_goes : (x : Text) (o : Option Datum) (e : Effect) → EffectGoes e → EffectGoes (given x o e)
  given_goes x None e h = h
  given_goes x (Some v) e h = sets_first x v e h

  all_given_go : (xs : Items) (vs : List (Option Datum)) (e : Effect) → EffectGoes e → EffectGoes (all_given xs vs e)
  all_given_go no_items vs e h = h
  all_given_go (required x more) [] e h = h
  all_given_go (optional x more) [] e h = h
  all_given_go (remaining x more) [] e h = h
  all_given_go (defaulted x d more) [] e h = h
  all_given_go (required x more) (v ∷ vs) e h = given_goes x v _ (all_given_go more vs e h)
  all_given_go (optional x more) (v ∷ vs) e h = given_goes x v _ (all_given_go more vs e h)
  all_given_go (remaining x more) (v ∷ vs) e h = given_goes x v _ (all_given_go more vs e h)
  all_given_go (defaulted x d more) (v ∷ vs) e h = given_goes x v _ (all_given_go more vs e h)

  defaults_go : (s : Scene) (l : Datum) (o : Option ℕ) → Goes s → EffectGoes (default_or_end s l o)
  defaults_go s l None h = value s l h
  defaults_go s l (Some n) h = part _ _

  scattered_go : (s : Scene) (xs : Items) (l : Datum) (r : Scattering) → Goes s → EffectGoes (assigned s xs l r)
  scattered_go s xs l (refuses c) h = wrong s _ h
  scattered_go s xs l (gets vs) h = all_given_go xs vs _ (defaults_go s l (missing 0 xs vs) h)

  later_go : (s : Scene) (xs : Items) (n : ℕ) (l : Datum) (r : Scattering) → Goes s → EffectGoes (defaults_after s xs n l r)
  later_go s xs n l (refuses c) h = wrong s _ h
  later_go s xs n l (gets vs) h = defaults_go s l (missing n xs vs) h

  scatter_goes : (s : Scene) (xs : Items) (n : ℕ) (vs : List Datum) → Goes s → EffectGoes (scatter_effect s xs n vs)
  scatter_goes s xs zero vs h = part _ _
  scatter_goes s xs (suc n) vs h =
      one s _ vs h (λ l. choice (suc n == suc (item_count xs)) _ _ (scattered_go s xs l (scattered (item_kinds xs) l) h) (later_go s xs (suc n) l (scattered (item_kinds xs) l) h))

  conditional_goes : (s : Scene) (n : ℕ) (vs : List Datum) → Goes s → EffectGoes (conditional_effect s n vs)
  conditional_goes s zero vs h = one s _ vs h (λ v. value s v h)
  conditional_goes s (suc zero) vs h = one s _ vs h (λ v. choice (is_true v) _ _ (part 2 []) (part 3 []))
  conditional_goes s (suc (suc n)) vs h = one s _ vs h (λ v. value s v h)

  codes_go : (s : Scene) (n : ℕ) (vs : List Datum) → Goes s → EffectGoes (without_codes s n vs)
  codes_go s zero vs h = part _ _
  codes_go s (suc n) vs h = two s _ vs h (λ c v. value s v h)

  expr_goes : (e : Expr) (s : Scene) (p : Pending) (r : Ready s p) (n : ℕ) (vs : List Datum) → Goes s → EffectGoes (expr_effect s p e n vs)
  expr_goes (literal v) s p r n vs h = value s v h
  expr_goes (variable x) s p r n vs h = answer s _ h
  expr_goes own_length s p r n vs h = answer s _ h
  expr_goes (unary u a) s p r n vs h = one s _ vs h (λ x. answer s _ h)
  expr_goes (binary op a b) s p r n vs h = two s _ vs h (λ x y. answer s _ h)
  expr_goes (both a b) s p r n vs h = one s _ vs h (λ x. choice (is_true x) _ _ (part 2 []) (value s x h))
  expr_goes (either a b) s p r n vs h = one s _ vs h (λ x. choice (is_true x) _ _ (value s x h) (part 2 []))
  expr_goes (conditional c a b) s p r n vs h = conditional_goes s n vs h
  expr_goes (listing es) s p r n vs h = one s _ vs h (λ x. answer s _ h)
  expr_goes (call f es) s p r n vs h = one s _ vs h (λ l. arguments_go s _ l h (λ xs. function_goes s p r f xs h))
  expr_goes (property o q) s p r n vs h = two s _ vs h (λ x y. answer s _ h)
  expr_goes (verb_call o v es) s p r n vs h = three s _ vs h (λ x y l. arguments_go s _ l h (λ xs. verb_goes s p r x y xs h))
  expr_goes (index x i) s p r n vs h = two s _ vs h (λ x y. answer s _ h)
  expr_goes (range x a b) s p r n vs h = three s _ vs h (λ x y z. answer s _ h)
  expr_goes (caught e codes d) s p r n vs h = choice (n == codes_known codes) _ _ (part 1 _) (codes_go s n vs h)
  expr_goes (assignment t e) s p r n vs h =
      one s _ (drop (arity t) vs) h (λ v. assigned_goes s v (stored s.world p.frame.call.programmer p.frame.variables t vs v) h (stored_goes s p r p.frame.variables t vs v h))
  expr_goes (scatter xs e) s p r n vs h = scatter_goes s xs n vs h

  -- ---- statements

  other_part : (s : Scene) (n : ℕ) (o : Option Part) → Goes s → EffectGoes (part_or_end s n o)
  other_part s n None h = the_end s h
  other_part s n (Some x) h = part n []

  turn_goes : (s : Scene) (x : Text) (body : ℕ) (o : Turn) → Goes s → EffectGoes (turn_effect s x body o)
  turn_goes s x body None h = the_end s h
  turn_goes s x body (Some o) h = sets_first x _ _ (part body _)

  list_goes : (s : Scene) (x : Text) (vs : List Datum) → Goes s → EffectGoes (list_loop_effect s x vs)
  list_goes s x [] h = wrong s _ h
  list_goes s x (list xs ∷ vs) h = turn_goes s x 2 (list_turn (list xs ∷ vs)) h
  list_goes s x (integer n ∷ vs) h = wrong s _ h
  list_goes s x (object n ∷ vs) h = wrong s _ h
  list_goes s x (text n ∷ vs) h = wrong s _ h
  list_goes s x (error n ∷ vs) h = wrong s _ h

  while_goes : (s : Scene) (n : ℕ) (vs : List Datum) → Goes s → EffectGoes (while_effect s n vs)
  while_goes s zero vs h = part 1 []
  while_goes s (suc zero) vs h = one s _ vs h (λ v. choice (is_true v) _ _ (part 2 []) (the_end s h))
  while_goes s (suc (suc n)) vs h = part 1 []

  -- the body is queued as a task of its own
  fork_goes : (s : Scene) (p : Pending) (r : Ready s p) (x : Option Text) (b : Program) (n : ℕ) → EffectGoes (fork_after s p x b n)
  fork_goes s p r x b n =
      of_named x (integer (next_id s))
      (ends (enqueued (id_taken s) (next_id s) (forked_task p (moment_after s n) (with_named x (integer (next_id s)) p.frame.variables) b)))
      (the_end (enqueued (id_taken s) (next_id s) (forked_task p (moment_after s n) (with_named x (integer (next_id s)) p.frame.variables) b)) (r.forks (moment_after s n) (with_named x (integer (next_id s)) p.frame.variables) b))

  fork_in_goes : (s : Scene) (p : Pending) (r : Ready s p) (x : Option Text) (b : Program) (d : Datum) → Goes s → EffectGoes (fork_in s p x b d)
  fork_in_goes s p r x b (integer (pos n)) h = go (has_ids s)
    where
      go : (c : Bool) → EffectGoes (if c then fork_after s p x b n else errs s (failure limit_exceeded))
      go true = fork_goes s p r x b n
      go false = wrong s _ h
  fork_in_goes s p r x b (integer (negsuc n)) h = wrong s _ h
  fork_in_goes s p r x b (object n) h = wrong s _ h
  fork_in_goes s p r x b (text n) h = wrong s _ h
  fork_in_goes s p r x b (error n) h = wrong s _ h
  fork_in_goes s p r x b (list n) h = wrong s _ h

  next_codes : (n : ℕ) (held : List Datum) (arms : Arms) → EffectGoes (codes_from n held arms)
  next_codes n held no_arms = part 1 held
  next_codes n held (except x any_code p later) = next_codes (suc n) _ later
  next_codes n held (except x (codes_in no_arguments) p later) = next_codes (suc n) _ later
  next_codes n held (except x (codes_in (argument e es)) p later) = part (suc n) _
  next_codes n held (except x (codes_in (splice e es)) p later) = part (suc n) _

  point_goes : (s : Scene) (n : ℕ) (vs : List Datum) (a : ArmPoint) → Goes s → EffectGoes (point_effect s n vs a)
  point_goes s n vs (last_code later) h = next_codes n vs later
  point_goes s n vs one_code h = the_end s h
  point_goes s n vs one_program h = the_end s h

  guarded_goes : (s : Scene) (arms : Arms) (n : ℕ) (vs : List Datum) → Goes s → EffectGoes (guarded_effect s arms n vs)
  guarded_goes s arms zero vs h = next_codes 1 vs arms
  guarded_goes s arms (suc n) vs h = point_goes s (suc (suc n)) vs (guarded_point arms (suc n)) h

  going_on_goes : (s : Scene) (o : Option BodyLeft) → Goes s → EffectGoes (go_on_leaving s o)
  going_on_goes s None h = the_end s h
  going_on_goes s (Some ended) h = the_end s h
  going_on_goes s (Some (left_by l)) h = leaving l

  finally_goes : (s : Scene) (n : ℕ) (vs : List Datum) → Goes s → EffectGoes (finally_effect s n vs)
  finally_goes s zero vs h = part 1 []
  finally_goes s (suc zero) vs h = part 2 _
  finally_goes s (suc (suc n)) vs h = one s _ vs h (λ d. going_on_goes s (read_left d) h)

  branch_goes : (s : Scene) (ps : List Part) (n : ℕ) (vs : List Datum) → Goes s → EffectGoes (branch_effect s ps n vs)
  branch_goes s ps n vs h =
      choice (is_odd n) _ _ (one s _ vs h (λ v. choice (is_true v) _ _ (part (suc n) []) (other_part s (suc (suc n)) (nth ps (suc n)) h))) (the_end s h)

  statement_goes : (t : Statement) (s : Scene) (p : Pending) (r : Ready s p) (n : ℕ) (vs : List Datum) → Goes s → EffectGoes (statement_effect s p t n vs)
  statement_goes (evaluate e) s p r n vs h = one s _ vs h (λ v. the_end s h)
  statement_goes (give e) s p r n vs h = one s _ vs h (λ v. leaving _)
  statement_goes give_zero s p r n vs h = leaving _
  statement_goes (branch bs q) s p r n vs h = branch_goes s (statement_parts (branch bs q)) n vs h
  statement_goes (for_each x e b) s p r n vs h = list_goes s x vs h
  statement_goes (for_range x a c b) s p r n vs h = choice (are_bounds vs) _ _ (turn_goes s x 3 (range_turn_at n vs) h) (wrong s _ h)
  statement_goes (repeat x c b) s p r n vs h = while_goes s n vs h
  statement_goes (fork x e b) s p r n vs h = one s _ vs h (λ d. fork_in_goes s p r x b d h)
  statement_goes (guarded b arms) s p r n vs h = guarded_goes s arms n vs h
  statement_goes (finished b q) s p r n vs h = finally_goes s n vs h
  statement_goes (leave_loop x) s p r n vs h = leaving _
  statement_goes (next_turn x) s p r n vs h = leaving _

  pub effect_goes : (s : Scene) (p : Pending) (r : Ready s p) (c : Construct) (n : ℕ) (vs : List Datum) → Goes s → EffectGoes (effect s p c n vs)
  unfolding effect
  effect_goes s p r (of_expr e) n vs h = expr_goes e s p r n vs h
  effect_goes s p r (of_default x e) n vs h = one s _ vs h (λ v. sets_first x v _ (the_end s h))
  effect_goes s p r (of_statement t) n vs h = statement_goes t s p r n vs h
  effect_goes s p r (of_target t) n vs h = the_end s h
  effect_goes s p r (of_program q) n vs h = the_end s h

  -- ---- leavings that are caught

  abbrev pub CaughtGoes : Option Effect → Type 0
  CaughtGoes None = Unit {0}
  CaughtGoes (Some e) = EffectGoes e

  if_caught : (b : Bool) (x y : Option Effect) → CaughtGoes x → CaughtGoes y → CaughtGoes (if b then x else y)
  if_caught true x y h k = h
  if_caught false x y h k = k

  fallback_goes : (s : Scene) (n : ℕ) (d : Fallback) (c : Datum) → Goes s → EffectGoes (fallback_effect s n d c)
  fallback_goes s n the_code c h = value s c h
  fallback_goes s n (instead e) c h = part n []

  expression_goes : (s : Scene) (codes : Codes) (d : Fallback) (held : List Datum) (l : Leaving) → Goes s
      → CaughtGoes (expression_catches s codes d held l)
  expression_goes s codes d [] l h = tt
  expression_goes s codes d (c ∷ []) (failed f) h =
      if_caught (takes_code c f.code) (Some (fallback_effect s (suc (suc (code_count codes))) d f.code)) None (fallback_goes s (suc (suc (code_count codes))) d f.code h) tt
  expression_goes s codes d (c ∷ []) (returned v) h = tt
  expression_goes s codes d (c ∷ []) (broken k) h = tt
  expression_goes s codes d (c ∷ []) (continued k) h = tt
  expression_goes s codes d (c ∷ u ∷ vs) l h = tt

  loop_goes : (s : Scene) (l : Leaving) → Goes s → CaughtGoes (loop_catches s l)
  unfolding EffectGoes
  loop_goes s (broken zero) h = h
  loop_goes s (broken (suc k)) h = tt
  loop_goes s (continued zero) h = tt
  loop_goes s (continued (suc k)) h = tt
  loop_goes s (returned v) h = tt
  loop_goes s (failed f) h = tt

  handler_goes : (n : ℕ) (arms : Arms) (held : List Datum) (f : Failure) → CaughtGoes (handler_for n arms held f)
  handler_goes n no_arms held f = tt
  handler_goes n (except x codes p later) [] f = tt
  handler_goes n (except x codes p later) (c ∷ held) f =
      if_caught (takes_code c f.code) (Some (sets_named x _ (takes (suc (n + code_count codes)) []))) _ (of_named x _ _ (part _ [])) (handler_goes (suc (n + code_count codes)) later held f)

  body_goes : (arms : Arms) (held : List Datum) (l : Leaving) → CaughtGoes (body_catches arms held l)
  body_goes arms held (failed f) = handler_goes 1 arms held f
  body_goes arms held (returned v) = tt
  body_goes arms held (broken k) = tt
  body_goes arms held (continued k) = tt

  pub catches_go : (c : Construct) (s : Scene) (n : ℕ) (held : List Datum) (l : Leaving) → Goes s → CaughtGoes (catches s c n held l)
  catches_go (of_expr (caught e codes d)) s (suc zero) held l h = expression_goes s codes d held l h
  catches_go (of_statement (for_each x e b)) s (suc (suc zero)) held l h = loop_goes s l h
  catches_go (of_statement (for_range x a c b)) s (suc (suc (suc zero))) held l h = loop_goes s l h
  catches_go (of_statement (repeat x c b)) s (suc (suc zero)) held l h = loop_goes s l h
  catches_go (of_statement (guarded b arms)) s (suc zero) held l h = body_goes arms held l
  catches_go (of_statement (finished b q)) s (suc zero) held l h = part 2 _
  catches_go c s n held l h = tt
