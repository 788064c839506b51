-- Each turn of a task over values leads to values: in the verb that is under way, and in those that wait for it.
use Rattle.std.proofs.Common.{◌≡◌, ◌∙◌, ◌⊎◌, inl, inr, ◌<◌, ◌≤◌, ◌^◌, ℕ, zero, suc, ◌+◌, ◌-◌, ◌==◌, ℤ, pos, ◌&&◌, ◌||◌, not, nat_le, Bool, true, false, List, [], ◌∷◌, ◌++◌, length, Option, Some, None, is_none, option_map, IsTrue, refl, sym, ap, subst, if◌then◌else◌, arith, le-leb, leb-true, length-append}
use Rattle.std.proofs.lemmas.Bool.{eqb-false}
use Rattle.spec_value.specs.Datum.{Datum, integer, object, text, error, list, Data, no_data, item, of_list, append, joined, Text, type_mismatch, too_many_calls}
use Rattle.spec_value.specs.Answer.{Answer, gives, raises, limited_answer, weight_limit}
use Rattle.spec_value.proofs.Entries.{first_holds, second_holds, both_hold}
use Rattle.spec_program.specs.Tree.{Expr, literal, variable, own_length, unary, binary, both, either, conditional, listing, call, property, verb_call, index, range, caught, assignment, scatter, Arguments, no_arguments, argument, splice, Codes, any_code, codes_in, Fallback, the_code, instead, Target, Statement, evaluate, give, give_zero, branch, for_each, for_range, repeat, fork, guarded, finished, leave_loop, next_turn, Program}
use Rattle.spec_program.specs.Trees.{program_fits, program_height, is_around}
use Rattle.spec_program.specs.Construct.{Construct, of_expr, of_target, of_default, of_statement, of_program, Piece}
use Rattle.spec_program.specs.Place.{Kind, any_value, any_list, argument_parts, fallback_parts, Part, parts, nth, part_at, tree_of, Linked}
use Rattle.spec_world.specs.World.{Call, Start, Frame, Entry, frame_entry, native_entry}
use Rattle.spec_world.specs.WellFormed.{loops, count, frames}
use Rattle.spec_moo.specs.Scene.{Scene}
use Rattle.spec_moo.specs.Leaving.{Traced, traced, traced_value, trace_values, failure_items, failure_value, Leaving, returned, failed, broken, continued, Failure, failure, come_by}
use Rattle.spec_moo.specs.Held.{Way, beside, before_list, listed, spliced, argument_ways, ways, nth_way, way_at, held_at_first, in_last, held_with}
use Rattle.spec_moo.specs.Calling.{starting}
use Rattle.spec_moo.specs.NativeEffect.{NativeEffect, answers, complains, begins, waits, dies, becomes}
use Rattle.spec_moo.specs.Natives.{native_turn}
use Rattle.spec_moo.specs.Pending.{Focus, begin, hand, aim, operate, next, leave, Pending, caller_of, goes_on, to}
use Rattle.spec_moo.specs.Effect.{Effect, hands, errs, takes, ends, leaves, stays, sets, calls, natively}
use Rattle.spec_moo.specs.Effects.Loops.{loops_left, out_of_loop}
use Rattle.spec_moo.specs.Effects.Handlers.{argument_count, code_count, caught_step}
use Rattle.spec_moo.specs.Tables.{has_step, effect, catches, passed_by}
use Rattle.spec_moo.specs.Standing.{has_no_value, LooksAt}
use Rattle.spec_moo.specs.Turn.{piece, completed, on_tree, on_part, at_point, reach, failing, always_raises, has_room, waiting_frame, called_frame, entering, native_answered, native_effected, with_programmer, with_variable, effected, caught_by, passing, in_frame, back_with, raised_into, out_of_verb, receiving, turn_on, turn}
use Rattle.spec_holding.specs.Fitting.{loop_names}
use Rattle.spec_holding.proofs.TreesFit.{linked_fits, loops_are_left}
use Rattle.spec_checkpoint.specs.Holding.{is_number}
use Rattle.spec_values_kept.specs.Values.{nests_within, items_nest_within, is_counted, is_short, items_are_short, InRange, IsPrinted, IsValue, AreData, IsKept, AreKept, IsHeld, Each, IfThere, AnswerKept}
use Rattle.spec_values_kept.specs.Nodes.{construct_nodes, program_nodes}
use Rattle.spec_values_kept.specs.WorldValues.{IsNumber, ProgramHolds, CallHolds, StartHolds, VariableHolds, Counts, LeavingHolds, OneHeld, CodesFirst, AtCode, CaughtHolds, HeldBy, PieceHolds, FrameHolds, EntryHolds, EntriesHold}
use Rattle.spec_values_kept.specs.UnderWay.{construct_height, SceneHolds, FailureHolds, FocusHolds, TurnedHolds, NativeGives, EffectHolds, ContentsFew, TurnsHold}
use Rattle.spec_values_kept.proofs.Nesting.{counted_below, short_items_of, kept_value, kept_data, kept_held, are_held, items_of, list_kept, first_kept, appended_held, joined_held}
use Rattle.spec_values_kept.proofs.Numbers.{below_in_range, small_number}
use Rattle.spec_values_kept.proofs.ValuesGiven.{onto_data, first_datum, later_data, data_of, limited_gives}
use Rattle.spec_values_kept.proofs.Tables.{each_together, each_more}
use Rattle.spec_values_kept.proofs.Heights.{loops_lower}
use Rattle.spec_values_kept.proofs.NodesFew.{parts_few, nodes_within}
use Rattle.spec_values_kept.proofs.BuiltinsHold.{natives_hold, stages_hold}
use Rattle.spec_values_kept.proofs.EffectsHold.{failure_holds, BaseHolds, caller_holds, variable_put, Small, CatchHolds, effect_holds, catches_hold}

-- ---- what does not change in a verb while its pieces do

abbrev Base : Pending → Type 0
Base p = BaseHolds p × (StartHolds p.frame.start × (ProgramHolds p.frame.program × (frames p.outer ≤ 49)))

abbrev Under : Pending → Construct → List Piece → Type 0
Under p c ps = Linked c ps (of_program p.frame.program)

to_holds : (s : Scene) (p : Pending) (f : Focus) (ps : List Piece) → SceneHolds s → Base p → Each (PieceHolds (frames p.outer)) ps → FocusHolds (frames p.outer) f → TurnedHolds (to s p f ps)
to_holds s p f ps w b h k = (w, ((b.0).0, (k, ((((b.0).1).0, ((b.1).0, (((b.1).1).0, ((((b.0).1).1).0, h)))), (((b.0).1).1).1))))

-- ---- what a construct holds

-- a construct with no list so far
pub each_count : (vs : List Datum) → AreKept vs → Each Counts vs
each_count [] h = tt
each_count (v ∷ vs) h = (counts v h.0, each_count vs h.1)
  where
    counts : (u : Datum) → IsKept u → Counts u
    counts (integer k) i = tt
    counts (object k) i = i
    counts (text k) i = i
    counts (error k) i = i
    counts (list k) i = i

module _ (far : ℕ) where
  first_held : (c : Construct) → HeldBy far c 0 (held_at_first c)
  first_held (of_expr a) = of_expression a
    where
      of_expression : (e : Expr) → HeldBy far (of_expr e) 0 (held_at_first (of_expr e))
      of_expression (listing es) = (refl, tt)
      of_expression (call f es) = (refl, tt)
      of_expression e = tt
  first_held (of_statement t) = of_statement_first t
    where
      of_statement_first : (u : Statement) → HeldBy far (of_statement u) 0 []
      of_statement_first (for_each x a p) = tt
      of_statement_first (guarded p arms) = tt
      of_statement_first (finished p q) = tt
      of_statement_first u = tt
  first_held c = tt

  -- ---- lists so far, and a value beside or at the end of what is held

  onto_first : (v : Datum) (o : Option (List Datum)) → IsHeld v → IfThere (Each IsHeld) o → IfThere (Each IsHeld) (option_map (λ us. v ∷ us) o)
  onto_first v None h k = tt
  onto_first v (Some us) h k = (h, k)

  last_held : (f : Data → Data) → ((xs : Data) → IsHeld (list xs) → IsHeld (list (f xs))) → (hs : List Datum) → Each IsHeld hs → IfThere (Each IsHeld) (in_last f hs)
  last_held f keeps [] h = tt
  last_held f keeps (list xs ∷ []) h = (keeps xs h.0, tt)
  last_held f keeps (integer n ∷ []) h = tt
  last_held f keeps (object n ∷ []) h = tt
  last_held f keeps (text n ∷ []) h = tt
  last_held f keeps (error n ∷ []) h = tt
  last_held f keeps (list xs ∷ u ∷ us) h = onto_first (list xs) (in_last f (u ∷ us)) h.0 (last_held f keeps (u ∷ us) h.1)
  last_held f keeps (integer n ∷ u ∷ us) h = onto_first (integer n) (in_last f (u ∷ us)) h.0 (last_held f keeps (u ∷ us) h.1)
  last_held f keeps (object n ∷ u ∷ us) h = onto_first (object n) (in_last f (u ∷ us)) h.0 (last_held f keeps (u ∷ us) h.1)
  last_held f keeps (text n ∷ u ∷ us) h = onto_first (text n) (in_last f (u ∷ us)) h.0 (last_held f keeps (u ∷ us) h.1)
  last_held f keeps (error n ∷ u ∷ us) h = onto_first (error n) (in_last f (u ∷ us)) h.0 (last_held f keeps (u ∷ us) h.1)

  with_value : (y : Way) (hs : List Datum) (v : Datum) → Each IsHeld hs → IsKept v → IfThere (Each IsHeld) (held_with y hs v)
  with_value beside hs v h k = each_more IsHeld hs v h (kept_held v k)
  with_value before_list hs v h k = each_together IsHeld hs (v ∷ list no_data ∷ []) h (kept_held v k, (refl, tt))
  with_value listed hs v h k = last_held (λ xs. append xs v) (λ xs i. appended_held xs v i k) hs h
  with_value spliced hs (list ys) h k = last_held (λ xs. joined xs ys) (λ xs i. joined_held xs ys i (kept_held (list ys) k)) hs h
  with_value spliced hs (integer n) h k = tt
  with_value spliced hs (object n) h k = tt
  with_value spliced hs (text n) h k = tt
  with_value spliced hs (error n) h k = tt

  -- a list of codes so far
  one_listed : (f : Data → Data) → ((xs : Data) → IsHeld (list xs) → IsHeld (list (f xs))) → (hs : List Datum) → OneHeld hs → IfThere OneHeld (in_last f hs)
  one_listed f keeps [] h = tt
  one_listed f keeps (list xs ∷ []) h = keeps xs h
  one_listed f keeps (integer n ∷ []) h = tt
  one_listed f keeps (object n ∷ []) h = tt
  one_listed f keeps (text n ∷ []) h = tt
  one_listed f keeps (error n ∷ []) h = tt
  one_listed f keeps (v ∷ u ∷ us) h = absurd h

  one_spliced : (hs : List Datum) (v : Datum) → OneHeld hs → IsKept v → IfThere OneHeld (held_with spliced hs v)
  one_spliced hs (list ys) h k = one_listed (λ xs. joined xs ys) (λ xs i. joined_held xs ys i (kept_held (list ys) k)) hs h
  one_spliced hs (integer n) h k = tt
  one_spliced hs (object n) h k = tt
  one_spliced hs (text n) h k = tt
  one_spliced hs (error n) h k = tt

  code_received : (es : Arguments) (m : ℕ) (hs : List Datum) (v : Datum) → AtCode (argument_count es) m hs → IsKept v
      → IfThere (AtCode (argument_count es) m) (held_with (nth_way (argument_ways es) m) hs v)
  code_received no_arguments m hs v h k = each_more IsKept hs v h k
  code_received (argument e es) zero hs v h k = one_listed (λ xs. append xs v) (λ xs i. appended_held xs v i k) hs h
  code_received (splice e es) zero hs v h k = one_spliced hs v h k
  code_received (argument e es) (suc m) hs v h k = code_received es m hs v h k
  code_received (splice e es) (suc m) hs v h k = code_received es m hs v h k

  first_more : (hs : List Datum) (v : Datum) → CodesFirst hs → IsKept v → CodesFirst (hs ++ v ∷ [])
  first_more [] v h k = (kept_held v k, tt)
  first_more (u ∷ us) v h k = (h.0, each_more IsKept us v h.1 k)

  caught_received : (e : Expr) (codes : Codes) (d : Fallback) (n : ℕ) (hs : List Datum) (v : Datum) → CaughtHolds (code_count codes) n hs → IsKept v
      → IfThere (CaughtHolds (code_count codes) n) (held_with (way_at (of_expr (caught e codes d)) n) hs v)
  caught_received e codes d zero hs v h k = each_more IsKept hs v h k
  caught_received e codes d (suc zero) hs v h k = first_more hs v h k
  caught_received e any_code d (suc (suc m)) hs v h k = each_more IsKept hs v h k
  caught_received e (codes_in es) d (suc (suc m)) hs v h k = code_received es m hs v h k

  -- all others hold each value beside the others
  way_beside : (c : Construct) (n : ℕ) → ways c ≡ [] → way_at c n ≡ beside
  way_beside c zero e = refl
  way_beside c (suc n) e = ap (λ ws. nth_way ws n) e

  module _ (P : List Datum → Type 0) (c : Construct) (n : ℕ) (hs : List Datum) (v : Datum) where
    beside_others : ways c ≡ [] → P (hs ++ v ∷ []) → IfThere P (held_with (way_at c n) hs v)
    beside_others e h = subst (λ y. IfThere P (held_with y hs v)) (sym (way_beside c n e)) h

    kept_beside : ways c ≡ [] → (AreKept (hs ++ v ∷ []) → P (hs ++ v ∷ [])) → AreKept hs → IsKept v → IfThere P (held_with (way_at c n) hs v)
    kept_beside e more h k = beside_others e (more (each_more IsKept hs v h k))

  expression_received : (a : Expr) (n : ℕ) (hs : List Datum) (v : Datum) → HeldBy far (of_expr a) n hs → IsKept v
      → IfThere (HeldBy far (of_expr a) n) (held_with (way_at (of_expr a) n) hs v)
  expression_received (listing es) n hs v h k = with_value (way_at (of_expr (listing es)) n) hs v h k
  expression_received (call f es) n hs v h k = with_value (way_at (of_expr (call f es)) n) hs v h k
  expression_received (verb_call o w es) n hs v h k = with_value (way_at (of_expr (verb_call o w es)) n) hs v h k
  expression_received (caught e codes d) n hs v h k = caught_received e codes d n hs v h k
  expression_received (literal u) n hs v h k = kept_beside AreKept (of_expr (literal u)) n hs v refl (λ i. i) h k
  expression_received (variable x) n hs v h k = kept_beside AreKept (of_expr (variable x)) n hs v refl (λ i. i) h k
  expression_received own_length n hs v h k = kept_beside AreKept (of_expr own_length) n hs v refl (λ i. i) h k
  expression_received (unary u a) n hs v h k = kept_beside AreKept (of_expr (unary u a)) n hs v refl (λ i. i) h k
  expression_received (binary op a b) n hs v h k = kept_beside AreKept (of_expr (binary op a b)) n hs v refl (λ i. i) h k
  expression_received (both a b) n hs v h k = kept_beside AreKept (of_expr (both a b)) n hs v refl (λ i. i) h k
  expression_received (either a b) n hs v h k = kept_beside AreKept (of_expr (either a b)) n hs v refl (λ i. i) h k
  expression_received (conditional a b d) n hs v h k = kept_beside AreKept (of_expr (conditional a b d)) n hs v refl (λ i. i) h k
  expression_received (property o q) n hs v h k = kept_beside AreKept (of_expr (property o q)) n hs v refl (λ i. i) h k
  expression_received (index a b) n hs v h k = kept_beside AreKept (of_expr (index a b)) n hs v refl (λ i. i) h k
  expression_received (range a b d) n hs v h k = kept_beside AreKept (of_expr (range a b d)) n hs v refl (λ i. i) h k
  expression_received (assignment t a) n hs v h k = kept_beside AreKept (of_expr (assignment t a)) n hs v refl (λ i. i) h k
  expression_received (scatter xs a) n hs v h k = kept_beside AreKept (of_expr (scatter xs a)) n hs v refl (λ i. i) h k

  -- programs alone are parts of `try` with a finally part
  no_value_part : (q r : Program) (n : ℕ) (e : Construct) → IsTrue (not (has_no_value e)) → tree_of (part_at (of_statement (finished q r)) n) ≡ Some e → ⊥
  no_value_part q r zero e h k = cc
  no_value_part q r (suc zero) (of_expr a) h k = cc
  no_value_part q r (suc zero) (of_target t) h k = cc
  no_value_part q r (suc zero) (of_default x a) h k = cc
  no_value_part q r (suc zero) (of_statement t) h k = cc
  no_value_part q r (suc zero) (of_program p) h k = cc
  no_value_part q r (suc (suc zero)) (of_expr a) h k = cc
  no_value_part q r (suc (suc zero)) (of_target t) h k = cc
  no_value_part q r (suc (suc zero)) (of_default x a) h k = cc
  no_value_part q r (suc (suc zero)) (of_statement t) h k = cc
  no_value_part q r (suc (suc zero)) (of_program p) h k = cc
  no_value_part q r (suc (suc (suc n))) e h k = cc

  statement_received : (t : Statement) (n : ℕ) (e : Expr) (hs : List Datum) (v : Datum) → tree_of (part_at (of_statement t) n) ≡ Some (of_expr e) → HeldBy far (of_statement t) n hs → IsKept v
      → IfThere (HeldBy far (of_statement t) n) (held_with (way_at (of_statement t) n) hs v)
  statement_received (for_each x a p) n e hs v i h k =
      beside_others (Each Counts) (of_statement (for_each x a p)) n hs v refl (each_together Counts hs (v ∷ []) h (each_count (v ∷ []) (k, tt)))
  statement_received (guarded p arms) n e hs v i h k = with_value (way_at (of_statement (guarded p arms)) n) hs v h k
  statement_received (finished p q) n e hs v i h k = absurd (no_value_part p q n (of_expr e) refl i)
  statement_received (evaluate a) n e hs v i h k = kept_beside AreKept (of_statement (evaluate a)) n hs v refl (λ j. j) h k
  statement_received (give a) n e hs v i h k = kept_beside AreKept (of_statement (give a)) n hs v refl (λ j. j) h k
  statement_received give_zero n e hs v i h k = kept_beside AreKept (of_statement give_zero) n hs v refl (λ j. j) h k
  statement_received (branch bs q) n e hs v i h k = kept_beside AreKept (of_statement (branch bs q)) n hs v refl (λ j. j) h k
  statement_received (for_range x a b p) n e hs v i h k = kept_beside AreKept (of_statement (for_range x a b p)) n hs v refl (λ j. j) h k
  statement_received (repeat x a p) n e hs v i h k = kept_beside AreKept (of_statement (repeat x a p)) n hs v refl (λ j. j) h k
  statement_received (fork x a p) n e hs v i h k = kept_beside AreKept (of_statement (fork x a p)) n hs v refl (λ j. j) h k
  statement_received (leave_loop x) n e hs v i h k = kept_beside AreKept (of_statement (leave_loop x)) n hs v refl (λ j. j) h k
  statement_received (next_turn x) n e hs v i h k = kept_beside AreKept (of_statement (next_turn x)) n hs v refl (λ j. j) h k

  received_holds : (c : Construct) (n : ℕ) (e : Expr) (hs : List Datum) (v : Datum) → tree_of (part_at c n) ≡ Some (of_expr e) → HeldBy far c n hs → IsKept v
      → IfThere (HeldBy far c n) (held_with (way_at c n) hs v)
  received_holds (of_expr a) n e hs v i h k = expression_received a n hs v h k
  received_holds (of_target t) n e hs v i h k = kept_beside AreKept (of_target t) n hs v refl (λ j. j) h k
  received_holds (of_default x a) n e hs v i h k = kept_beside AreKept (of_default x a) n hs v refl (λ j. j) h k
  received_holds (of_statement t) n e hs v i h k = statement_received t n e hs v i h k
  received_holds (of_program q) n e hs v i h k = kept_beside AreKept (of_program q) n hs v refl (λ j. j) h k

  -- ---- the values of a target

  no_target_code : (es : Arguments) (kinds : List Kind) (d : Fallback) (m : ℕ) (t : Target) → tree_of (nth (argument_parts kinds es ++ fallback_parts d) m) ≡ Some (of_target t) → ⊥
  no_target_code no_arguments kinds the_code m t k = cc
  no_target_code no_arguments kinds (instead b) zero t k = cc
  no_target_code no_arguments kinds (instead b) (suc m) t k = cc
  no_target_code (argument a es) kinds d zero t k = cc
  no_target_code (splice a es) kinds d zero t k = cc
  no_target_code (argument a es) kinds d (suc m) t k = no_target_code es kinds d m t k
  no_target_code (splice a es) kinds d (suc m) t k = no_target_code es kinds d m t k

  no_target : (e : Expr) (codes : Codes) (d : Fallback) (n : ℕ) (t : Target) → tree_of (part_at (of_expr (caught e codes d)) n) ≡ Some (of_target t) → ⊥
  no_target e codes d zero t k = cc
  no_target e codes d (suc zero) t k = cc
  no_target e any_code d (suc (suc m)) t k = no_target_code no_arguments [] d m t k
  no_target e (codes_in es) d (suc (suc m)) t k = no_target_code es (any_list ∷ []) d m t k

  aimed_holds : (c : Construct) (n : ℕ) (t : Target) (hs vs : List Datum) → tree_of (part_at c n) ≡ Some (of_target t) → HeldBy far c n hs → AreKept vs → HeldBy far c n (hs ++ vs)
  aimed_holds (of_expr a) n t hs vs i h k = of_expression a i h
    where
      of_expression : (e : Expr) → tree_of (part_at (of_expr e) n) ≡ Some (of_target t) → HeldBy far (of_expr e) n hs → HeldBy far (of_expr e) n (hs ++ vs)
      of_expression (listing es) j l = each_together IsHeld hs vs l (are_held vs k)
      of_expression (call f es) j l = each_together IsHeld hs vs l (are_held vs k)
      of_expression (verb_call o w es) j l = each_together IsHeld hs vs l (are_held vs k)
      of_expression (caught e codes d) j l = absurd (no_target e codes d n t j)
      of_expression e j l = each_together IsKept hs vs l k
  aimed_holds (of_statement a) n t hs vs i h k = of_statement_parts a i h
    where
      of_statement_parts : (u : Statement) → tree_of (part_at (of_statement u) n) ≡ Some (of_target t) → HeldBy far (of_statement u) n hs → HeldBy far (of_statement u) n (hs ++ vs)
      of_statement_parts (for_each x e p) j l = each_together Counts hs vs l (each_count vs k)
      of_statement_parts (guarded p arms) j l = each_together IsHeld hs vs l (are_held vs k)
      of_statement_parts (finished p q) j l = absurd (no_value_part p q n (of_target t) refl j)
      of_statement_parts u j l = each_together IsKept hs vs l k
  aimed_holds c n t hs vs i h k = each_together IsKept hs vs h k

  -- ---- where no part is left

  pub value_completes : (c : Construct) (vs : List Datum) → AreKept vs → FocusHolds far (completed c vs)
  value_completes (of_expr a) [] h = refl
  value_completes (of_expr a) (v ∷ vs) h = h.0
  value_completes (of_target t) vs h = h
  value_completes (of_default x a) vs h = tt
  value_completes (of_statement t) vs h = tt
  value_completes (of_program q) vs h = tt

  argument_there : (kinds : List Kind) (es : Arguments) (n : ℕ) → is_none (nth (argument_parts kinds es) n) ≡ false → tree_of (nth (argument_parts kinds es) n) ≡ None → ⊥
  argument_there kinds no_arguments n h k = cc
  argument_there kinds (argument a es) zero h k = cc
  argument_there kinds (splice a es) zero h k = cc
  argument_there kinds (argument a es) (suc n) h k = argument_there kinds es n h k
  argument_there kinds (splice a es) (suc n) h k = argument_there kinds es n h k

  one_later : (es : Arguments) (m : ℕ) (vs : List Datum) → (suc m ≡ argument_count es) ⊎ AreKept vs → (suc (suc m) ≡ suc (argument_count es)) ⊎ AreKept vs
  one_later es m vs (inl e) = inl (ap suc e)
  one_later es m vs (inr h) = inr h

  step_there : (m k : ℕ) → (suc (suc m) == suc (suc k)) ≡ false → suc m ≡ suc k → ⊥
  step_there m k h e = eqb-false (suc (suc m)) (suc (suc k)) h (ap suc e)

  -- at the last code, and else behind them
  code_ends : (kinds : List Kind) (es : Arguments) (d : Fallback) (m : ℕ) (vs : List Datum) → AtCode (argument_count es) m vs
      → tree_of (nth (argument_parts kinds es ++ fallback_parts d) (suc m)) ≡ None → (suc m ≡ argument_count es) ⊎ AreKept vs
  code_ends kinds no_arguments d m vs h k = inr h
  code_ends kinds (argument a no_arguments) d zero vs h k = inl refl
  code_ends kinds (splice a no_arguments) d zero vs h k = inl refl
  code_ends kinds (argument a (argument b es)) d zero vs h k = cc
  code_ends kinds (argument a (splice b es)) d zero vs h k = cc
  code_ends kinds (splice a (argument b es)) d zero vs h k = cc
  code_ends kinds (splice a (splice b es)) d zero vs h k = cc
  code_ends kinds (argument a es) d (suc m) vs h k = one_later es m vs (code_ends kinds es d m vs h k)
  code_ends kinds (splice a es) d (suc m) vs h k = one_later es m vs (code_ends kinds es d m vs h k)

  or_later : (a b : Bool) → (a || b) ≡ false → b ≡ false
  or_later false b h = h
  or_later true b h = cc

  -- no step is at the last code
  not_last : (es : Arguments) (m : ℕ) → caught_step (codes_in es) (suc (suc m)) ≡ false → suc m ≡ argument_count es → ⊥
  not_last no_arguments m h e = cc
  not_last (argument a es) m h e = step_there m (argument_count es) (or_later (suc (suc m) == 0 || suc (suc m) == 1) _ h) e
  not_last (splice a es) m h e = step_there m (argument_count es) (or_later (suc (suc m) == 0 || suc (suc m) == 1) _ h) e

  caught_ends : (e : Expr) (codes : Codes) (d : Fallback) (n : ℕ) (vs : List Datum) → has_step (of_expr (caught e codes d)) n ≡ false → CaughtHolds (code_count codes) n vs
      → tree_of (nth (parts (of_expr (caught e codes d))) n) ≡ None → FocusHolds far (completed (of_expr (caught e codes d)) vs)
  caught_ends e codes d zero vs s h k = cc
  caught_ends e codes d (suc zero) vs s h k = cc
  caught_ends e any_code d (suc (suc m)) vs s h k = value_completes (of_expr (caught e any_code d)) vs h
  caught_ends e (codes_in es) d (suc (suc m)) vs s h k = go (code_ends (any_list ∷ []) es d m vs h k)
    where
      go : (suc m ≡ argument_count es) ⊎ AreKept vs → FocusHolds far (completed (of_expr (caught e (codes_in es) d)) vs)
      go (inl i) = absurd (not_last es m s i)
      go (inr i) = value_completes (of_expr (caught e (codes_in es) d)) vs i

  may_end : (c : Construct) (n : ℕ) (vs : List Datum) → has_step c n ≡ false → HeldBy far c n vs → tree_of (nth (parts c) n) ≡ None → FocusHolds far (completed c vs)
  may_end (of_expr a) n vs s h k = of_expression a s h k
    where
      of_expression : (e : Expr) → has_step (of_expr e) n ≡ false → HeldBy far (of_expr e) n vs → tree_of (nth (parts (of_expr e)) n) ≡ None → FocusHolds far (completed (of_expr e) vs)
      of_expression (listing es) s h k = absurd (argument_there (any_list ∷ []) es n s k)
      of_expression (call f es) s h k = absurd (argument_there (any_list ∷ []) es n s k)
      of_expression (verb_call o w es) s h k = absurd (behind_two es n s k)
        where
          behind_two : (es : Arguments) (m : ℕ) → has_step (of_expr (verb_call o w es)) m ≡ false → tree_of (nth (parts (of_expr (verb_call o w es))) m) ≡ None → ⊥
          behind_two es zero s k = cc
          behind_two es (suc zero) s k = cc
          behind_two es (suc (suc m)) s k = argument_there (any_value ∷ any_value ∷ any_list ∷ []) es m s k
      of_expression (caught b codes d) s h k = caught_ends b codes d n vs s h k
      of_expression e s h k = value_completes (of_expr e) vs h
  may_end (of_target t) n vs s h k = h
  may_end (of_default x a) n vs s h k = tt
  may_end (of_statement t) n vs s h k = tt
  may_end (of_program q) n vs s h k = tt

  -- ---- and where one is begun without a step

  at_next : (k m : ℕ) (vs : List Datum) → AtCode k m vs → (suc m ≡ k → ⊥) → AtCode k (suc m) vs
  at_next zero m vs h apart = h
  at_next (suc zero) zero vs h apart = absurd (apart refl)
  at_next (suc (suc k)) zero vs h apart = h
  at_next (suc k) (suc m) vs h apart = at_next k m vs h (λ e. apart (ap suc e))

  next_held : (c : Construct) (n : ℕ) (vs : List Datum) → has_step c n ≡ false → HeldBy far c n vs → HeldBy far c (suc n) vs
  next_held (of_expr a) n vs s h = of_expression a n s h
    where
      of_expression : (e : Expr) (m : ℕ) → has_step (of_expr e) m ≡ false → HeldBy far (of_expr e) m vs → HeldBy far (of_expr e) (suc m) vs
      of_expression (caught b codes d) zero s h = cc
      of_expression (caught b codes d) (suc zero) s h = cc
      of_expression (caught b any_code d) (suc (suc m)) s h = h
      of_expression (caught b (codes_in es) d) (suc (suc m)) s h = at_next (argument_count es) m vs h (not_last es m s)
      of_expression e m s h = h
  next_held (of_statement t) n vs s h = of_statement_held t h
    where
      of_statement_held : (u : Statement) → HeldBy far (of_statement u) n vs → HeldBy far (of_statement u) (suc n) vs
      of_statement_held (for_each x a p) h = h
      of_statement_held (guarded p arms) h = h
      of_statement_held (finished p q) h = h
      of_statement_held u h = h
  next_held c n vs s h = h

-- ---- on to a part

nth_less : (xs : List Part) (n : ℕ) (x : Part) → nth xs n ≡ Some x → suc n ≤ length xs
nth_less [] n x e = cc
nth_less (y ∷ ys) zero x e = omega arith
nth_less (y ∷ ys) (suc n) x e = let l : suc n ≤ length ys = nth_less ys n x e in omega (arith, l)

part_number : (p : Pending) (c : Construct) (n : ℕ) (x : Part) (ps : List Piece) → Base p → Under p c ps → nth (parts c) n ≡ Some x → IsTrue (nat_le 1 (suc n) && is_number (suc n))
part_number p c n x ps b u e =
    let i : suc n ≤ length (parts c) = nth_less (parts c) n x e in
    let j : length (parts c) ≤ construct_nodes c = parts_few c in
    let k : construct_nodes c ≤ program_nodes p.frame.program = nodes_within c (of_program p.frame.program) ps u in
    let l : program_nodes p.frame.program < 2 ^ 31 = small_number (program_nodes p.frame.program) (((b.1).1).0).1 in
    both_hold (nat_le 1 (suc n)) (is_number (suc n)) (le-leb 1 (suc n) (omega arith)) (below_in_range (suc n) (omega (arith, i, j, k, l)))

part_holds : (s : Scene) (p : Pending) (c : Construct) (n : ℕ) (vs : List Datum) (ps : List Piece) → SceneHolds s → Base p → Each (PieceHolds (frames p.outer)) ps → Under p c ps
    → HeldBy (frames p.outer) c (suc n) vs → (tree_of (nth (parts c) n) ≡ None → FocusHolds (frames p.outer) (completed c vs)) → TurnedHolds (on_part s p c n vs ps (nth (parts c) n))
part_holds s p c n vs ps w b h u k over = go (nth (parts c) n) refl
  where
    ended : tree_of (nth (parts c) n) ≡ None → TurnedHolds (to s p (completed c vs) ps)
    ended e = to_holds s p (completed c vs) ps w b h (over e)

    tree : (x : Part) (t : Option Construct) → x.tree ≡ t → nth (parts c) n ≡ Some x → TurnedHolds (on_tree s p c n vs ps t)
    tree x None f e = ended (ap tree_of e ∙ f)
    tree x (Some d) f e = to_holds s p (begin d) (piece c (suc n) vs ∷ ps) w b ((part_number p c n x ps b u e, k), h) tt

    go : (o : Option Part) → nth (parts c) n ≡ o → TurnedHolds (on_part s p c n vs ps o)
    go None e = ended (ap tree_of e)
    go (Some x) e = tree x x.tree refl e

reach_holds : (s : Scene) (p : Pending) (c : Construct) (n : ℕ) (vs : List Datum) (ps : List Piece) → SceneHolds s → Base p → Each (PieceHolds (frames p.outer)) ps → Under p c ps
    → HeldBy (frames p.outer) c n vs → TurnedHolds (reach s p c n vs ps)
reach_holds s p c n vs ps w b h u k = go (has_step c n) refl
  where
    go : (o : Bool) → has_step c n ≡ o → TurnedHolds (at_point s p c n vs ps o)
    go true e = to_holds s p (operate c n vs) ps w b h k
    go false e = part_holds s p c n vs ps w b h u (next_held (frames p.outer) c n vs e k) (may_end (frames p.outer) c n vs e k)

-- ---- errors

traces_more : (ts : List Traced) (t : Traced) → AreData (trace_values ts) → IsValue (traced_value t) → AreData (trace_values (ts ++ t ∷ []))
traces_more [] t h k = onto_data (traced_value t) no_data k refl
traces_more (u ∷ us) t h k =
    onto_data (traced_value u) (trace_values (us ++ t ∷ [])) (first_datum (traced_value u) (trace_values us) h) (traces_more us t (later_data (traced_value u) (trace_values us) h) k)

traced_holds : (player : ℤ) (c : Call) → InRange player → CallHolds c → IsValue (traced_value (traced player c))
traced_holds player c i h =
    data_of (object c.this ∷ text c.verb ∷ object c.programmer ∷ object c.definer ∷ object player ∷ [])
    (h.0, ((((h.1).1).1).1, ((((h.1).1).1).0, (((h.1).1).0, (i, tt)))))

traces_nest : (ts : List Traced) → IsTrue (items_nest_within (weight_limit - 2) (trace_values ts))
traces_nest [] = refl
traces_nest (t ∷ ts) = traces_nest ts

traces_are_short : (ts : List Traced) → IsTrue (items_are_short (trace_values ts))
traces_are_short [] = refl
traces_are_short (t ∷ ts) = traces_are_short ts

traces_counted : (ts : List Traced) → count (trace_values ts) ≡ length ts
traces_counted [] = refl
traces_counted (t ∷ ts) = ap suc (traces_counted ts)

come_holds : (player : ℤ) (c : Call) (f : Failure) → InRange player → CallHolds c → IsKept (failure_value f) → suc (length f.traceback) < 2 ^ 31
    → IsKept (failure_value (come_by player c f))
come_holds player c f i h k l =
    let all : AreData (failure_items f) = kept_data (failure_items f) k in
    let later : AreData (item (text f.message) (item f.value (item (list (trace_values f.traceback)) no_data))) = later_data f.code (item (text f.message) (item f.value (item (list (trace_values f.traceback)) no_data))) all in
    let last : AreData (item f.value (item (list (trace_values f.traceback)) no_data)) = later_data (text f.message) (item f.value (item (list (trace_values f.traceback)) no_data)) later in
    let traces : AreData (trace_values f.traceback) = first_datum (list (trace_values f.traceback)) no_data (later_data f.value (item (list (trace_values f.traceback)) no_data) last) in
    let more : List Traced = f.traceback ++ traced player c ∷ [] in
    let deep : ℕ = weight_limit - 1 in
    let flat : IsTrue (items_nest_within deep (failure_items f)) = items_of (failure_items f) k in
    let behind : IsTrue (nests_within deep f.value && items_nest_within deep (item (list (trace_values f.traceback)) no_data)) =
    second_holds (nests_within deep f.code) (nests_within deep f.value && items_nest_within deep (item (list (trace_values f.traceback)) no_data)) flat in
    let short : IsTrue (items_are_short (failure_items f)) = short_items_of (failure_items f) k in
    let short_behind : IsTrue (is_short f.value && items_are_short (item (list (trace_values f.traceback)) no_data)) =
    second_holds (is_short f.code) (is_short f.value && items_are_short (item (list (trace_values f.traceback)) no_data)) short in
    let longer : length more ≡ length f.traceback + 1 = length-append f.traceback (traced player c ∷ []) in
    let counted : count (trace_values more) ≡ length more = traces_counted more in
    list_kept (of_list (f.code ∷ text f.message ∷ f.value ∷ list (trace_values more) ∷ []))
    (both_hold (nests_within deep f.code) (nests_within deep f.value && items_nest_within deep (item (list (trace_values more)) no_data))
    (first_holds (nests_within deep f.code) (nests_within deep f.value && items_nest_within deep (item (list (trace_values f.traceback)) no_data)) flat)
    (both_hold (nests_within deep f.value) (items_nest_within deep (item (list (trace_values more)) no_data))
    (first_holds (nests_within deep f.value) (items_nest_within deep (item (list (trace_values f.traceback)) no_data)) behind)
    (both_hold (nests_within deep (list (trace_values more))) true (traces_nest more) refl)))
    (omega arith)
    (both_hold (is_short f.code) (is_short f.value && items_are_short (item (list (trace_values more)) no_data))
    (first_holds (is_short f.code) (is_short f.value && items_are_short (item (list (trace_values f.traceback)) no_data)) short)
    (both_hold (is_short f.value) (items_are_short (item (list (trace_values more)) no_data))
    (first_holds (is_short f.value) (items_are_short (item (list (trace_values f.traceback)) no_data)) short_behind)
    (both_hold (is_short (list (trace_values more))) true
    (both_hold (is_counted (trace_values more)) (items_are_short (trace_values more)) (counted_below (trace_values more) (omega (arith, l, longer, counted))) (traces_are_short more)) refl)))
    (data_of (f.code ∷ text f.message ∷ f.value ∷ list (trace_values more) ∷ []) (
      first_datum f.code (item (text f.message) (item f.value (item (list (trace_values f.traceback)) no_data))) all,
      (
        first_datum (text f.message) (item f.value (item (list (trace_values f.traceback)) no_data)) later,
        (first_datum f.value (item (list (trace_values f.traceback)) no_data) last, (traces_more f.traceback (traced player c) traces (traced_holds player c i h), tt)),
      ),
    ))

-- it comes by a verb with so many around it
comes : (around : ℕ) (player : ℤ) (c : Call) (f : Failure) → InRange player → CallHolds c → IsKept (failure_value f) → length f.traceback + suc around < 2 ^ 31
    → LeavingHolds around (failed (come_by player c f))
comes around player c f i h k l =
    let longer : length (f.traceback ++ traced player c ∷ []) ≡ length f.traceback + 1 = length-append f.traceback (traced player c ∷ []) in
    (come_holds player c f i h k (omega (arith, l)), below_in_range (length (f.traceback ++ traced player c ∷ []) + around) (omega (arith, l, longer)))

code_holds : (f : Failure) → IsKept (failure_value f) → IsKept f.code
code_holds f k = first_kept f.code (item (text f.message) (item f.value (item (list (trace_values f.traceback)) no_data))) k

error_holds : (around : ℕ) (player : ℤ) (c : Call) (f : Failure) → around ≤ 49 → InRange player → CallHolds c → FailureHolds f
    → LeavingHolds around (failed (come_by player c f))
error_holds around player c f few i h k =
    let none : length f.traceback ≡ 0 = ap length k.1 in comes around player c f i h k.0 (omega (arith, none, few))

failing_holds : (s : Scene) (p : Pending) (c : Construct) (ps : List Piece) (f : Failure) → SceneHolds s → FailureHolds f → Base p → Each (PieceHolds (frames p.outer)) ps
    → TurnedHolds (failing s p c ps f)
failing_holds s p c ps f w k b h = go (p.frame.call.debug || always_raises c)
  where
    go : (o : Bool) → TurnedHolds (if o then to s p (leave (failed (come_by p.player p.frame.call f))) ps else to s p (completed c (f.code ∷ [])) ps)
    go true = to_holds s p (leave (failed (come_by p.player p.frame.call f))) ps w b h (error_holds (frames p.outer) p.player p.frame.call f ((b.1).1).1 (b.0).0 ((b.0).1).0 k)
    go false = to_holds s p (completed c (f.code ∷ [])) ps w b h (value_completes (frames p.outer) c (f.code ∷ []) (code_holds f k.0, tt))

-- ---- calls

pub starting_holds : (player : ℤ) (c : Call) (word : Text) (s : Start) (args : Data) → InRange player → CallHolds c → IsPrinted word → StartHolds s → IsKept (list args)
    → Each VariableHolds (starting player c word s args)
starting_holds player c word s args i h j k l = (
  (refl, l),
  (
    (refl, k.0),
    (
      (refl, (h.1).0),
      (
        (refl, (k.1).0),
        (
          (refl, ((k.1).1).0),
          (
            (refl, refl),
            (
              (refl, refl),
              (
                (refl, k.1.1.1.1.0),
                ((refl, k.1.1.1.1.1.0), ((refl, refl), ((refl, refl), ((refl, refl), ((refl, i), ((refl, k.1.1.1.0), ((refl, refl), ((refl, h.0), ((refl, j), tt))))))))),
              ),
            ),
          ),
        ),
      ),
    ),
  ),
)

waiting_holds : (p : Pending) (ps : List Piece) → Base p → Each (PieceHolds (frames p.outer)) ps → EntryHolds (frames p.outer) (waiting_frame p ps)
waiting_holds p ps b h = (((b.0).1).0, ((b.1).0, (((b.1).1).0, ((((b.0).1).1).0, h))))

entering_holds : (s : Scene) (p : Pending) (c : Construct) (ps : List Piece) (between : List Entry) (d : Call) (body : Program) (args : Data) → SceneHolds s → Base p
    → Each (PieceHolds (frames p.outer)) ps → (EntriesHold (waiting_frame p ps ∷ p.outer) → EntriesHold (between ++ waiting_frame p ps ∷ p.outer)) → CallHolds d → ProgramHolds body → IsKept (list args) → TurnedHolds (entering s p c ps between d body args)
entering_holds s p c ps between d body args w b h more i j k = go (has_room p.outer)
  where
    go : (o : Bool)
        → TurnedHolds (if o then goes_on s (record p { focus = begin (of_program body); frame = called_frame p d body args; outer = between ++ waiting_frame p ps ∷ p.outer }) else failing s p c ps (failure too_many_calls))
    go true = (
      w,
      (
        (b.0).0,
        (
          tt,
          (
            (i, ((b.1).0, (j, (starting_holds p.player d d.verb p.frame.start args (b.0).0 i ((((i.1).1).1).1) (b.1).0 k, tt)))),
            more (waiting_holds p ps b h, (((b.0).1).1).1),
          ),
        ),
      ),
    )
    go false = failing_holds s p c ps (failure too_many_calls) w (failure_holds too_many_calls) b h

native_holds : (p : Pending) (c : Construct) (ps : List Piece) (e : NativeEffect) → NativeGives e → Base p → Each (PieceHolds (frames p.outer)) ps → TurnedHolds (native_effected p c ps e)
unfolding native_effected
native_holds p c ps (answers s a) w b h = go (limited_answer a) (limited_gives a w.1)
  where
    go : (r : Answer) → AnswerKept r → TurnedHolds (native_answered s p c ps r)
    go (gives v) k = to_holds s p (hand v) ps w.0 b h k
    go (raises e) k = failing_holds s p c ps (failure e) w.0 (failure_holds e) b h
native_holds p c ps (complains s f) w b h = failing_holds s p c ps f w.0 w.1 b h
native_holds p c ps (begins s n d body args) w b h =
    entering_holds s p c ps (native_entry n ∷ []) d body args w.0 b h (λ es. ((w.1).0, es)) ((w.1).1).0 (((w.1).1).1).0 (((w.1).1).1).1
native_holds p c ps (waits s why) w b h = (w.0, (w.1, (waiting_holds p ps b h, (((b.0).1).1).1)))
native_holds p c ps (dies s) w b h = (w, tt)
native_holds p c ps (becomes s who) w b h =
    let k = ((b.0).1).0 in
    to_holds s (with_programmer p who) (hand (integer (pos 0))) ps w.0 (((b.0).0, ((k.0, ((k.1).0, (((k.1).1).0, (w.1, (((k.1).1).1).1)))), ((b.0).1).1)), b.1) h refl

-- ---- a step

set_base : (p : Pending) (x : Text) (v : Datum) → IsPrinted x → IsKept v → Base p → Base (with_variable p x v)
set_base p x v i k b = (((b.0).0, (((b.0).1).0, (variable_put p.frame.variables x v i k (((b.0).1).1).0, (((b.0).1).1).1))), b.1)

effected_holds : (s : Scene) (p : Pending) (c : Construct) (ps : List Piece) (e : Effect) → SceneHolds s → Base p → Each (PieceHolds (frames p.outer)) ps → Under p c ps → EffectHolds (frames p.outer) c e
    → TurnedHolds (effected s p c ps e)
unfolding effected
effected_holds s p c ps (hands t v) w b h u k = to_holds t p (hand v) ps k.0 b h k.1
effected_holds s p c ps (errs t f) w b h u k = failing_holds t p c ps f k.0 k.1 b h
effected_holds s p c ps (takes zero vs) w b h u k = to_holds s p (completed c vs) ps w b h (k.1 refl)
effected_holds s p c ps (takes (suc n) vs) w b h u k = part_holds s p c n vs ps w b h u k.0 k.1
effected_holds s p c ps (ends t) w b h u k = to_holds t p next ps k b h tt
effected_holds s p c ps (leaves v) w b h u k = to_holds s p (leave v) ps w b h k
effected_holds s p c ps stays w b h u k = to_holds s p next ps w b h tt
effected_holds s p c ps (sets x v e) w b h u k = effected_holds s (with_variable p x v) c ps e w (set_base p x v (k.0).0 (k.0).1 b) h u k.1
effected_holds s p c ps (calls d body args) w b h u k = entering_holds s p c ps [] d body args w b h (λ es. es) k.0 (k.1).0 (k.1).1
effected_holds s p c ps (natively e) w b h u k = native_holds p c ps e k b h

-- ---- out of a verb

frame_base : (p : Pending) (f : Frame) (es : List Entry) → InRange p.player → FrameHolds (frames es) f → EntriesHold es → frames es ≤ 49 → Base (in_frame p f es)
frame_base p f es i h k r = ((i, (h.0, ((((h.1).1).1).0, k))), ((h.1).0, (((h.1).1).0, r)))

value_back : (s : Scene) (p : Pending) (v : Datum) (es : List Entry) → SceneHolds s → InRange p.player → IsKept v → EntriesHold es → frames es ≤ 49 → TurnedHolds (back_with s p v es)
value_back s p v [] w i k h r = (w, k)
value_back s p v (frame_entry f ∷ es) w i k h r = (w, (i, (k, (h.0, h.1))))
value_back s p v (native_entry n ∷ []) w i k h r = (w, k)
value_back s p v (native_entry n ∷ native_entry m ∷ es) w i k h r = (w, k)
value_back s p v (native_entry n ∷ frame_entry f ∷ es) w i k h r =
    native_holds (in_frame p f es) (of_expr (literal v)) f.pieces (native_turn s (caller_of (in_frame p f es)) n v)
    (stages_hold s (caller_of (in_frame p f es)) n v w (caller_holds (in_frame p f es) i ((h.1).0).0 (h.1).1) h.0 (kept_value v k))
    (frame_base p f es i (h.1).0 (h.1).1 (omega (arith, r))) (((((h.1).0).1).1).1).1

error_back : (s : Scene) (p : Pending) (f : Failure) (es : List Entry) → SceneHolds s → InRange p.player → LeavingHolds (frames es) (failed f) → EntriesHold es
    → TurnedHolds (raised_into s p f es)
error_back s p f [] w i k h = (w, tt)
error_back s p f (frame_entry g ∷ es) w i k h =
    (w, (i, (comes (frames es) p.player g.call f i (h.0).0 k.0 (small_number (length f.traceback + suc (frames es)) k.1), (h.0, h.1))))
error_back s p f (native_entry n ∷ es) w i k h = error_back s p f es w i k h.1

out_holds : (s : Scene) (p : Pending) (l : Leaving) → SceneHolds s → Base p → LeavingHolds (frames p.outer) l → TurnedHolds (out_of_verb s p l)
out_holds s p (returned v) w b k = value_back s p v p.outer w (b.0).0 k (((b.0).1).1).1 ((b.1).1).1
out_holds s p (failed f) w b k = error_back s p f p.outer w (b.0).0 k (((b.0).1).1).1
out_holds s p (broken m) w b k = value_back s p (integer (pos 0)) p.outer w (b.0).0 refl (((b.0).1).1).1 ((b.1).1).1
out_holds s p (continued m) w b k = value_back s p (integer (pos 0)) p.outer w (b.0).0 refl (((b.0).1).1).1 ((b.1).1).1

-- ---- a part that is left

one_less : (k : ℕ) → IsNumber (suc k) → IsNumber k
one_less k h = let l : suc k < 2 ^ 31 = small_number (suc k) h in below_in_range k (omega (arith, l))

out_of_holds : (around : ℕ) (l : Leaving) → LeavingHolds around l → LeavingHolds around (out_of_loop l)
out_of_holds around (returned v) h = h
out_of_holds around (failed f) h = h
out_of_holds around (broken zero) h = h
out_of_holds around (broken (suc k)) h = one_less k h
out_of_holds around (continued zero) h = h
out_of_holds around (continued (suc k)) h = one_less k h

statement_passes : (around : ℕ) (t : Statement) (n : ℕ) (l : Leaving) → LeavingHolds around l → LeavingHolds around (passed_by (of_statement t) n l)
statement_passes around (for_each x a p) (suc (suc zero)) l h = out_of_holds around l h
statement_passes around (for_range x a b p) (suc (suc (suc zero))) l h = out_of_holds around l h
statement_passes around (repeat x a p) (suc (suc zero)) l h = out_of_holds around l h
statement_passes around t n l h = h

passed_holds : (around : ℕ) (c : Construct) (n : ℕ) (l : Leaving) → LeavingHolds around l → LeavingHolds around (passed_by c n l)
passed_holds around (of_statement t) n l h = statement_passes around t n l h
passed_holds around c n l h = h

fits_program : (p : Pending) → Base p → IsTrue (program_fits [] p.frame.program)
fits_program p b = first_holds (program_fits [] p.frame.program) _ (((b.1).1).0).0

passing_holds : (s : Scene) (p : Pending) (l : Leaving) (q : Piece) (ps : List Piece) → SceneHolds s → Base p → Each (PieceHolds (frames p.outer)) ps → HeldBy (frames p.outer) q.construct q.part q.held
    → Under p q.construct ps → LeavingHolds (frames p.outer) l → TurnedHolds (passing s p l q ps (catches s q.construct q.part q.held l))
passing_holds s p l q ps w b h held u k =
    go (catches s q.construct q.part q.held l)
    (catches_hold (frames p.outer) (loop_names ps) q.construct s q.part q.held l w (linked_fits p.frame.program q.construct ps (fits_program p b) u) k)
  where
    taken : (e : Effect) → EffectHolds (frames p.outer) q.construct e → TurnedHolds (caught_by s p q ps e)
    taken stays j = reach_holds s p q.construct q.part q.held ps w b h u held
    taken (hands t v) j = effected_holds s p q.construct ps (hands t v) w b h u j
    taken (errs t f) j = effected_holds s p q.construct ps (errs t f) w b h u j
    taken (takes n vs) j = effected_holds s p q.construct ps (takes n vs) w b h u j
    taken (ends t) j = effected_holds s p q.construct ps (ends t) w b h u j
    taken (leaves v) j = effected_holds s p q.construct ps (leaves v) w b h u j
    taken (sets x v e) j = effected_holds s p q.construct ps (sets x v e) w b h u j
    taken (calls d body args) j = effected_holds s p q.construct ps (calls d body args) w b h u j
    taken (natively e) j = effected_holds s p q.construct ps (natively e) w b h u j

    go : (o : Option Effect) → CatchHolds (frames p.outer) q.construct o → TurnedHolds (passing s p l q ps o)
    go None j = to_holds s p (leave (passed_by q.construct q.part l)) ps w b h (passed_holds (frames p.outer) q.construct q.part l k)
    go (Some e) j = taken e j

-- ---- one turn

receiving_holds : (s : Scene) (p : Pending) (e : Expr) (v : Datum) (q : Piece) (ps : List Piece) → SceneHolds s → Base p → Each (PieceHolds (frames p.outer)) ps → HeldBy (frames p.outer) q.construct q.part q.held
    → tree_of (part_at q.construct q.part) ≡ Some (of_expr e) → Under p q.construct ps → IsKept v
    → TurnedHolds (receiving s p q ps (held_with (way_at q.construct q.part) q.held v))
receiving_holds s p e v q ps w b h held l u k = go (held_with (way_at q.construct q.part) q.held v) (received_holds (frames p.outer) q.construct q.part e q.held v l held k)
  where
    go : (o : Option (List Datum)) → IfThere (HeldBy (frames p.outer) q.construct q.part) o → TurnedHolds (receiving s p q ps o)
    go None i = failing_holds s p q.construct ps (failure type_mismatch) w (failure_holds type_mismatch) b h
    go (Some vs) i = reach_holds s p q.construct q.part vs ps w b h u i

ended_holds : (s : Scene) (p : Pending) → SceneHolds s → Base p → TurnedHolds (to s p (leave (returned (integer (pos 0)))) [])
ended_holds s p w b = to_holds s p (leave (returned (integer (pos 0)))) [] w b tt refl

loops_few : (p : Pending) (c : Construct) (ps : List Piece) → Base p → Under p c ps → loops ps + construct_height c ≤ 100
loops_few p c ps b u =
    let l : loops ps + construct_height c ≤ program_height p.frame.program = loops_lower c (of_program p.frame.program) ps u in
    let m : program_height p.frame.program ≤ 100 = leb-true (program_height p.frame.program) 100 (second_holds (program_fits [] p.frame.program) _ (((b.1).1).0).0) in
    omega (arith, l, m)

small_there : (p : Pending) (c : Construct) (ps : List Piece) → Base p → Under p c ps → Small c
small_there p c ps b u =
    let l : loops ps + construct_height c ≤ 100 = loops_few p c ps b u in
    let k : construct_nodes c ≤ program_nodes p.frame.program = nodes_within c (of_program p.frame.program) ps u in
    let m : program_nodes p.frame.program < 2 ^ 31 = small_number (program_nodes p.frame.program) (((b.1).1).0).1 in
    record { low = omega (arith, l); few = omega (arith, k, m) }

turn_holds : (s : Scene) (p : Pending) (f : Focus) (ps : List Piece) → SceneHolds s → ContentsFew s.world → Base p → Each (PieceHolds (frames p.outer)) ps → ps ≡ p.frame.pieces
    → LooksAt (of_program p.frame.program) ps f → FocusHolds (frames p.outer) f → TurnedHolds (turn_on s p f ps)
unfolding turn_on
turn_holds s p (begin c) ps w few b h is l k = reach_holds s p c 0 (held_at_first c) ps w b h l (first_held (frames p.outer) c)
turn_holds s p (operate c n vs) ps w few b h is l k =
    effected_holds s p c ps (effect s p c n vs) w b h l.1
    (effect_holds (frames p.outer) natives_hold (loop_names ps) c s p n vs w few b.0 (b.1).0 (small_there p c ps b l.1) (linked_fits p.frame.program c ps (fits_program p b) l.1)
    (subst (λ qs. (x : Option Text) → IsTrue (is_around (loop_names ps) x) → loops_left x qs ≤ 100) is loops_there) k)
  where
    loops_there : (x : Option Text) → IsTrue (is_around (loop_names ps) x) → loops_left x ps ≤ 100
    loops_there x i =
        let j : loops_left x ps < loops ps = loops_are_left x ps i in let m : loops ps + construct_height c ≤ 100 = loops_few p c ps b l.1 in omega (arith, j, m)
turn_holds s p (hand v) [] w few b h is l k = ended_holds s p w b
turn_holds s p (hand v) (q ∷ ps) w few b h is l k = receiving_holds s p l.0 v q ps w b h.1 (h.0).1 (l.1).0 (l.1).1 k
turn_holds s p (aim vs) [] w few b h is l k = ended_holds s p w b
turn_holds s p (aim vs) (q ∷ ps) w few b h is l k =
    reach_holds s p q.construct q.part (q.held ++ vs) ps w b h.1 (l.1).1 (aimed_holds (frames p.outer) q.construct q.part l.0 q.held vs (l.1).0 (h.0).1 k)
turn_holds s p next [] w few b h is l k = ended_holds s p w b
turn_holds s p next (q ∷ ps) w few b h is l k = reach_holds s p q.construct q.part q.held ps w b h.1 (l.2).1 (h.0).1
turn_holds s p (leave v) [] w few b h is l k = out_holds s p v w b k
turn_holds s p (leave v) (q ∷ ps) w few b h is l k = passing_holds s p v q ps w b h.1 (h.0).1 (l.1).1 k

pub turns_hold : TurnsHold
unfolding turn
turns_hold s p w few r stands h =
    let f = ((h.1).1).0 in
    turn_holds s p p.focus p.frame.pieces w few ((h.0, (f.0, ((((f.1).1).1).0, ((h.1).1).1))), ((f.1).0, (((f.1).1).0, r))) ((((f.1).1).1).1) refl stands.0 (h.1).0
