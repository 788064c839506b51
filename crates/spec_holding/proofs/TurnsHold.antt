-- Each turn keeps what tasks hold: in the verb that is under way, and in those that wait for it.
use Rattle.std.proofs.Common.{◌≡◌, ◌<◌, ℕ, zero, suc, ◌+◌, ℤ, pos, ◌||◌, Bool, true, false, List, [], ◌∷◌, ◌++◌, Option, Some, None, IsTrue, refl, sym, ap, subst, if◌then◌else◌}
use Rattle.std.specs.List.{list_all}
use Rattle.spec_value.specs.Datum.{Datum, integer, Data, Text, type_mismatch, too_many_calls}
use Rattle.spec_value.specs.Table.{is_named}
use Rattle.spec_value.specs.Answer.{Answer, gives, raises, limited_answer}
use Rattle.spec_value.proofs.Entries.{first_holds, second_holds, both_hold}
use Rattle.spec_value.proofs.Keys.{still_sorted}
use Rattle.spec_program.specs.Tree.{literal, Target, to_variable, to_property, to_index, to_range, Program}
use Rattle.spec_program.specs.Construct.{Construct, of_expr, of_target, of_default, of_statement, of_program, Piece}
use Rattle.spec_program.specs.Place.{Part, parts, nth, part_at, tree_of, Linked}
use Rattle.spec_program.specs.Trees.{program_fits, is_around}
use Rattle.spec_moo.specs.Effects.Loops.{loops_left}
use Rattle.spec_world.specs.World.{Call, Entry, frame_entry, native_entry}
use Rattle.spec_world.specs.WellFormed.{is_variable, held_fits, part_fits, pieces_fit, loops, nonempty}
use Rattle.spec_world.proofs.SlotChanges.{names_total}
use Rattle.spec_moo.specs.Scene.{Scene}
use Rattle.spec_moo.specs.Leaving.{Traced, traced, trace_values, Leaving, returned, failed, broken, continued, Failure, failure, come_by}
use Rattle.spec_moo.specs.Held.{way_at, held_at_first, held_with}
use Rattle.spec_moo.specs.NativeEffect.{NativeEffect, answers, complains, begins, waits, dies, becomes}
use Rattle.spec_moo.specs.Natives.{native_turn}
use Rattle.spec_moo.specs.Pending.{Focus, begin, hand, aim, operate, next, leave, Pending, caller_of, goes_on, to}
use Rattle.spec_moo.specs.Effect.{Effect, hands, errs, takes, ends, leaves, stays, sets, calls, natively}
use Rattle.spec_moo.specs.Tables.{has_step, effect, catches, passed_by}
use Rattle.spec_moo.specs.Standing.{LooksAt}
use Rattle.spec_moo.specs.Turn.{piece, completed, on_tree, on_part, at_point, reach, failing, always_raises, has_room, waiting_frame, called_frame, entering, native_answered, native_effected, with_programmer, with_variable, effected, caught_by, passing, in_frame, back_with, raised_into, out_of_verb, receiving, turn_on, turn}
use Rattle.spec_moo.proofs.OrderKept.{starts_in_order, starts_named}
use Rattle.spec_holding.specs.Points.{EndFits, PartFits, PointFits, ReachFits}
use Rattle.spec_holding.specs.Fitting.{loop_names, in_body, body_loops, is_code}
use Rattle.spec_holding.specs.UnderWay.{EntriesFit, SceneHolds, LeavingFits, FocusFits, TurnedHolds, NativeHolds, EffectFits, NativesHold, StagesHold, TurnsHold}
use Rattle.spec_holding.proofs.PointsReach.{beginnings_reach, values_reach, targets_reach, ends_reach}
use Rattle.spec_holding.proofs.TreesFit.{linked_fits, all_in_bodies, loops_are_left, most_bodies}
use Rattle.spec_holding.proofs.WorldsHold.{still_variables}
use Rattle.spec_holding.proofs.BuiltinsHold.{natives_hold, stages_hold}
use Rattle.spec_holding.proofs.EffectsFit.{traces_fit, effect_fits}
use Rattle.spec_holding.proofs.CatchesFit.{CatchFits, passed_fits, catches_fit, loop_goes_on}

-- ---- what does not change in a verb while its pieces do

abbrev Base : Pending → Type 0
Base p = (IsTrue (is_named p.frame.variables) × IsTrue (list_all (λ e. is_variable e.0) p.frame.variables)) × (IsTrue (program_fits [] p.frame.program) × EntriesFit p.outer)

abbrev Under : Pending → Construct → List Piece → Type 0
Under p c ps = Linked c ps (of_program p.frame.program)

to_holds : (s : Scene) (p : Pending) (f : Focus) (ps : List Piece) → SceneHolds s → Base p → IsTrue (pieces_fit ps) → FocusFits ps f → TurnedHolds (to s p f ps)
to_holds s p f ps w b h k = (w, (k, ((b.0, (h, (b.1).0)), (b.1).1)))

-- a target has no step, and no part that is no tree
abbrev NoTarget : Construct → Type 0
NoTarget (of_target t) = ⊥
NoTarget c = Unit {0}

ends_anyway : (c : Construct) (vs : List Datum) → NoTarget c → EndFits c vs
ends_anyway (of_expr a) vs h = tt
ends_anyway (of_target t) vs h = absurd h
ends_anyway (of_default x a) vs h = tt
ends_anyway (of_statement t) vs h = tt
ends_anyway (of_program q) vs h = tt

completed_fits : (root c : Construct) (vs : List Datum) (ps : List Piece) → EndFits c vs → Linked c ps root → FocusFits ps (completed c vs)
completed_fits root (of_expr a) vs ps h l = tt
completed_fits root (of_target t) vs [] h l = tt
completed_fits root (of_target t) vs (q ∷ ps) h l = (t, l.0, h)
completed_fits root (of_default x a) vs ps h l = tt
completed_fits root (of_statement t) vs ps h l = tt
completed_fits root (of_program q) vs ps h l = tt

-- ---- on to a part

treeless_target : (t : Target) (n : ℕ) (x : Part) (vs : List Datum) → nth (parts (of_target t)) n ≡ Some x → x.tree ≡ None → EndFits (of_target t) vs
treeless_target (to_variable y) n x vs e i = cc
treeless_target (to_property a b) zero x vs e i = let j = ap (λ (o : Option Part). tree_of o) e in cc
treeless_target (to_property a b) (suc zero) x vs e i = let j = ap (λ (o : Option Part). tree_of o) e in cc
treeless_target (to_property a b) (suc (suc n)) x vs e i = cc
treeless_target (to_index t a) zero x vs e i = let j = ap (λ (o : Option Part). tree_of o) e in cc
treeless_target (to_index t a) (suc zero) x vs e i = let j = ap (λ (o : Option Part). tree_of o) e in cc
treeless_target (to_index t a) (suc (suc n)) x vs e i = cc
treeless_target (to_range t a b) zero x vs e i = let j = ap (λ (o : Option Part). tree_of o) e in cc
treeless_target (to_range t a b) (suc zero) x vs e i = let j = ap (λ (o : Option Part). tree_of o) e in cc
treeless_target (to_range t a b) (suc (suc zero)) x vs e i = let j = ap (λ (o : Option Part). tree_of o) e in cc
treeless_target (to_range t a b) (suc (suc (suc n))) x vs e i = cc

treeless : (c : Construct) (n : ℕ) (x : Part) (vs : List Datum) → nth (parts c) n ≡ Some x → x.tree ≡ None → EndFits c vs
treeless (of_target t) n x vs e i = treeless_target t n x vs e i
treeless c n x vs e i = tt

part_holds : (s : Scene) (p : Pending) (c : Construct) (n : ℕ) (vs : List Datum) (ps : List Piece) → SceneHolds s → Base p → IsTrue (pieces_fit ps) → Under p c ps
    → PartFits (loops ps) c vs (nth (parts c) n) → TurnedHolds (on_part s p c n vs ps (nth (parts c) n))
part_holds s p c n vs ps w b h l k = go (nth (parts c) n) refl k
  where
    ended : EndFits c vs → TurnedHolds (to s p (completed c vs) ps)
    ended i = to_holds s p (completed c vs) ps w b h (completed_fits (of_program p.frame.program) c vs ps i l)

    tree : (x : Part) (t : Option Construct) → nth (parts c) n ≡ Some x → x.tree ≡ t → IsTrue (held_fits (loops ps) x.held vs)
        → TurnedHolds (on_tree s p c n vs ps t)
    tree x None e i j = ended (treeless c n x vs e i)
    tree x (Some d) e i j =
        to_holds s p (begin d) (piece c (suc n) vs ∷ ps) w b
        (both_hold (part_fits (loops ps) vs (part_at c (suc n))) _ (subst (λ o. IsTrue (part_fits (loops ps) vs o)) (sym e) j) h) tt

    go : (o : Option Part) → nth (parts c) n ≡ o → PartFits (loops ps) c vs o → TurnedHolds (on_part s p c n vs ps o)
    go None e i = ended i
    go (Some x) e i = tree x x.tree e refl i

reach_holds : (s : Scene) (p : Pending) (c : Construct) (n : ℕ) (vs : List Datum) (ps : List Piece) → SceneHolds s → Base p → IsTrue (pieces_fit ps) → Under p c ps
    → ReachFits (loops ps) c n vs → TurnedHolds (reach s p c n vs ps)
reach_holds s p c n vs ps w b h l k = go (has_step c n) k
  where
    go : (o : Bool) → PointFits (loops ps) c n vs o → TurnedHolds (at_point s p c n vs ps o)
    go true i = to_holds s p (operate c n vs) ps w b h i
    go false i = part_holds s p c n vs ps w b h l i

-- ---- errors

traced_more : (ts : List Traced) (t : Traced) → IsTrue (nonempty (trace_values (ts ++ t ∷ [])))
traced_more [] t = refl
traced_more (u ∷ us) t = refl

error_fits : (n : ℕ) (player : ℤ) (c : Call) (f : Failure) → LeavingFits n (failed (come_by player c f))
error_fits n player c f = both_hold (nonempty (trace_values (f.traceback ++ traced player c ∷ []))) _ (traced_more f.traceback (traced player c)) (traces_fit (f.traceback ++ traced player c ∷ []))

failing_holds : (s : Scene) (p : Pending) (c : Construct) (ps : List Piece) (f : Failure) → SceneHolds s → Base p → IsTrue (pieces_fit ps) → Under p c ps → NoTarget c
    → TurnedHolds (failing s p c ps f)
failing_holds s p c ps f w b h l plain = go (p.frame.call.debug || always_raises c)
  where
    go : (o : Bool) → TurnedHolds (if o then to s p (leave (failed (come_by p.player p.frame.call f))) ps else to s p (completed c (f.code ∷ [])) ps)
    go true = to_holds s p (leave (failed (come_by p.player p.frame.call f))) ps w b h (error_fits (body_loops ps) p.player p.frame.call f)
    go false = to_holds s p (completed c (f.code ∷ [])) ps w b h (completed_fits (of_program p.frame.program) c (f.code ∷ []) ps (ends_anyway c (f.code ∷ []) plain) l)

-- ---- calls

abbrev Between : List Entry → Type 0
Between between = (es : List Entry) → EntriesFit es → EntriesFit (between ++ es)

entering_holds : (s : Scene) (p : Pending) (c : Construct) (ps : List Piece) (between : List Entry) (d : Call) (body : Program) (args : Data) → SceneHolds s → Base p
    → IsTrue (pieces_fit ps) → IsTrue (program_fits [] body) → Between between → TurnedHolds (failing s p c ps (failure too_many_calls))
    → TurnedHolds (entering s p c ps between d body args)
entering_holds s p c ps between d body args w b h fits more refused = go (has_room p.outer)
  where
    go : (o : Bool)
        → TurnedHolds (if o then goes_on s (record p { focus = begin (of_program body); frame = called_frame p d body args; outer = between ++ waiting_frame p ps ∷ p.outer }) else failing s p c ps (failure too_many_calls))
    go true = (
      w,
      (
        tt,
        (
          ((starts_in_order p.player d d.verb p.frame.start args, starts_named p.player d d.verb p.frame.start args), (refl, fits)),
          more (waiting_frame p ps ∷ p.outer) ((b.0, (h, (b.1).0)), (b.1).1),
        ),
      ),
    )
    go false = refused

native_holds : (p : Pending) (c : Construct) (ps : List Piece) (e : NativeEffect) → NativeHolds e → Base p → IsTrue (pieces_fit ps)
    → ((s : Scene) (f : Failure) → SceneHolds s → TurnedHolds (failing s p c ps f)) → TurnedHolds (native_effected p c ps e)
unfolding native_effected
native_holds p c ps (answers s a) w b h fails = go (limited_answer a)
  where
    go : (r : Answer) → TurnedHolds (native_answered s p c ps r)
    go (gives v) = to_holds s p (hand v) ps w b h tt
    go (raises e) = fails s (failure e) w
native_holds p c ps (complains s f) w b h fails = fails s f w
native_holds p c ps (begins s n d body args) w b h fails =
    entering_holds s p c ps (native_entry n ∷ []) d body args w.0 b h w.1 (λ es k. (tt, k)) (fails s (failure too_many_calls) w.0)
native_holds p c ps (waits s why) w b h fails = (w, ((b.0, (h, (b.1).0)), (b.1).1))
native_holds p c ps (dies s) w b h fails = (w, tt)
native_holds p c ps (becomes s who) w b h fails = to_holds s (with_programmer p who) (hand (integer (pos 0))) ps w b h tt

-- ---- a step

left_early : (root c : Construct) (ps : List Piece) (l : Leaving) → IsTrue (is_code c) → Linked c ps root → LeavingFits (loops ps) l → LeavingFits (body_loops ps) l
left_early root c ps l h k i = subst (λ n. LeavingFits n l) (sym (all_in_bodies c root ps h k)) i

set_base : (p : Pending) (x : Text) (v : Datum) → IsTrue (is_variable x) → Base p → Base (with_variable p x v)
set_base p x v n b = ((still_sorted names_total x v p.frame.variables (b.0).0, still_variables p.frame.variables x v n (b.0).1), b.1)

effected_holds : (s : Scene) (p : Pending) (c : Construct) (ps : List Piece) (e : Effect) → SceneHolds s → Base p → IsTrue (pieces_fit ps) → Under p c ps → NoTarget c
    → EffectFits (loops ps) c e → TurnedHolds (effected s p c ps e)
unfolding effected
effected_holds s p c ps (hands t v) w b h l plain k = to_holds t p (hand v) ps k b h tt
effected_holds s p c ps (errs t f) w b h l plain k = failing_holds t p c ps f k b h l plain
effected_holds s p c ps (takes zero vs) w b h l plain k = to_holds s p (completed c vs) ps w b h (completed_fits (of_program p.frame.program) c vs ps k l)
effected_holds s p c ps (takes (suc n) vs) w b h l plain k = part_holds s p c n vs ps w b h l k
effected_holds s p c ps (ends t) w b h l plain k = to_holds t p next ps k b h tt
effected_holds s p c ps (leaves v) w b h l plain k = to_holds s p (leave v) ps w b h (left_early (of_program p.frame.program) c ps v k.0 l k.1)
effected_holds s p c ps stays w b h l plain k = to_holds s p next ps w b h tt
effected_holds s p c ps (sets x v e) w b h l plain k = effected_holds s (with_variable p x v) c ps e w (set_base p x v k.0 b) h l plain k.1
effected_holds s p c ps (calls d body args) w b h l plain k =
    entering_holds s p c ps [] d body args w b h k (λ es i. i) (failing_holds s p c ps (failure too_many_calls) w b h l plain)
effected_holds s p c ps (natively e) w b h l plain k = native_holds p c ps e k b h (λ t f i. failing_holds t p c ps f i b h l plain)

-- ---- a piece that goes on

-- where a tree is under way, its piece's part is there and its held values fit
piece_there : (c d : Construct) (n around : ℕ) (hs : List Datum) → tree_of (part_at c n) ≡ Some d → IsTrue (part_fits around hs (part_at c n))
    → (m : ℕ) × (n ≡ suc m) × (x : Part) × (nth (parts c) m ≡ Some x) × (x.tree ≡ Some d) × IsTrue (held_fits around x.held hs)
piece_there c d zero around hs e h = cc
piece_there c d (suc m) around hs e h = go (nth (parts c) m) refl e h
  where
    go : (o : Option Part) → nth (parts c) m ≡ o → tree_of o ≡ Some d → IsTrue (part_fits around hs o)
        → (k : ℕ) × (suc m ≡ suc k) × (x : Part) × (nth (parts c) k ≡ Some x) × (x.tree ≡ Some d) × IsTrue (held_fits around x.held hs)
    go None i j k = cc
    go (Some x) i j k = (m, refl, x, i, j, k)

lists_alone : (c : Construct) (n : ℕ) (hs : List Datum) (v : Datum) → held_with (way_at c n) hs v ≡ None → NoTarget c
lists_alone (of_target t) zero hs v e = cc
lists_alone (of_target t) (suc n) hs v e = cc
lists_alone c n hs v e = tt

stepping : (c : Construct) (n : ℕ) → has_step c n ≡ true → NoTarget c
stepping (of_target t) n e = cc
stepping c n e = tt

catching : (s : Scene) (c : Construct) (n : ℕ) (held : List Datum) (l : Leaving) (e : Effect) → catches s c n held l ≡ Some e → NoTarget c
catching s (of_target t) n held l e i = cc
catching s c n held l e i = tt

module _ (natives : NativesHold) (stages : StagesHold) where
  -- ---- out of a verb

  value_back : (s : Scene) (p : Pending) (v : Datum) (es : List Entry) → SceneHolds s → EntriesFit es → TurnedHolds (back_with s p v es)
  value_back s p v [] w h = (w, tt)
  value_back s p v (frame_entry f ∷ es) w h = (w, (tt, h))
  value_back s p v (native_entry n ∷ []) w h = (w, tt)
  value_back s p v (native_entry n ∷ native_entry m ∷ es) w h = (w, tt)
  value_back s p v (native_entry n ∷ frame_entry f ∷ es) w h =
      native_holds (in_frame p f es) (of_expr (literal v)) f.pieces (native_turn s (caller_of (in_frame p f es)) n v) (stages s (caller_of (in_frame p f es)) n v w) base (((h.1).0).1).0 fails
    where
      base : Base (in_frame p f es)
      base = (((h.1).0).0, ((((h.1).0).1).1, (h.1).1))

      fails : (t : Scene) (g : Failure) → SceneHolds t → TurnedHolds (failing t (in_frame p f es) (of_expr (literal v)) f.pieces g)
      fails t g k = go (f.call.debug || false)
        where
          go : (o : Bool) → TurnedHolds (if o then to t (in_frame p f es) (leave (failed (come_by p.player f.call g))) f.pieces else to t (in_frame p f es) (hand g.code) f.pieces)
          go true = to_holds t (in_frame p f es) (leave (failed (come_by p.player f.call g))) f.pieces k base (((h.1).0).1).0 (error_fits (body_loops f.pieces) p.player f.call g)
          go false = to_holds t (in_frame p f es) (hand g.code) f.pieces k base (((h.1).0).1).0 tt

  error_back : (s : Scene) (p : Pending) (f : Failure) (es : List Entry) → SceneHolds s → EntriesFit es → TurnedHolds (raised_into s p f es)
  error_back s p f [] w h = (w, tt)
  error_back s p f (frame_entry g ∷ es) w h = (w, (error_fits (body_loops g.pieces) p.player g.call f, h))
  error_back s p f (native_entry n ∷ es) w h = error_back s p f es w h.1

  out_holds : (s : Scene) (p : Pending) (l : Leaving) → SceneHolds s → Base p → TurnedHolds (out_of_verb s p l)
  out_holds s p (returned v) w b = value_back s p v p.outer w (b.1).1
  out_holds s p (failed f) w b = error_back s p f p.outer w (b.1).1
  out_holds s p (broken k) w b = value_back s p (integer (pos 0)) p.outer w (b.1).1
  out_holds s p (continued k) w b = value_back s p (integer (pos 0)) p.outer w (b.1).1

  -- ---- a part that is left

  passing_holds : (s : Scene) (p : Pending) (l : Leaving) (q : Piece) (ps : List Piece) → SceneHolds s → Base p → IsTrue (pieces_fit ps) → Under p q.construct ps
      → LeavingFits (in_body q.construct q.part + body_loops ps) l → TurnedHolds (passing s p l q ps (catches s q.construct q.part q.held l))
  passing_holds s p l q ps w b h under k = go (catches s q.construct q.part q.held l) refl (catches_fit (loop_names ps) (loops ps) (body_loops ps) q.construct s q.part q.held l w
      (linked_fits p.frame.program q.construct ps (b.1).0 under) (most_bodies ps) k)
    where
      taken : (e : Effect) → catches s q.construct q.part q.held l ≡ Some e → EffectFits (loops ps) q.construct e → TurnedHolds (caught_by s p q ps e)
      taken stays i j = reach_holds s p q.construct q.part q.held ps w b h under (loop_goes_on (loops ps) q.construct s q.part q.held q.held l j i)
      taken e i j = effected_holds s p q.construct ps e w b h under (catching s q.construct q.part q.held l e i) j

      go : (o : Option Effect) → catches s q.construct q.part q.held l ≡ o → CatchFits (loops ps) q.construct o → TurnedHolds (passing s p l q ps o)
      go None i j = to_holds s p (leave (passed_by q.construct q.part l)) ps w b h (passed_fits s q.construct q.part (body_loops ps) q.held l i k)
      go (Some e) i j = taken e i j

  -- ---- one turn

  receiving_holds : (s : Scene) (p : Pending) (v : Datum) (q : Piece) (ps : List Piece) → SceneHolds s → Base p → IsTrue (pieces_fit (q ∷ ps))
      → LooksAt (of_program p.frame.program) (q ∷ ps) (hand v) → TurnedHolds (receiving s p q ps (held_with (way_at q.construct q.part) q.held v))
  receiving_holds s p v q ps w b h l = go (held_with (way_at q.construct q.part) q.held v) refl
    where
      there : (m : ℕ) × (q.part ≡ suc m) × (x : Part) × (nth (parts q.construct) m ≡ Some x) × (x.tree ≡ Some (of_expr l.0)) × IsTrue (held_fits (loops ps) x.held q.held)
      there = piece_there q.construct (of_expr l.0) q.part (loops ps) q.held (l.1).0 (first_holds (part_fits (loops ps) q.held (part_at q.construct q.part)) _ h)

      rest : IsTrue (pieces_fit ps)
      rest = second_holds (part_fits (loops ps) q.held (part_at q.construct q.part)) _ h

      go : (o : Option (List Datum)) → held_with (way_at q.construct q.part) q.held v ≡ o → TurnedHolds (receiving s p q ps o)
      go None e = failing_holds s p q.construct ps (failure type_mismatch) w b rest (l.1).1 (lists_alone q.construct q.part q.held v e)
      go (Some vs) e =
          reach_holds s p q.construct q.part vs ps w b rest (l.1).1
          (subst (λ n. ReachFits (loops ps) q.construct n vs) (sym there.1)
          (values_reach (loops ps) q.construct there.0 there.2 l.0 q.held vs v there.3 there.4 there.5 (subst (λ n. held_with (way_at q.construct n) q.held v ≡ Some vs) there.1 e)))

  ended_holds : (s : Scene) (p : Pending) → SceneHolds s → Base p → TurnedHolds (to s p (leave (returned (integer (pos 0)))) [])
  ended_holds s p w b = to_holds s p (leave (returned (integer (pos 0)))) [] w b refl refl

  turn_holds : (s : Scene) (p : Pending) (f : Focus) (ps : List Piece) → SceneHolds s → Base p → IsTrue (pieces_fit ps) → ps ≡ p.frame.pieces
      → LooksAt (of_program p.frame.program) ps f → FocusFits ps f → TurnedHolds (turn_on s p f ps)
  unfolding turn_on
  turn_holds s p (begin c) ps w b h is l k = reach_holds s p c 0 (held_at_first c) ps w b h l (beginnings_reach (loops ps) c)
  turn_holds s p (operate c n vs) ps w b h is l k =
      effected_holds s p c ps (effect s p c n vs) w b h l.1 (stepping c n l.0)
      (effect_fits natives (loop_names ps) (loops ps) c s p n vs w (linked_fits p.frame.program c ps (b.1).0 l.1)
      (subst (λ qs. (x : Option Text) → IsTrue (is_around (loop_names ps) x) → loops_left x qs < loops ps) is (λ x i. loops_are_left x ps i)) b.0 k)
  turn_holds s p (hand v) [] w b h is l k = ended_holds s p w b
  turn_holds s p (hand v) (q ∷ ps) w b h is l k = receiving_holds s p v q ps w b h l
  turn_holds s p (aim vs) [] w b h is l k = ended_holds s p w b
  turn_holds s p (aim vs) (q ∷ ps) w b h is l k =
      let there = piece_there q.construct (of_target k.0) q.part (loops ps) q.held k.1 (first_holds (part_fits (loops ps) q.held (part_at q.construct q.part)) _ h) in
      reach_holds s p q.construct q.part (q.held ++ vs) ps w b (second_holds (part_fits (loops ps) q.held (part_at q.construct q.part)) _ h) (l.1).1
      (subst (λ n. ReachFits (loops ps) q.construct n (q.held ++ vs)) (sym there.1)
      (targets_reach (loops ps) q.construct there.0 there.2 k.0 q.held vs there.3 there.4 there.5 k.2))
  turn_holds s p next [] w b h is l k = ended_holds s p w b
  turn_holds s p next (q ∷ ps) w b h is l k =
      let there = piece_there q.construct l.0 q.part (loops ps) q.held (l.2).0 (first_holds (part_fits (loops ps) q.held (part_at q.construct q.part)) _ h) in
      reach_holds s p q.construct q.part q.held ps w b (second_holds (part_fits (loops ps) q.held (part_at q.construct q.part)) _ h) (l.2).1
      (subst (λ n. ReachFits (loops ps) q.construct n q.held) (sym there.1)
      (ends_reach (loops ps) q.construct l.0 there.0 there.2 q.held there.3 there.4 l.1 there.5))
  turn_holds s p (leave v) [] w b h is l k = out_holds s p v w b
  turn_holds s p (leave v) (q ∷ ps) w b h is l k =
      passing_holds s p v q ps w b (second_holds (part_fits (loops ps) q.held (part_at q.construct q.part)) _ h) (l.1).1 k

pub turns_hold : TurnsHold
unfolding turn
turns_hold s p w stands h =
    turn_holds natives_hold stages_hold s p p.focus p.frame.pieces w (((h.1).0).0, ((((h.1).0).1).1, (h.1).1)) (((h.1).0).1).0 refl stands.0 h.0
