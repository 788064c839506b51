-- No turn leaves the programs of a task: what is looked at is always a part of the construct around it.
use Rattle.std.proofs.Common.{◌≡◌, ℕ, zero, suc, ◌||◌, Bool, true, false, List, [], ◌∷◌, ◌++◌, Option, Some, None, refl, ap, subst, IsTrue, if◌then◌else◌}
use Rattle.std.specs.Prelude.{pos}
use Rattle.spec_value.specs.Datum.{Datum, Data, integer, type_mismatch, too_many_calls}
use Rattle.spec_value.specs.Answer.{Answer, gives, raises, limited_answer}
use Rattle.spec_program.specs.Tree.{Expr, literal, Program}
use Rattle.spec_program.specs.Construct.{Construct, of_expr, of_target, of_default, of_statement, of_program, Piece}
use Rattle.spec_program.specs.Place.{Part, parts, nth, tree_of, part_at, Linked, is_call}
use Rattle.spec_world.specs.World.{Call, Native, Entry, frame_entry, native_entry}
use Rattle.spec_world.specs.WellFormed.{FramesStand}
use Rattle.spec_moo.specs.Scene.{Scene}
use Rattle.spec_moo.specs.Leaving.{Leaving, returned, failed, broken, continued, Failure, failure, come_by}
use Rattle.spec_moo.specs.Held.{way_at, held_at_first, held_with}
use Rattle.spec_moo.specs.NativeEffect.{NativeEffect, answers, complains, begins, waits, dies, becomes}
use Rattle.spec_moo.specs.Natives.{native_turn}
use Rattle.spec_moo.specs.Pending.{Focus, begin, hand, aim, operate, next, leave, Pending, goes_on, to, caller_of}
use Rattle.spec_moo.specs.Effect.{Effect, hands, errs, takes, ends, leaves, stays, sets, calls, natively}
use Rattle.spec_moo.specs.Tables.{has_step, effect, catches, passed_by}
use Rattle.spec_moo.specs.Turn.{piece, completed, on_tree, on_part, at_point, reach, failing, always_raises, has_room, waiting_frame, called_frame, entering, native_answered, native_effected, with_programmer, with_variable, effected, caught_by, passing, in_frame, back_in_native, back_with, raised_into, out_of_verb, receiving, turn_on, turn}
use Rattle.spec_moo.specs.Standing.{LooksAt, StandsStill, TurnsStay, StartsStand}
use Rattle.spec_moo.proofs.Suits.{Suits, effect_suits, SuitsSome, catches_suit}

-- the program of the innermost verb
abbrev root : Pending → Construct
root p = of_program p.frame.program

to_stays : (s : Scene) (p : Pending) (f : Focus) (ps : List Piece) → LooksAt (root p) ps f → FramesStand p.outer → StandsStill (to s p f ps)
to_stays s p f ps h o = (h, o)

completed_stays : (r c : Construct) (vs : List Datum) (ps : List Piece) → Linked c ps r → LooksAt r ps (completed c vs)
completed_stays r (of_expr e) vs ps h = (e, h)
completed_stays r (of_target t) vs ps h = (t, h)
completed_stays r (of_default x e) vs ps h = (of_default x e, refl, h)
completed_stays r (of_statement t) vs ps h = (of_statement t, refl, h)
completed_stays r (of_program q) vs ps h = (of_program q, refl, h)

-- ---- on to a part

part_stays : (s : Scene) (p : Pending) (c : Construct) (n : ℕ) (vs : List Datum) (ps : List Piece) → Linked c ps (root p) → FramesStand p.outer
    → StandsStill (on_part s p c n vs ps (nth (parts c) n))
part_stays s p c n vs ps h o = go (nth (parts c) n) refl
  where
    ended : StandsStill (to s p (completed c vs) ps)
    ended = to_stays s p (completed c vs) ps (completed_stays (root p) c vs ps h) o

    tree : (t : Option Construct) → tree_of (part_at c (suc n)) ≡ t → StandsStill (on_tree s p c n vs ps t)
    tree None is = ended
    tree (Some d) is = to_stays s p (begin d) (piece c (suc n) vs ∷ ps) (is, h) o

    go : (x : Option Part) → nth (parts c) n ≡ x → StandsStill (on_part s p c n vs ps x)
    go None is = ended
    go (Some x) is = tree x.tree (ap (λ y. tree_of y) is)

reach_stays : (s : Scene) (p : Pending) (c : Construct) (n : ℕ) (vs : List Datum) (ps : List Piece) → Linked c ps (root p) → FramesStand p.outer
    → StandsStill (reach s p c n vs ps)
reach_stays s p c n vs ps h o = go (has_step c n) refl
  where
    go : (b : Bool) → has_step c n ≡ b → StandsStill (at_point s p c n vs ps b)
    go true is = to_stays s p (operate c n vs) ps (is, h) o
    go false is = part_stays s p c n vs ps h o

-- ---- a step

failing_stays : (s : Scene) (p : Pending) (c : Construct) (ps : List Piece) (f : Failure) → Linked c ps (root p) → FramesStand p.outer → StandsStill (failing s p c ps f)
failing_stays s p c ps f h o = go (p.frame.call.debug || always_raises c)
  where
    go : (b : Bool) → StandsStill (if b then to s p (leave (failed (come_by p.player p.frame.call f))) ps else to s p (completed c (f.code ∷ [])) ps)
    go true = to_stays s p (leave (failed (come_by p.player p.frame.call f))) ps (c, h) o
    go false = to_stays s p (completed c (f.code ∷ [])) ps (completed_stays (root p) c (f.code ∷ []) ps h) o

-- the verb that calls stands at the call
entering_stays : (s : Scene) (p : Pending) (shown c : Construct) (ps : List Piece) (between : List Entry) (d : Call) (body : Program) (args : Data)
    → IsTrue (is_call c) → Linked c ps (root p) → FramesStand p.outer → ((es : List Entry) → FramesStand es → FramesStand (between ++ es))
    → StandsStill (failing s p shown ps (failure too_many_calls)) → StandsStill (entering s p shown ps between d body args)
entering_stays s p shown c ps between d body args is h o more refused = go (has_room p.outer)
  where
    go : (b : Bool)
        → StandsStill (if b then goes_on s (record p { focus = begin (of_program body); frame = called_frame p d body args; outer = between ++ waiting_frame p ps ∷ p.outer }) else failing s p shown ps (failure too_many_calls))
    go true = (refl, more (waiting_frame p ps ∷ p.outer) ((c, is, h), o))
    go false = refused

-- a call is an expression
call_hands : (r c : Construct) (v : Datum) (ps : List Piece) → IsTrue (is_call c) → Linked c ps r → LooksAt r ps (hand v)
call_hands r (of_expr e) v ps is h = (e, h)
call_hands r (of_target t) v ps is h = cc
call_hands r (of_default x e) v ps is h = cc
call_hands r (of_statement t) v ps is h = cc
call_hands r (of_program q) v ps is h = cc

-- what a built-in does in a verb that stands at a call is what an expression does there
call_fails : (s : Scene) (p : Pending) (e : Expr) (c : Construct) (ps : List Piece) (f : Failure) → IsTrue (is_call c) → Linked c ps (root p) → FramesStand p.outer
    → StandsStill (failing s p (of_expr e) ps f)
call_fails s p e c ps f is h o = go (p.frame.call.debug || false)
  where
    go : (b : Bool) → StandsStill (if b then to s p (leave (failed (come_by p.player p.frame.call f))) ps else to s p (hand f.code) ps)
    go true = to_stays s p (leave (failed (come_by p.player p.frame.call f))) ps (c, h) o
    go false = to_stays s p (hand f.code) ps (call_hands (root p) c f.code ps is h) o

answered_stays : (s : Scene) (p : Pending) (e : Expr) (c : Construct) (ps : List Piece) (a : Answer) → IsTrue (is_call c) → Linked c ps (root p) → FramesStand p.outer
    → StandsStill (native_answered s p (of_expr e) ps a)
answered_stays s p e c ps (gives v) is h o = to_stays s p (hand v) ps (call_hands (root p) c v ps is h) o
answered_stays s p e c ps (raises x) is h o = call_fails s p e c ps (failure x) is h o

native_stays : (p : Pending) (e : Expr) (c : Construct) (ps : List Piece) (x : NativeEffect) → IsTrue (is_call c) → Linked c ps (root p) → FramesStand p.outer
    → StandsStill (native_effected p (of_expr e) ps x)
unfolding native_effected
native_stays p e c ps (answers s a) is h o = answered_stays s p e c ps (limited_answer a) is h o
native_stays p e c ps (complains s f) is h o = call_fails s p e c ps f is h o
native_stays p e c ps (begins s n d body args) is h o =
    entering_stays s p (of_expr e) c ps (native_entry n ∷ []) d body args is h o (λ es k. k) (call_fails s p e c ps (failure too_many_calls) is h o)
native_stays p e c ps (waits s why) is h o = ((c, is, h), o)
native_stays p e c ps (dies s) is h o = tt
native_stays p e c ps (becomes s who) is h o =
    to_stays s (with_programmer p who) (hand (integer (pos 0))) ps (call_hands (root p) c (integer (pos 0)) ps is h) o

natively_stays : (p : Pending) (c : Construct) (ps : List Piece) (x : NativeEffect) → IsTrue (is_call c) → Linked c ps (root p) → FramesStand p.outer
    → StandsStill (native_effected p c ps x)
natively_stays p (of_expr e) ps x is h o = native_stays p e (of_expr e) ps x is h o
natively_stays p (of_target t) ps x is h o = cc
natively_stays p (of_default y e) ps x is h o = cc
natively_stays p (of_statement t) ps x is h o = cc
natively_stays p (of_program q) ps x is h o = cc

handed : (r c : Construct) (v : Datum) (ps : List Piece) (e : Expr) → c ≡ of_expr e → Linked c ps r → LooksAt r ps (hand v)
handed r c v ps e is h = (e, subst (λ d. Linked d ps r) is h)

effected_stays : (s : Scene) (p : Pending) (c : Construct) (ps : List Piece) (e : Effect) → Suits c e → Linked c ps (root p) → FramesStand p.outer
    → StandsStill (effected s p c ps e)
unfolding Suits effected
effected_stays s p c ps (hands t v) k h o = to_stays t p (hand v) ps (handed (root p) c v ps k.0 k.1 h) o
effected_stays s p c ps (errs t f) k h o = failing_stays t p c ps f h o
effected_stays s p c ps (takes zero vs) k h o = to_stays s p (completed c vs) ps (completed_stays (root p) c vs ps h) o
effected_stays s p c ps (takes (suc n) vs) k h o = part_stays s p c n vs ps h o
effected_stays s p c ps (ends t) k h o = to_stays t p next ps (c, k, h) o
effected_stays s p c ps (leaves l) k h o = to_stays s p (leave l) ps (c, h) o
effected_stays s p c ps stays k h o = to_stays s p next ps (c, k, h) o
effected_stays s p c ps (sets x v e) k h o = effected_stays s (with_variable p x v) c ps e k h o
effected_stays s p c ps (calls d body args) k h o =
    entering_stays s p c c ps [] d body args k h o (λ es j. j) (failing_stays s p c ps (failure too_many_calls) h o)
effected_stays s p c ps (natively e) k h o = natively_stays p c ps e k h o

-- ---- leaving

caught_stays : (s : Scene) (p : Pending) (q : Piece) (ps : List Piece) (e : Effect) → Suits q.construct e → Linked q.construct ps (root p) → FramesStand p.outer
    → StandsStill (caught_by s p q ps e)
caught_stays s p q ps stays k h o = reach_stays s p q.construct q.part q.held ps h o
caught_stays s p q ps e k h o = effected_stays s p q.construct ps e k h o

passing_stays : (s : Scene) (p : Pending) (l : Leaving) (q : Piece) (ps : List Piece) (r : Option Effect) → SuitsSome q.construct r
    → Linked q.construct ps (root p) → FramesStand p.outer → StandsStill (passing s p l q ps r)
unfolding SuitsSome
passing_stays s p l q ps None k h o = to_stays s p (leave (passed_by q.construct q.part l)) ps (q.construct, h) o
passing_stays s p l q ps (Some e) k h o = caught_stays s p q ps e k h o

native_back : (s : Scene) (p : Pending) (n : Native) (v : Datum) (es : List Entry) → FramesStand es → StandsStill (back_in_native s p n v es)
native_back s p n v [] o = tt
native_back s p n v (native_entry m ∷ es) o = tt
native_back s p n v (frame_entry f ∷ es) o =
    native_stays (in_frame p f es) (literal v) (o.0).0 f.pieces (native_turn s (caller_of (in_frame p f es)) n v) (o.0).1 (o.0).2 o.1

value_back : (s : Scene) (p : Pending) (v : Datum) (es : List Entry) → FramesStand es → StandsStill (back_with s p v es)
value_back s p v [] o = tt
value_back s p v (frame_entry f ∷ es) o = (call_hands (of_program f.program) (o.0).0 v f.pieces (o.0).1 (o.0).2, o.1)
value_back s p v (native_entry n ∷ es) o = native_back s p n v es o

error_back : (s : Scene) (p : Pending) (f : Failure) (es : List Entry) → FramesStand es → StandsStill (raised_into s p f es)
error_back s p f [] o = tt
error_back s p f (frame_entry g ∷ es) o = (((o.0).0, (o.0).2), o.1)
error_back s p f (native_entry n ∷ es) o = error_back s p f es o

out_stays : (s : Scene) (p : Pending) (l : Leaving) → FramesStand p.outer → StandsStill (out_of_verb s p l)
out_stays s p (returned v) o = value_back s p v p.outer o
out_stays s p (failed f) o = error_back s p f p.outer o
out_stays s p (broken k) o = value_back s p (integer (pos 0)) p.outer o
out_stays s p (continued k) o = value_back s p (integer (pos 0)) p.outer o

-- ---- one turn

receiving_stays : (s : Scene) (p : Pending) (q : Piece) (ps : List Piece) (vs : Option (List Datum)) → Linked q.construct ps (root p) → FramesStand p.outer
    → StandsStill (receiving s p q ps vs)
receiving_stays s p q ps None h o = failing_stays s p q.construct ps (failure type_mismatch) h o
receiving_stays s p q ps (Some vs) h o = reach_stays s p q.construct q.part vs ps h o

turn_stays : (s : Scene) (p : Pending) (f : Focus) (ps : List Piece) → LooksAt (root p) ps f → FramesStand p.outer → StandsStill (turn_on s p f ps)
unfolding turn_on
turn_stays s p (begin c) ps h o = reach_stays s p c 0 (held_at_first c) ps h o
turn_stays s p (operate c n vs) ps h o = effected_stays s p c ps (effect s p c n vs) (effect_suits c s p n vs h.0) h.1 o
turn_stays s p (hand v) [] h o = to_stays s p (leave (returned (integer (pos 0)))) [] (of_expr h.0, h.1) o
turn_stays s p (hand v) (q ∷ ps) h o = receiving_stays s p q ps (held_with (way_at q.construct q.part) q.held v) (h.1).1 o
turn_stays s p (aim vs) [] h o = to_stays s p (leave (returned (integer (pos 0)))) [] (of_target h.0, h.1) o
turn_stays s p (aim vs) (q ∷ ps) h o = reach_stays s p q.construct q.part (q.held ++ vs) ps (h.1).1 o
turn_stays s p next [] h o = to_stays s p (leave (returned (integer (pos 0)))) [] (h.0, h.2) o
turn_stays s p next (q ∷ ps) h o = reach_stays s p q.construct q.part q.held ps (h.2).1 o
turn_stays s p (leave l) [] h o = out_stays s p l o
turn_stays s p (leave l) (q ∷ ps) h o = passing_stays s p l q ps (catches s q.construct q.part q.held l) (catches_suit q.construct s q.part q.held l) (h.1).1 o

pub turns_stay : TurnsStay
unfolding turn
turns_stay s p h = turn_stays s p p.focus p.frame.pieces h.0 h.1

pub starts_stand : StartsStand
starts_stand p d body args = (refl, tt)
