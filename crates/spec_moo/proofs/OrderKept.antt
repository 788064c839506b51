-- Turns and segments keep the variables of each verb in the order of their names.
use Rattle.std.proofs.Common.{◌≡◌, ℕ, zero, suc, ℤ, pos, ◌++◌, ◌||◌, ◌&&◌, Bool, true, false, List, [], ◌∷◌, Option, Some, None, refl, IsTrue, if◌then◌else◌}
use Rattle.std.specs.List.{list_all}
use Rattle.spec_value.specs.Datum.{Datum, integer, Data, Text, type_mismatch, too_many_calls}
use Rattle.spec_value.specs.Answer.{Answer, gives, raises, limited_answer}
use Rattle.spec_value.specs.Table.{Named, is_named, with_name}
use Rattle.spec_value.proofs.Entries.{first_holds, second_holds, both_hold}
use Rattle.spec_value.proofs.Keys.{still_sorted}
use Rattle.spec_program.specs.Tree.{literal, Program}
use Rattle.spec_program.specs.Construct.{Construct, of_expr, Piece}
use Rattle.spec_program.specs.Place.{Part, parts, nth}
use Rattle.spec_program.specs.Trees.{is_name}
use Rattle.spec_world.specs.WellFormed.{is_variable}
use Rattle.spec_world.specs.World.{Call, Start, Native, Entry, frame_entry, native_entry}
use Rattle.spec_world.proofs.SlotChanges.{names_total}
use Rattle.spec_moo.specs.Scene.{Scene, with_ticks}
use Rattle.spec_moo.specs.Leaving.{Leaving, returned, failed, broken, continued, Failure, failure}
use Rattle.spec_moo.specs.Calling.{starting}
use Rattle.spec_moo.specs.Held.{way_at, held_at_first, held_with}
use Rattle.spec_moo.specs.NativeEffect.{NativeEffect, answers, complains, begins, waits, dies, becomes}
use Rattle.spec_moo.specs.Natives.{native_turn}
use Rattle.spec_moo.specs.Pending.{Focus, begin, hand, aim, operate, next, leave, Pending, caller_of, Turned, goes_on, halts, going_on}
use Rattle.spec_moo.specs.Effect.{Effect, hands, errs, takes, ends, leaves, stays, sets, calls, natively}
use Rattle.spec_moo.specs.Effects.Forks.{with_named, forked_task}
use Rattle.spec_moo.specs.Tables.{has_step, effect, catches}
use Rattle.spec_moo.specs.Turn.{cost, on_tree, on_part, at_point, reach, always_raises, failing, has_room, entering, native_answered, native_effected, with_variable, effected, caught_by, passing, in_frame, back_in_native, back_with, raised_into, out_of_verb, receiving, turn_on, turn}
use Rattle.spec_moo.specs.Sizes.{begins_stage}
use Rattle.spec_moo.specs.Segment as segments
use Rattle.spec_moo.specs.Segment.{Settled, charges, carried, free_turn, settle, settled, beyond, through, reached, paid, charged, unpaid, Ended, segment}
use Rattle.spec_moo.specs.Variables.{AreInOrder, is_in_order, IsInOrder, StopsInOrder, TurnedInOrder, GoesOnInOrder}

-- ---- one variable more, and a verb that begins

still_named : (vars : Named Datum) (x : Text) (v : Datum) → IsTrue (is_named vars) → IsTrue (is_named (with_name vars x v))
still_named vars x v h = still_sorted names_total x v vars h

pub starts_in_order : (player : ℤ) (c : Call) (word : Text) (s : Start) (args : Data) → IsTrue (is_named (starting player c word s args))
starts_in_order player c word s args = refl

pub starts_named : (player : ℤ) (c : Call) (word : Text) (s : Start) (args : Data) → IsTrue (list_all (λ e. is_variable e.0) (starting player c word s args))
starts_named player c word s args = refl

pub names_agree : (t : Text) → is_name t ≡ is_variable t
names_agree t = refl

pub forks_in_order : (p : Pending) (due : ℕ) (x : Option Text) (id : Datum) (body : Program) → IsInOrder p
    → AreInOrder (forked_task p due (with_named x id p.frame.variables) body).entries
forks_in_order p due x id body h = both_hold _ true (named x) refl
  where
    named : (y : Option Text) → IsTrue (is_named (with_named y id p.frame.variables))
    named None = h.0
    named (Some y) = still_named p.frame.variables y id h.0

pub waits_in_order : (player : ℤ) (f : Focus) (es : List Entry) → AreInOrder es → GoesOnInOrder (going_on player f es)
waits_in_order player f [] h = tt
waits_in_order player f (frame_entry g ∷ es) h = (first_holds (is_named g.variables) _ h, second_holds (is_named g.variables) _ h)
waits_in_order player f (native_entry n ∷ es) h = tt

-- ---- a turn

part_order : (s : Scene) (p : Pending) (c : Construct) (n : ℕ) (vs : List Datum) (ps : List Piece) (o : Option Part) → IsInOrder p
    → TurnedInOrder (on_part s p c n vs ps o)
part_order s p c n vs ps None h = h
part_order s p c n vs ps (Some x) h = go x.tree
  where
    go : (t : Option Construct) → TurnedInOrder (on_tree s p c n vs ps t)
    go None = h
    go (Some d) = h

reach_order : (s : Scene) (p : Pending) (c : Construct) (n : ℕ) (vs : List Datum) (ps : List Piece) → IsInOrder p → TurnedInOrder (reach s p c n vs ps)
reach_order s p c n vs ps h = go (has_step c n)
  where
    go : (b : Bool) → TurnedInOrder (at_point s p c n vs ps b)
    go true = h
    go false = part_order s p c n vs ps (nth (parts c) n) h

either_order : (b : Bool) (t u : Turned) → TurnedInOrder t → TurnedInOrder u → TurnedInOrder (if b then t else u)
either_order true t u h k = h
either_order false t u h k = k

failing_order : (s : Scene) (p : Pending) (c : Construct) (ps : List Piece) (f : Failure) → IsInOrder p → TurnedInOrder (failing s p c ps f)
failing_order s p c ps f h = either_order (p.frame.call.debug || always_raises c) _ _ h h

waiting_order : (p : Pending) → IsInOrder p → IsTrue (is_named p.frame.variables && list_all is_in_order p.outer)
waiting_order p h = both_hold (is_named p.frame.variables) _ h.0 h.1

called_order : (s : Scene) (p : Pending) (c : Construct) (ps : List Piece) (d : Call) (body : Program) (args : Data) → IsInOrder p
    → TurnedInOrder (entering s p c ps [] d body args)
called_order s p c ps d body args h =
    either_order (has_room p.outer) _ _ (starts_in_order p.player d d.verb p.frame.start args, waiting_order p h) (failing_order s p c ps (failure too_many_calls) h)

begun_order : (s : Scene) (p : Pending) (c : Construct) (ps : List Piece) (n : Native) (d : Call) (body : Program) (args : Data) → IsInOrder p
    → TurnedInOrder (entering s p c ps (native_entry n ∷ []) d body args)
begun_order s p c ps n d body args h =
    either_order (has_room p.outer) _ _ (starts_in_order p.player d d.verb p.frame.start args, waiting_order p h) (failing_order s p c ps (failure too_many_calls) h)

answered_order : (s : Scene) (p : Pending) (c : Construct) (ps : List Piece) (a : Answer) → IsInOrder p → TurnedInOrder (native_answered s p c ps a)
answered_order s p c ps (gives v) h = h
answered_order s p c ps (raises e) h = failing_order s p c ps (failure e) h

native_order : (p : Pending) (c : Construct) (ps : List Piece) (e : NativeEffect) → IsInOrder p → TurnedInOrder (native_effected p c ps e)
unfolding native_effected
native_order p c ps (answers s a) h = answered_order s p c ps (limited_answer a) h
native_order p c ps (complains s f) h = failing_order s p c ps f h
native_order p c ps (begins s n d body args) h = begun_order s p c ps n d body args h
native_order p c ps (waits s why) h = waiting_order p h
native_order p c ps (dies s) h = tt
native_order p c ps (becomes s who) h = h

effected_order : (s : Scene) (p : Pending) (c : Construct) (ps : List Piece) (e : Effect) → IsInOrder p → TurnedInOrder (effected s p c ps e)
unfolding effected
effected_order s p c ps (hands t v) h = h
effected_order s p c ps (errs t f) h = failing_order t p c ps f h
effected_order s p c ps (takes zero vs) h = h
effected_order s p c ps (takes (suc n) vs) h = part_order s p c n vs ps (nth (parts c) n) h
effected_order s p c ps (ends t) h = h
effected_order s p c ps (leaves l) h = h
effected_order s p c ps stays h = h
effected_order s p c ps (sets x v e) h = effected_order s (with_variable p x v) c ps e (still_named p.frame.variables x v h.0, h.1)
effected_order s p c ps (calls d body args) h = called_order s p c ps d body args h
effected_order s p c ps (natively e) h = native_order p c ps e h

caught_order : (s : Scene) (p : Pending) (q : Piece) (ps : List Piece) (e : Effect) → IsInOrder p → TurnedInOrder (caught_by s p q ps e)
caught_order s p q ps stays h = reach_order s p q.construct q.part q.held ps h
caught_order s p q ps e h = effected_order s p q.construct ps e h

passing_order : (s : Scene) (p : Pending) (l : Leaving) (q : Piece) (ps : List Piece) (o : Option Effect) → IsInOrder p → TurnedInOrder (passing s p l q ps o)
passing_order s p l q ps None h = h
passing_order s p l q ps (Some e) h = caught_order s p q ps e h

-- a verb that is left
native_back : (s : Scene) (p : Pending) (n : Native) (v : Datum) (es : List Entry) → AreInOrder es → TurnedInOrder (back_in_native s p n v es)
native_back s p n v [] h = tt
native_back s p n v (native_entry m ∷ es) h = tt
native_back s p n v (frame_entry f ∷ es) h =
    native_order (in_frame p f es) (of_expr (literal v)) f.pieces (native_turn s (caller_of (in_frame p f es)) n v)
    (first_holds (is_named f.variables) _ h, second_holds (is_named f.variables) _ h)

value_back : (s : Scene) (p : Pending) (v : Datum) (es : List Entry) → AreInOrder es → TurnedInOrder (back_with s p v es)
value_back s p v [] h = tt
value_back s p v (frame_entry f ∷ es) h = (first_holds (is_named f.variables) _ h, second_holds (is_named f.variables) _ h)
value_back s p v (native_entry n ∷ es) h = native_back s p n v es h

error_back : (s : Scene) (p : Pending) (f : Failure) (es : List Entry) → AreInOrder es → TurnedInOrder (raised_into s p f es)
error_back s p f [] h = tt
error_back s p f (frame_entry g ∷ es) h = (first_holds (is_named g.variables) _ h, second_holds (is_named g.variables) _ h)
error_back s p f (native_entry n ∷ es) h = error_back s p f es h

out_order : (s : Scene) (p : Pending) (l : Leaving) → AreInOrder p.outer → TurnedInOrder (out_of_verb s p l)
out_order s p (returned v) h = value_back s p v p.outer h
out_order s p (failed f) h = error_back s p f p.outer h
out_order s p (broken k) h = value_back s p (integer (pos 0)) p.outer h
out_order s p (continued k) h = value_back s p (integer (pos 0)) p.outer h

receiving_order : (s : Scene) (p : Pending) (q : Piece) (ps : List Piece) (vs : Option (List Datum)) → IsInOrder p → TurnedInOrder (receiving s p q ps vs)
receiving_order s p q ps None h = failing_order s p q.construct ps (failure type_mismatch) h
receiving_order s p q ps (Some vs) h = reach_order s p q.construct q.part vs ps h

turn_on_order : (s : Scene) (p : Pending) (f : Focus) (ps : List Piece) → IsInOrder p → TurnedInOrder (turn_on s p f ps)
unfolding turn_on
turn_on_order s p (begin c) ps h = reach_order s p c 0 (held_at_first c) ps h
turn_on_order s p (operate c n vs) ps h = effected_order s p c ps (effect s p c n vs) h
turn_on_order s p (hand v) [] h = h
turn_on_order s p (hand v) (q ∷ ps) h = receiving_order s p q ps (held_with (way_at q.construct q.part) q.held v) h
turn_on_order s p (aim vs) [] h = h
turn_on_order s p (aim vs) (q ∷ ps) h = reach_order s p q.construct q.part (q.held ++ vs) ps h
turn_on_order s p next [] h = h
turn_on_order s p next (q ∷ ps) h = reach_order s p q.construct q.part q.held ps h
turn_on_order s p (leave l) [] h = out_order s p l h.1
turn_on_order s p (leave l) (q ∷ ps) h = passing_order s p l q ps (catches s q.construct q.part q.held l) h

pub turns_keep_order : (s : Scene) (p : Pending) → IsInOrder p → TurnedInOrder (turn s p)
unfolding turn
turns_keep_order s p h = turn_on_order s p p.focus p.frame.pieces h

-- ---- a segment

abbrev SettledInOrder : Settled → Type 0
SettledInOrder (charges s p) = IsInOrder p
SettledInOrder (segments.begins s p) = IsInOrder p
SettledInOrder (segments.ends s why) = StopsInOrder why

abbrev EachKeeps : (Scene → Pending → Settled) → Type 0
EachKeeps more = (s : Scene) (p : Pending) → IsInOrder p → SettledInOrder (more s p)

carried_order : (more : Scene → Pending → Settled) (t : Turned) → EachKeeps more → TurnedInOrder t → SettledInOrder (carried more t)
carried_order more (goes_on s p) each h = each s p h
carried_order more (halts s why) each h = h

settle_order : (n : ℕ) (s : Scene) (p : Pending) → IsInOrder p → SettledInOrder (settle n s p)
unfolding settle
settle_order zero s p h = h
settle_order (suc n) s p h = go (settle_order n) (cost p) (begins_stage p)
  where
    go : EachKeeps (settle n) → (m : ℕ) (b : Bool) → SettledInOrder (free_turn m b (settle n) s p)
    go each zero false = carried_order (settle n) (turn s p) each (turns_keep_order s p h)
    go each zero true = h
    go each (suc m) b = h

through_order : (n : ℕ) (s : Scene) (p : Pending) → IsInOrder p → SettledInOrder (through n s p)
unfolding through
through_order zero s p h = settle_order _ s p h
through_order (suc n) s p h = go (through_order n) (settled s p) (settle_order _ s p h)
  where
    go : EachKeeps (through n) → (r : Settled) → SettledInOrder r → SettledInOrder (beyond (through n) r)
    go each (charges u q) m = m
    go each (segments.begins u q) m = carried_order (through n) (turn u q) each (turns_keep_order u q m)
    go each (segments.ends u why) m = m

abbrev EndsInOrder : Ended → Type 0
EndsInOrder e = StopsInOrder e.stop

pub segments_keep_order : (t : ℕ) (s : Scene) (p : Pending) → IsInOrder p → StopsInOrder (segment t s p).stop
unfolding segment
segments_keep_order zero s p h = go (reached s p) (through_order _ s p h)
  where
    go : (r : Settled) → SettledInOrder r → EndsInOrder (unpaid r)
    go (charges u q) m = tt
    go (segments.begins u q) m = tt
    go (segments.ends u why) m = m
segments_keep_order (suc t) s p h = go (segments_keep_order t) (reached s p) (through_order _ s p h)
  where
    on_turn : ((s : Scene) (p : Pending) → IsInOrder p → EndsInOrder (segment t s p)) → (r : Turned) → TurnedInOrder r → EndsInOrder (paid (segment t) t r)
    on_turn each (goes_on u q) m = each u q m
    on_turn each (halts u why) m = m

    go : ((s : Scene) (p : Pending) → IsInOrder p → EndsInOrder (segment t s p)) → (r : Settled) → SettledInOrder r → EndsInOrder (charged (segment t) t r)
    go each (charges u q) m = on_turn each (turn (with_ticks u t) q) (turns_keep_order (with_ticks u t) q m)
    go each (segments.begins u q) m = on_turn each (turn (with_ticks u t) q) (turns_keep_order (with_ticks u t) q m)
    go each (segments.ends u why) m = m
