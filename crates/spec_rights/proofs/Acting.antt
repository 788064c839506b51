-- Each turn acts as the programmer of the verb that is under way, or of the one whose built-in goes on.
use Rattle.std.proofs.Common.{inl, ℕ, zero, suc, ◌||◌, ◌++◌, pos, Bool, true, false, List, [], ◌∷◌, Option, Some, None, refl, if◌then◌else◌}
use Rattle.spec_value.specs.Datum.{Datum, integer, Data, type_mismatch, too_many_calls}
use Rattle.spec_value.specs.Answer.{Answer, gives, raises, limited_answer}
use Rattle.spec_program.specs.Tree.{literal, Program}
use Rattle.spec_program.specs.Construct.{Construct, of_expr, Piece}
use Rattle.spec_program.specs.Place.{Part, parts, nth}
use Rattle.spec_world.specs.World.{World, Entry, frame_entry, native_entry, Call}
use Rattle.spec_world.specs.Agreeing.{Agrees}
use Rattle.spec_moo.specs.Scene.{Scene}
use Rattle.spec_moo.specs.Leaving.{Leaving, returned, failed, broken, continued, Failure, failure}
use Rattle.spec_moo.specs.Held.{way_at, held_at_first, held_with}
use Rattle.spec_moo.specs.NativeEffect.{NativeEffect, answers, complains, begins, waits, dies, becomes}
use Rattle.spec_moo.specs.Natives.{native, native_turn}
use Rattle.spec_moo.specs.Natives.Tasks.{innermost, programmer_of}
use Rattle.spec_moo.specs.Properties.{Written, wrote, refused, write}
use Rattle.spec_moo.specs.Pending.{Focus, begin, hand, aim, operate, next, leave, Pending, caller_of, Turned}
use Rattle.spec_moo.specs.Effect.{Effect, hands, errs, takes, ends, leaves, stays, sets, calls, natively}
use Rattle.spec_moo.specs.Tables.{has_step, effect, catches}
use Rattle.spec_moo.specs.Sizes.{leaves_verb, begins_stage}
use Rattle.spec_moo.specs.Turn.{on_tree, on_part, at_point, reach, always_raises, failing, has_room, entering, native_answered, native_effected, with_variable, effected, caught_by, passing, in_frame, back_with, raised_into, out_of_verb, receiving, turn_on, turn}
use Rattle.spec_rights.specs.Permitted.{Concerns, Permitted}
use Rattle.spec_rights.specs.Chains.{scene_of, Begun, world_after, TurnsAct}
use Rattle.spec_rights.proofs.Changes.{nothing_changed}
use Rattle.spec_rights.proofs.Rows.{native_does, stage_does, does_permit}
use Rattle.spec_rights.proofs.Effects.{EffectGoes, WrittenGoes, Ready, CaughtGoes, effect_goes, catches_go}
use Rattle.spec_rights.proofs.Turns.{WrittenDoes, write_does}

-- ---- what holds of the world after a turn

module _ (P : World → Type 0) where
  abbrev Then : Turned → Type 0
  Then t = P (world_after t)

  abbrev Goes : Scene → Type 0
  Goes s = P s.world

  abbrev CallGoes : Call → Type 0
  CallGoes d = Unit {0}

  abbrev NativeGoes : NativeEffect → Type 0
  NativeGoes e = P (scene_of e).world

  part_acts : (s : Scene) (p : Pending) (c : Construct) (n : ℕ) (vs : List Datum) (ps : List Piece) (o : Option Part) → Goes s → Then (on_part s p c n vs ps o)
  part_acts s p c n vs ps None h = h
  part_acts s p c n vs ps (Some x) h = go x.tree
    where
      go : (t : Option Construct) → Then (on_tree s p c n vs ps t)
      go None = h
      go (Some d) = h

  reach_acts : (s : Scene) (p : Pending) (c : Construct) (n : ℕ) (vs : List Datum) (ps : List Piece) → Goes s → Then (reach s p c n vs ps)
  reach_acts s p c n vs ps h = go (has_step c n)
    where
      go : (o : Bool) → Then (at_point s p c n vs ps o)
      go true = h
      go false = part_acts s p c n vs ps (nth (parts c) n) h

  turned_if : (o : Bool) (t u : Turned) → Then t → Then u → Then (if o then t else u)
  turned_if true t u h k = h
  turned_if false t u h k = k

  failing_acts : (s : Scene) (p : Pending) (c : Construct) (ps : List Piece) (f : Failure) → Goes s → Then (failing s p c ps f)
  failing_acts s p c ps f h = turned_if (p.frame.call.debug || always_raises c) _ _ h h

  entering_acts : (s : Scene) (p : Pending) (c : Construct) (ps : List Piece) (between : List Entry) (d : Call) (body : Program) (args : Data) → Goes s
      → Then (entering s p c ps between d body args)
  entering_acts s p c ps between d body args h = turned_if (has_room p.outer) _ _ h (failing_acts s p c ps (failure too_many_calls) h)

  pub native_acts : (p : Pending) (c : Construct) (ps : List Piece) (e : NativeEffect) → NativeGoes e → Then (native_effected p c ps e)
  unfolding native_effected
  native_acts p c ps (answers s a) h = go (limited_answer a)
    where
      go : (r : Answer) → Then (native_answered s p c ps r)
      go (gives v) = h
      go (raises e) = failing_acts s p c ps (failure e) h
  native_acts p c ps (complains s f) h = failing_acts s p c ps f h
  native_acts p c ps (begins s n d body args) h = entering_acts s p c ps (native_entry n ∷ []) d body args h
  native_acts p c ps (waits s why) h = h
  native_acts p c ps (dies s) h = h
  native_acts p c ps (becomes s who) h = h

  effected_acts : (s : Scene) (p : Pending) (c : Construct) (ps : List Piece) (e : Effect) → Goes s → EffectGoes Goes CallGoes NativeGoes e → Then (effected s p c ps e)
  unfolding effected EffectGoes
  effected_acts s p c ps (hands t v) h k = k
  effected_acts s p c ps (errs t f) h k = failing_acts t p c ps f k
  effected_acts s p c ps (takes zero vs) h k = h
  effected_acts s p c ps (takes (suc n) vs) h k = part_acts s p c n vs ps (nth (parts c) n) h
  effected_acts s p c ps (ends t) h k = k
  effected_acts s p c ps (leaves l) h k = h
  effected_acts s p c ps stays h k = h
  effected_acts s p c ps (sets x v e) h k = effected_acts s (with_variable p x v) c ps e h k
  effected_acts s p c ps (calls d body args) h k = entering_acts s p c ps [] d body args h
  effected_acts s p c ps (natively e) h k = native_acts p c ps e k

  caught_acts : (s : Scene) (p : Pending) (q : Piece) (ps : List Piece) (e : Effect) → Goes s → EffectGoes Goes CallGoes NativeGoes e → Then (caught_by s p q ps e)
  caught_acts s p q ps stays h k = reach_acts s p q.construct q.part q.held ps h
  caught_acts s p q ps e h k = effected_acts s p q.construct ps e h k

  passing_acts : (s : Scene) (p : Pending) (l : Leaving) (q : Piece) (ps : List Piece) (o : Option Effect) → Goes s → CaughtGoes Goes CallGoes NativeGoes o
      → Then (passing s p l q ps o)
  passing_acts s p l q ps None h k = h
  passing_acts s p l q ps (Some e) h k = caught_acts s p q ps e h k

  receiving_acts : (s : Scene) (p : Pending) (q : Piece) (ps : List Piece) (vs : Option (List Datum)) → Goes s → Then (receiving s p q ps vs)
  receiving_acts s p q ps None h = failing_acts s p q.construct ps (failure type_mismatch) h
  receiving_acts s p q ps (Some vs) h = reach_acts s p q.construct q.part vs ps h

  raised_acts : (s : Scene) (p : Pending) (f : Failure) (es : List Entry) → Goes s → Then (raised_into s p f es)
  raised_acts s p f [] h = h
  raised_acts s p f (frame_entry g ∷ es) h = h
  raised_acts s p f (native_entry n ∷ es) h = raised_acts s p f es h

-- ---- one turn

module _ (s : Scene) (p : Pending) (a : Agrees s.world) where
  -- as the programmer of the innermost verb
  abbrev Mine : World → Type 0
  Mine u = Permitted (λ o. ⊥) s.world p.frame.call.programmer u

  mine : Mine s.world
  mine = nothing_changed (λ o. ⊥) s.world p.frame.call.programmer s.world refl refl (inl refl)

  ready : Ready (Goes Mine) (CallGoes Mine) (NativeGoes Mine) s p
  ready =
      record {
        calls = λ d own. tt;
        natives = λ name args.
            does_permit (λ o. ⊥) s.world p.frame.call.programmer (native s (caller_of p) name args) (native_does (λ o. ⊥) s (caller_of p) name args a);
        writes = λ x y v. written (write s.world p.frame.call.programmer x y v) (write_does (λ o. ⊥) s.world p.frame.call.programmer x y v);
        forks = λ due vars body. nothing_changed (λ o. ⊥) s.world p.frame.call.programmer _ refl refl (inl refl);
      }
    where
      written : (m : Written) → WrittenDoes (λ o. ⊥) s.world p.frame.call.programmer m → WrittenGoes (Goes Mine) (CallGoes Mine) (NativeGoes Mine) s m
      written (wrote u) d = d.permitted
      written (refused e) d = tt

  abbrev Acts : Bool → List Entry → Turned → Type 0
  Acts b es t = Permitted (Begun b es) s.world (if b then programmer_of (innermost es) else p.frame.call.programmer) (world_after t)

  value_back : (v : Datum) (es : List Entry) → Acts (Rattle.spec_moo.specs.Sizes.native_waits es) es (back_with s p v es)
  value_back v [] = mine
  value_back v (frame_entry f ∷ es) = mine
  value_back v (native_entry n ∷ []) = nothing_changed (Concerns n) s.world _ s.world refl refl (inl refl)
  value_back v (native_entry n ∷ native_entry m ∷ es) = nothing_changed (Concerns n) s.world _ s.world refl refl (inl refl)
  value_back v (native_entry n ∷ frame_entry f ∷ es) =
      native_acts (λ u. Permitted (Concerns n) s.world f.call.programmer u) (in_frame p f es) (of_expr (literal v)) f.pieces (native_turn s (caller_of (in_frame p f es)) n v)
      (does_permit (Concerns n) s.world f.call.programmer (native_turn s (caller_of (in_frame p f es)) n v) (stage_does (Concerns n) s (caller_of (in_frame p f es)) n v a (λ o i. i)))

  error_back : (f : Failure) (es : List Entry) → Acts (Rattle.spec_moo.specs.Sizes.native_waits es) es (raised_into s p f es)
  error_back f es =
      raised_acts (λ u. Permitted (Begun (Rattle.spec_moo.specs.Sizes.native_waits es) es) s.world (if Rattle.spec_moo.specs.Sizes.native_waits es then programmer_of (innermost es) else p.frame.call.programmer) u) s p f es
      (nothing_changed (Begun (Rattle.spec_moo.specs.Sizes.native_waits es) es) s.world _ s.world refl refl (inl refl))

  out_acts : (l : Leaving) → Acts (Rattle.spec_moo.specs.Sizes.native_waits p.outer) p.outer (out_of_verb s p l)
  out_acts (returned v) = value_back v p.outer
  out_acts (failed f) = error_back f p.outer
  out_acts (broken k) = value_back (integer (pos 0)) p.outer
  out_acts (continued k) = value_back (integer (pos 0)) p.outer

  on_acts : (f : Focus) (ps : List Piece) → Acts (leaves_verb f ps p.outer) p.outer (turn_on s p f ps)
  unfolding turn_on
  on_acts (begin c) ps = reach_acts Mine s p c 0 (held_at_first c) ps mine
  on_acts (operate c n vs) ps = effected_acts Mine s p c ps (effect s p c n vs) mine (effect_goes (Goes Mine) (CallGoes Mine) (NativeGoes Mine) s p ready c n vs mine)
  on_acts (hand v) [] = mine
  on_acts (hand v) (q ∷ ps) = receiving_acts Mine s p q ps (held_with (way_at q.construct q.part) q.held v) mine
  on_acts (aim vs) [] = mine
  on_acts (aim vs) (q ∷ ps) = reach_acts Mine s p q.construct q.part (q.held ++ vs) ps mine
  on_acts next [] = mine
  on_acts next (q ∷ ps) = reach_acts Mine s p q.construct q.part q.held ps mine
  on_acts (leave l) [] = out_acts l
  on_acts (leave l) (q ∷ ps) =
      passing_acts Mine s p l q ps (catches s q.construct q.part q.held l) mine (catches_go (Goes Mine) (CallGoes Mine) (NativeGoes Mine) q.construct s q.part q.held l mine)

pub turns_act : TurnsAct
unfolding turn
turns_act k s p h = on_acts s p h.world p.focus p.frame.pieces
