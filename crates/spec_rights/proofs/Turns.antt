-- Each turn leads from a world to one that permitted changes reach, and what then runs or waits has a right to.
use Rattle.std.proofs.Common.{◌≡◌, ◌⊎◌, inl, inr, ℕ, zero, suc, ◌||◌, Bool, true, false, List, [], ◌∷◌, ◌++◌, Option, Some, None, refl, subst, if◌then◌else◌, ℤ, pos}
use Rattle.spec_value.specs.Datum.{Datum, integer, object, text, error, list, Data, to_list, Text, same_text, is_true, type_mismatch, too_many_calls, limit_exceeded}
use Rattle.spec_value.specs.Answer.{Answer, gives, raises, limited_answer}
use Rattle.spec_value.specs.Table.{with}
use Rattle.spec_program.specs.Tree.{literal, Program}
use Rattle.spec_program.specs.Construct.{Construct, of_expr, Piece}
use Rattle.spec_program.specs.Place.{Part, parts, nth}
use Rattle.spec_world.specs.World.{World, Object, Slot, Native, Entry, frame_entry, native_entry, Call, Task, object_at}
use Rattle.spec_world.specs.Agreeing.{Agrees}
use Rattle.spec_world.specs.Inherit.{slot_at}
use Rattle.spec_world.specs.Permissions as act
use Rattle.spec_world.specs.Permissions.{may}
use Rattle.spec_moo.specs.Scene.{Scene, next_id}
use Rattle.spec_moo.specs.Properties.{BuiltInProperty, built_in, writing, with_built_in, Written, wrote, refused, write_built_in, write_slot, write_valid, write_object, write}
use Rattle.spec_moo.specs.Pending.{Focus, begin, hand, aim, operate, next, leave, Pending, Stop, waiting, Turned, goes_on, halts, caller_of}
use Rattle.spec_moo.specs.Leaving.{Leaving, returned, failed, broken, continued, Failure, failure}
use Rattle.spec_moo.specs.Held.{way_at, held_at_first, held_with}
use Rattle.spec_moo.specs.NativeEffect.{NativeEffect, answers, complains, begins, waits, dies, becomes}
use Rattle.spec_moo.specs.Natives.{native, native_turn}
use Rattle.spec_moo.specs.Effect.{Effect, hands, errs, takes, ends, leaves, stays, sets, calls, natively}
use Rattle.spec_moo.specs.Effects.Forks.{forked_task}
use Rattle.spec_moo.specs.Tables.{has_step, effect, catches}
use Rattle.spec_moo.specs.Turn.{on_tree, on_part, at_point, reach, always_raises, failing, has_room, waiting_frame, entering, native_answered, native_effected, with_variable, effected, caught_by, passing, in_frame, back_in_native, back_with, raised_into, out_of_verb, receiving, turn_on, turn}
use Rattle.spec_rights.specs.Chains.{Right, to_run_as, to_take, Holds, EntriesHold, PendingHolds}
use Rattle.spec_rights.proofs.Changes.{built_in_written, slot_changed}
use Rattle.spec_rights.proofs.Doing.{Among, among_put, of_tasks, to_tasks, OwnsVerb, SoughtOwned, verb_owned, Does}
use Rattle.spec_rights.proofs.Doing as doing
use Rattle.spec_rights.proofs.Rows.{native_does, stage_does}
use Rattle.spec_rights.proofs.Effects.{EffectGoes, WrittenGoes, Ready, CaughtGoes, effect_goes, catches_go}
use Rattle.spec_rights.proofs.Extending.{Grows, holds_more, entries_more, pending_more, Reached, After, changed, served, NativeReaches, native_reaches}
use Rattle.spec_rights.proofs.Extending as extending

-- ---- properties that are written

module _ (begun : ℤ → Type 0) (w : World) (who : ℤ) where
  abbrev pub WrittenDoes : Written → Type 0
  WrittenDoes (wrote u) = Does begun w who u
  WrittenDoes (refused e) = Unit {0}

  pub write_does : (x y v : Datum) → WrittenDoes (write w who x y v)
  unfolding write
  write_does (object o) (text p) v = go (object_at w o) refl
    where
      slot : (m : Option Slot) → slot_at w o p ≡ m → WrittenDoes (write_slot w who o p v m)
      slot None e = tt
      slot (Some s) e = by (may w who (act.write_slot o p)) refl
        where
          by : (b : Bool) → may w who (act.write_slot o p) ≡ b
              → WrittenDoes (if b then wrote (Rattle.spec_world.specs.Inherit.with_slot w o p (record s { content = Some v })) else refused Rattle.spec_value.specs.Datum.permission_denied)
          by false k = tt
          by true k =
              doing.done begun w who (Rattle.spec_world.specs.Inherit.with_slot w o p (record s { content = Some v }))
              (slot_changed begun w who o p s (record s { content = Some v }) e (record { rest = inr k; owner = inl refl })) (Rattle.spec_world.proofs.WorldsKept.slot_rest w o p (record s { content = Some v }))

      built : (x : Object) → object_at w o ≡ Some x → (b : BuiltInProperty) (m : Option Object) → with_built_in x b v ≡ m → WrittenDoes (write_built_in w o (may w who (writing o b)) m)
      built x is b None e = tt
      built x is b (Some y) e = by (may w who (writing o b)) refl
        where
          by : (c : Bool) → may w who (writing o b) ≡ c
              → WrittenDoes (if c then wrote (Rattle.spec_world.specs.World.with_object w o y) else refused Rattle.spec_value.specs.Datum.permission_denied)
          by false k = tt
          by true k = doing.done begun w who (Rattle.spec_world.specs.World.with_object w o y) (built_in_written begun w who o x y b v is e k) (record { links = refl; tasks = refl; next = refl })

      valid : (x : Object) → object_at w o ≡ Some x → (m : Option BuiltInProperty) → WrittenDoes (write_valid w who o p v x m)
      valid x is None = slot (slot_at w o p) refl
      valid x is (Some b) = built x is b (with_built_in x b v) refl

      go : (m : Option Object) → object_at w o ≡ m → WrittenDoes (write_object w who o p v m)
      go None e = tt
      go (Some x) e = valid x e (built_in p)
  write_does (object o) (integer n) v = tt
  write_does (object o) (object n) v = tt
  write_does (object o) (error n) v = tt
  write_does (object o) (list n) v = tt
  write_does (integer o) y v = tt
  write_does (text o) y v = tt
  write_does (error o) y v = tt
  write_does (list o) y v = tt

pub owner_runs : (start : Right → Bool) (w : World) (gs : List Right) (u : World) → Reached start w gs u → (o : ℤ) → OwnsVerb u o → Holds start gs (to_run_as o)
owner_runs start w gs u r o (q, x, n, v, e, i, k) = subst (λ z. Holds start gs (to_run_as z)) k (r.all.verbs q x n v e i)

-- a task is queued, whose entries have their rights
pub task_put : (start : Right → Bool) (w : World) (gs : List Right) (u : World) (i : ℤ) (t : Task) → Reached start w gs u → EntriesHold (Holds start gs) t.entries
    → Reached start w gs (record u { tasks = with u.tasks i t })
task_put start w gs u i t r h =
    served start w gs u (record u { tasks = with u.tasks i t }) r (refl, refl, refl) (to_tasks (Holds start gs) (with u.tasks i t) (λ es k. go es (among_put u.tasks i t es k)))
  where
    go : (es : List Entry) → (t.entries ≡ es) ⊎ Among u.tasks es → EntriesHold (Holds start gs) es
    go es (inl e) = subst (EntriesHold (Holds start gs)) e h
    go es (inr k) = of_tasks (Holds start gs) u.tasks es r.all.tasks k

-- what a turn leads to
module _ (start : Right → Bool) (w : World) where
  abbrev pub Halted : List Right → Scene → Stop → Type 0
  Halted hs s (waiting why es) = Reached start w hs s.world × EntriesHold (Holds start hs) es
  Halted hs s why = Reached start w hs s.world

  abbrev pub TurnedReaches : Turned → Type 0
  TurnedReaches (goes_on s p) = (hs : List Right) × (Reached start w hs s.world × PendingHolds (Holds start hs) p)
  TurnedReaches (halts s why) = (hs : List Right) × Halted hs s why

module _ (start : Right → Bool) (w : World) (gs : List Right) where
  abbrev Goes : Scene → Type 0
  Goes s = After start w gs s.world

  abbrev CallRuns : Call → Type 0
  CallRuns d = Holds start gs (to_run_as d.programmer)

  abbrev EffectReaches : Effect → Type 0
  EffectReaches e = EffectGoes Goes CallRuns (NativeReaches start w gs) e

  abbrev CaughtReaches : Option Effect → Type 0
  CaughtReaches o = CaughtGoes Goes CallRuns (NativeReaches start w gs) o

  -- what its verb may do leads on
  ready : (s : Scene) (p : Pending) → Agrees s.world → Reached start w gs s.world → PendingHolds (Holds start gs) p
      → Ready Goes CallRuns (NativeReaches start w gs) s p
  ready s p a r b =
      record {
        calls = λ d own. owner_runs start w gs s.world r d.programmer own;
        natives = λ name args.
            native_reaches start w gs s.world p.frame.call.programmer r b.0 (native s (caller_of p) name args)
            (native_does (λ o. Holds start gs (to_take o)) s (caller_of p) name args a);
        writes = λ x y v. written (write s.world p.frame.call.programmer x y v) (write_does (λ o. Holds start gs (to_take o)) s.world p.frame.call.programmer x y v);
        forks = λ due vars body. extending.stays start w gs _ (task_put start w gs s.world (next_id s) (forked_task p due vars body) r (b.0, tt));
      }
    where
      written : (m : Written) → WrittenDoes (λ o. Holds start gs (to_take o)) s.world p.frame.call.programmer m → WrittenGoes Goes CallRuns (NativeReaches start w gs) s m
      written (wrote u) d = changed start w gs s.world u p.frame.call.programmer r b.0 d.permitted d.tasks
      written (refused e) d = tt

  -- ---- turns

  -- on to a focus, in the same verb
  goes : (s : Scene) (p : Pending) → Goes s → PendingHolds (Holds start gs) p → (hs : List Right) × (Reached start w hs s.world × PendingHolds (Holds start hs) p)
  goes s p (hs, (grows, r)) b =
      (hs, (r, (holds_more start gs hs grows (to_run_as p.frame.call.programmer) b.0, entries_more (Holds start gs) (Holds start hs) (holds_more start gs hs grows) p.outer b.1)))

  part_goes : (s : Scene) (p : Pending) (c : Construct) (n : ℕ) (vs : List Datum) (ps : List Piece) (o : Option Part) → Goes s → PendingHolds (Holds start gs) p
      → TurnedReaches start w (on_part s p c n vs ps o)
  part_goes s p c n vs ps None h b = goes s p h b
  part_goes s p c n vs ps (Some x) h b = go x.tree
    where
      go : (t : Option Construct) → TurnedReaches start w (on_tree s p c n vs ps t)
      go None = goes s p h b
      go (Some d) = goes s p h b

  reach_goes : (s : Scene) (p : Pending) (c : Construct) (n : ℕ) (vs : List Datum) (ps : List Piece) → Goes s → PendingHolds (Holds start gs) p
      → TurnedReaches start w (reach s p c n vs ps)
  reach_goes s p c n vs ps h b = go (has_step c n)
    where
      go : (o : Bool) → TurnedReaches start w (at_point s p c n vs ps o)
      go true = goes s p h b
      go false = part_goes s p c n vs ps (nth (parts c) n) h b

  turned_if : (o : Bool) (t u : Turned) → TurnedReaches start w t → TurnedReaches start w u → TurnedReaches start w (if o then t else u)
  turned_if true t u h k = h
  turned_if false t u h k = k

  failing_goes : (s : Scene) (p : Pending) (c : Construct) (ps : List Piece) (f : Failure) → Goes s → PendingHolds (Holds start gs) p → TurnedReaches start w (failing s p c ps f)
  failing_goes s p c ps f h b = turned_if (p.frame.call.debug || always_raises c) _ _ (goes s p h b) (goes s p h b)

  -- into a verb, with a built-in or none that waits for it
  entering_goes : (s : Scene) (p : Pending) (c : Construct) (ps : List Piece) (between : List Entry) (d : Call) (body : Program) (args : Data) (hs : List Right)
      → Grows gs hs → Reached start w hs s.world → Holds start hs (to_run_as d.programmer)
      → ((es : List Entry) → EntriesHold (Holds start hs) es → EntriesHold (Holds start hs) (between ++ es)) → PendingHolds (Holds start gs) p
      → TurnedReaches start w (entering s p c ps between d body args)
  entering_goes s p c ps between d body args hs grows r runs more b =
      turned_if (has_room p.outer) _ _
      (hs, (r, (runs, more (waiting_frame p ps ∷ p.outer) (holds_more start gs hs grows (to_run_as p.frame.call.programmer) b.0, entries_more (Holds start gs) (Holds start hs) (holds_more start gs hs grows) p.outer b.1))))
      (failing_goes s p c ps (failure too_many_calls) (hs, (grows, r)) b)

  native_goes : (p : Pending) (c : Construct) (ps : List Piece) (e : NativeEffect) → NativeReaches start w gs e → PendingHolds (Holds start gs) p
      → TurnedReaches start w (native_effected p c ps e)
  unfolding native_effected
  native_goes p c ps (answers s a) h b = go (limited_answer a)
    where
      go : (r : Answer) → TurnedReaches start w (native_answered s p c ps r)
      go (gives v) = goes s p h b
      go (raises e) = failing_goes s p c ps (failure e) h b
  native_goes p c ps (complains s f) h b = failing_goes s p c ps f h b
  native_goes p c ps (begins s n d body args) (hs, (grows, (r, (runs, concerns)))) b =
      entering_goes s p c ps (native_entry n ∷ []) d body args hs grows r runs (λ es k. (concerns, k)) b
  native_goes p c ps (waits s why) (hs, (grows, r)) b =
      (hs, (r, (holds_more start gs hs grows (to_run_as p.frame.call.programmer) b.0, entries_more (Holds start gs) (Holds start hs) (holds_more start gs hs grows) p.outer b.1)))
  native_goes p c ps (dies s) (hs, (grows, r)) b = (hs, r)
  native_goes p c ps (becomes s who) (hs, (grows, (r, runs))) b =
      (hs, (r, (runs, entries_more (Holds start gs) (Holds start hs) (holds_more start gs hs grows) p.outer b.1)))

  effected_goes : (s : Scene) (p : Pending) (c : Construct) (ps : List Piece) (e : Effect) → Reached start w gs s.world → EffectReaches e → PendingHolds (Holds start gs) p
      → TurnedReaches start w (effected s p c ps e)
  unfolding effected EffectGoes
  effected_goes s p c ps (hands t v) r k b = goes t p k b
  effected_goes s p c ps (errs t f) r k b = failing_goes t p c ps f k b
  effected_goes s p c ps (takes zero vs) r k b = goes s p (extending.stays start w gs s.world r) b
  effected_goes s p c ps (takes (suc n) vs) r k b = part_goes s p c n vs ps (nth (parts c) n) (extending.stays start w gs s.world r) b
  effected_goes s p c ps (ends t) r k b = goes t p k b
  effected_goes s p c ps (leaves l) r k b = goes s p (extending.stays start w gs s.world r) b
  effected_goes s p c ps stays r k b = goes s p (extending.stays start w gs s.world r) b
  effected_goes s p c ps (sets x v e) r k b = effected_goes s (with_variable p x v) c ps e r k b
  effected_goes s p c ps (calls d body args) r k b = entering_goes s p c ps [] d body args gs (λ g i. i) r k (λ es i. i) b
  effected_goes s p c ps (natively e) r k b = native_goes p c ps e k b

  caught_goes : (s : Scene) (p : Pending) (q : Piece) (ps : List Piece) (e : Effect) → Reached start w gs s.world → EffectReaches e → PendingHolds (Holds start gs) p
      → TurnedReaches start w (caught_by s p q ps e)
  caught_goes s p q ps stays r k b = reach_goes s p q.construct q.part q.held ps (extending.stays start w gs s.world r) b
  caught_goes s p q ps e r k b = effected_goes s p q.construct ps e r k b

  passing_goes : (s : Scene) (p : Pending) (l : Leaving) (q : Piece) (ps : List Piece) (o : Option Effect) → Reached start w gs s.world → CaughtReaches o
      → PendingHolds (Holds start gs) p → TurnedReaches start w (passing s p l q ps o)
  passing_goes s p l q ps None r k b = goes s p (extending.stays start w gs s.world r) b
  passing_goes s p l q ps (Some e) r k b = caught_goes s p q ps e r k b

  -- ---- out of a verb

  native_back : (s : Scene) (p : Pending) (n : Native) (v : Datum) (es : List Entry) → Agrees s.world → Reached start w gs s.world
      → EntriesHold (Holds start gs) (native_entry n ∷ es) → TurnedReaches start w (back_in_native s p n v es)
  native_back s p n v [] a r h = (gs, r)
  native_back s p n v (native_entry m ∷ es) a r h = (gs, r)
  native_back s p n v (frame_entry f ∷ es) a r h =
      native_goes (in_frame p f es) (of_expr (literal v)) f.pieces (native_turn s (caller_of (in_frame p f es)) n v)
      (native_reaches start w gs s.world f.call.programmer r h.1.0 (native_turn s (caller_of (in_frame p f es)) n v) (stage_does (λ o. Holds start gs (to_take o)) s (caller_of (in_frame p f es)) n v a h.0)) h.1

  value_back : (s : Scene) (p : Pending) (v : Datum) (es : List Entry) → Agrees s.world → Reached start w gs s.world → EntriesHold (Holds start gs) es
      → TurnedReaches start w (back_with s p v es)
  value_back s p v [] a r h = (gs, r)
  value_back s p v (frame_entry f ∷ es) a r h = (gs, (r, h))
  value_back s p v (native_entry n ∷ es) a r h = native_back s p n v es a r h

  error_back : (s : Scene) (p : Pending) (f : Failure) (es : List Entry) → Reached start w gs s.world → EntriesHold (Holds start gs) es → TurnedReaches start w (raised_into s p f es)
  error_back s p f [] r h = (gs, r)
  error_back s p f (frame_entry g ∷ es) r h = (gs, (r, h))
  error_back s p f (native_entry n ∷ es) r h = error_back s p f es r h.1

  out_goes : (s : Scene) (p : Pending) (l : Leaving) → Agrees s.world → Reached start w gs s.world → PendingHolds (Holds start gs) p → TurnedReaches start w (out_of_verb s p l)
  out_goes s p (returned v) a r b = value_back s p v p.outer a r b.1
  out_goes s p (failed f) a r b = error_back s p f p.outer r b.1
  out_goes s p (broken k) a r b = value_back s p (integer (pos 0)) p.outer a r b.1
  out_goes s p (continued k) a r b = value_back s p (integer (pos 0)) p.outer a r b.1

  -- ---- one turn

  receiving_goes : (s : Scene) (p : Pending) (q : Piece) (ps : List Piece) (vs : Option (List Datum)) → Goes s → PendingHolds (Holds start gs) p
      → TurnedReaches start w (receiving s p q ps vs)
  receiving_goes s p q ps None h b = failing_goes s p q.construct ps (failure type_mismatch) h b
  receiving_goes s p q ps (Some vs) h b = reach_goes s p q.construct q.part vs ps h b

  module _ (s : Scene) (p : Pending) (a : Agrees s.world) (r : Reached start w gs s.world) (b : PendingHolds (Holds start gs) p) where
    here : Goes s
    here = extending.stays start w gs s.world r

    on_goes : (f : Focus) (ps : List Piece) → TurnedReaches start w (turn_on s p f ps)
    unfolding turn_on
    on_goes (begin c) ps = reach_goes s p c 0 (held_at_first c) ps here b
    on_goes (operate c n vs) ps = effected_goes s p c ps (effect s p c n vs) r (effect_goes Goes CallRuns (NativeReaches start w gs) s p (ready s p a r b) c n vs here) b
    on_goes (hand v) [] = goes s p here b
    on_goes (hand v) (q ∷ ps) = receiving_goes s p q ps (held_with (way_at q.construct q.part) q.held v) here b
    on_goes (aim vs) [] = goes s p here b
    on_goes (aim vs) (q ∷ ps) = reach_goes s p q.construct q.part (q.held ++ vs) ps here b
    on_goes next [] = goes s p here b
    on_goes next (q ∷ ps) = reach_goes s p q.construct q.part q.held ps here b
    on_goes (leave l) [] = out_goes s p l a r b
    on_goes (leave l) (q ∷ ps) = passing_goes s p l q ps (catches s q.construct q.part q.held l) r (catches_go Goes CallRuns (NativeReaches start w gs) q.construct s q.part q.held l here) b

    pub turn_goes : TurnedReaches start w (turn s p)
    unfolding turn
    turn_goes = on_goes p.focus p.frame.pieces
