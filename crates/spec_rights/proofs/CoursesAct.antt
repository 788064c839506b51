-- Each turn that a task comes to acts as the programmer of the verb that is then under way.
use Rattle.std.proofs.Common.{◌≡◌, inl, ℕ, zero, suc, refl, sym, subst}
use Rattle.spec_moo.specs.Scene.{Scene, with_ticks}
use Rattle.spec_moo.specs.Pending.{Pending, Turned, goes_on, halts}
use Rattle.spec_moo.specs.Turn.{cost, turn}
use Rattle.spec_moo.specs.Sizes.{begins_stage}
use Rattle.spec_moo.specs.Segment.{Course, runs, stops, led, paying, advance, after}
use Rattle.spec_moo.specs.Worlds.{SceneAgrees, IsUnderWay, TurnedKeeps}
use Rattle.spec_moo.proofs.TurnWorlds.{turns_keep}
use Rattle.spec_rights.specs.Permitted.{Permitted}
use Rattle.spec_rights.specs.Chains.{acting, Begun, world_after, world_then, SegmentsAct}
use Rattle.spec_rights.proofs.Changes.{nothing_changed}
use Rattle.spec_rights.proofs.Acting.{turns_act}

ticking : (k t : ℕ) (s : Scene) → SceneAgrees k s → SceneAgrees k (with_ticks s t)
ticking k t s h = record { world = h.world; number = h.number; before = h.before; moment = h.moment; ids = h.ids; own = h.own; next = h.next }

-- ---- a course stays one of a task under way

abbrev IsCourse : ℕ → Course → Type 0
IsCourse k (runs t s p) = SceneAgrees k s × IsUnderWay p
IsCourse k (stops e) = Unit {0}

led_stays : (k t : ℕ) (r : Turned) → TurnedKeeps k r → IsCourse k (led t r)
led_stays k t (goes_on s p) h = h
led_stays k t (halts s why) h = tt

paying_stays : (k m t : ℕ) (s : Scene) (p : Pending) → SceneAgrees k s → IsUnderWay p → IsCourse k (paying m t s p)
paying_stays k zero t s p h way = led_stays k t (turn s p) (turns_keep k s p h way)
paying_stays k (suc m) zero s p h way = tt
paying_stays k (suc m) (suc t) s p h way = led_stays k t (turn (with_ticks s t) p) (turns_keep k (with_ticks s t) p (ticking k t s h) way)

after_stays : (k n : ℕ) (c : Course) → IsCourse k c → IsCourse k (after n c)
unfolding after
after_stays k zero c h = h
after_stays k (suc n) (runs t s p) h = after_stays k n (advance t s p) (paying_stays k (cost p) t s p h.0 h.1)
after_stays k (suc n) (stops e) h = tt

-- ---- one turn of it

led_world : (t : ℕ) (r : Turned) → world_then (led t r) ≡ world_after r
led_world t (goes_on s p) = refl
led_world t (halts s why) = refl

paying_acts : (k m t : ℕ) (s : Scene) (p : Pending) → SceneAgrees k s → Permitted (Begun (begins_stage p) p.outer) s.world (acting p) (world_then (paying m t s p))
paying_acts k zero t s p h =
    subst (Permitted (Begun (begins_stage p) p.outer) s.world (acting p)) (sym (led_world t (turn s p))) (turns_act k s p h)
paying_acts k (suc m) zero s p h = nothing_changed (Begun (begins_stage p) p.outer) s.world (acting p) s.world refl refl (inl refl)
paying_acts k (suc m) (suc t) s p h =
    subst (Permitted (Begun (begins_stage p) p.outer) s.world (acting p)) (sym (led_world t (turn (with_ticks s t) p))) (turns_act k (with_ticks s t) p (ticking k t s h))

pub segments_act : SegmentsAct
segments_act k n t left s u p q h way e =
    paying_acts k (cost q) left u q (subst (IsCourse k) e (after_stays k n (runs t s p) (h, way))).0
