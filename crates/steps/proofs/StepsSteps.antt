-- A step: the next number is raised, and a world that is ending runs nothing.
use Rattle.std.proofs.Common.{◌≡◌, ◌∙◌, ap, sym, subst, ℕ, suc, ◌+◌, ◌≤◌, Bool, true, false, IsTrue, if◌then◌else◌, arith}
use Rattle.std.specs.Prelude.{max, min}
use Rattle.spec_world.specs.World.{World}
use Rattle.spec_world.specs.WellFormed.{IsWellFormed}
use Rattle.spec_world.specs.Questions.{new_next, apply}
use Rattle.spec_world.specs.Step.{Step, in_range}
use Rattle.spec_world.specs.Outcome.{Outcome, ended}
use Rattle.spec_moo.specs.Steps.{numbered, play1}
use Rattle.spec_moo.specs.Steps.Outcomes.{idle_with}
use Rattle.spec_moo.specs.Steps.Events.{event, event_of}
use Rattle.spec_holding.proofs.WholeWorlds.{stays_whole_once}
use Rattle.spec_ready.specs.Ready.{IsReady}
use Rattle.spec_ready.proofs.Readiness.{opens_ready}
use Rattle.moo_task.specs.Deeds.{scene_of}
use Rattle.moo_task.specs.declared.deeds.Deeds.{Deeds}
use Rattle.steps.specs.Opens.{IsOpening}
use Rattle.view.specs.Sound.{IsSound}

raised_next : (w : World) (m n : ℕ) → m ≤ 33554431 → n ≡ m + 1 → apply (new_next n) w ≡ numbered m w
raised_next w m n small is =
    let next : max (min n 33554432) w.next ≡ max (suc m) w.next = omega arith in ap (λ k. record w { next = k }) next

pub now_numbered : (w u v : World) (s : Step) (n : ℕ) → s.number ≤ 33554431 → n ≡ s.number + 1 → u ≡ apply (new_next n) w → v ≡ u → v ≡ numbered s.number w
now_numbered w u v s n small is raised same = same ∙ raised ∙ raised_next w s.number n small is

pub step_ended : (w u v : World) (s : Step) (n : ℕ) (o : Outcome) → s.number ≤ 33554431 → n ≡ s.number + 1 → u ≡ apply (new_next n) w → v ≡ u → u.ending ≡ true
    → o ≡ idle_with ended → play1 w s ≡ (v, o)
unfolding play1
step_ended w u v s n o small is raised same ending idle =
    let ends : w.ending ≡ true = sym (ap (λ (x : World). x.ending) raised) ∙ ending in
    let there = now_numbered w u v s n small is raised same in
    ap (λ (b : Bool). if b then (numbered s.number w, idle_with ended) else event (numbered s.number w) s) ends ∙ (λ i. (sym there i, sym idle i))

pub step_played : (w u v : World) (s : Step) (n : ℕ) (r : World × Outcome) → s.number ≤ 33554431 → n ≡ s.number + 1 → u ≡ apply (new_next n) w → v ≡ u → u.ending ≡ false
    → event_of v s s.event ≡ r → play1 w s ≡ r
unfolding play1
step_played w u v s n r small is raised same ending played =
    let goes : w.ending ≡ false = sym (ap (λ (x : World). x.ending) raised) ∙ ending in
    let there = now_numbered w u v s n small is raised same in
    ap (λ (b : Bool). if b then (numbered s.number w, idle_with ended) else event (numbered s.number w) s) goes ∙ ap (λ (x : World). event_of x s s.event) (sym there) ∙ played

pub step_ready : (w v : World) (s : Step) (d : Deeds) (t : ℕ) → v ≡ numbered s.number w → IsWellFormed w → IsTrue (in_range s) → IsOpening s d → IsReady (scene_of d v t)
step_ready w v s d t there well range opening =
    subst (λ (x : World). IsReady (scene_of d x t)) (sym there) (subst IsReady (opening (numbered s.number w) t) (opens_ready w s t well range))

pub sound_after : (w v : World) (s : Step) (o : Outcome) → IsSound w → IsTrue (in_range s) → play1 w s ≡ (v, o) → IsSound v
sound_after w v s o h range played =
    let k = stays_whole_once w s h.well_formed h.spelled range in
    subst IsSound (ap (λ (p : World × Outcome). p.0) played) (record { well_formed = k.0; spelled = k.1 })
