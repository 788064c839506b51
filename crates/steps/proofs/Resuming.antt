-- A task that goes on, once it is in the queue no more.
use Rattle.std.proofs.Common.{◌≡◌, ap, subst, ℕ, ℤ, Option, Some, None}
use Rattle.spec_world.specs.World.{World}
use Rattle.spec_world.specs.Questions.{new_task, apply}
use Rattle.spec_world.specs.Outcome.{Outcome}
use Rattle.spec_moo.specs.Pending.{Pending}
use Rattle.spec_moo.specs.Steps.Running.{run, came_to}
use Rattle.spec_moo.specs.Steps.Events.{resumed, with_own_task}
use Rattle.moo_task.specs.Deeds.{scene_of}
use Rattle.moo_task.specs.declared.deeds.Deeds.{Deeds}
use Rattle.moo_task.specs.declared.running.Running.{Running}
use Rattle.view.specs.Law.{Goes}
use Rattle.steps.specs.Tasks.{MayRun}
use Rattle.steps.proofs.StepsPlaying.{plays_changed}

module _ {V : Type 0} (holds : V → World → Type 0) (now : V → World → World) where
  pub resumes : (a b c : V) (d : Deeds) (i j : ℤ) (ticks given : ℕ) (o : World → World × Outcome) (g : Option Pending) (r : Running) → j ≡ i → given ≡ ticks
      → Goes holds now a b (λ before after. after ≡ apply (new_task i None) before) → (p : Pending) × ((g ≡ Some p) × MayRun r p)
      → ((p : Pending) → MayRun r p → Goes holds now b c (λ before after. came_to (run (scene_of (record d { task = Some j }) before given) p) ≡ o after))
      → Goes holds now a c (λ before after. resumed (with_own_task (scene_of d before ticks) i) g ≡ o after)
  resumes a b c d i j ticks given o g r own same gone m played =
      let p = m.0 in
      let its : Goes holds now b c (λ before after. came_to (run (scene_of (record d { task = Some i }) before given) p) ≡ o after) =
      subst (λ (k : ℤ). Goes holds now b c (λ before after. came_to (run (scene_of (record d { task = Some k }) before given) p) ≡ o after)) own (played p m.1.1) in
      let rest : Goes holds now b c (λ before after. came_to (run (scene_of (record d { task = Some i }) before ticks) p) ≡ o after) =
      subst (λ (n : ℕ). Goes holds now b c (λ before after. came_to (run (scene_of (record d { task = Some i }) before n) p) ≡ o after)) same its in
      plays_changed holds now a b c (apply (new_task i None)) (λ w. resumed (with_own_task (scene_of d w ticks) i) g)
      (λ w. came_to (run (scene_of (record d { task = Some i }) w ticks) p)) o gone rest (λ w. ap (resumed (with_own_task (scene_of d w ticks) i)) m.1.0)
