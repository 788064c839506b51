-- What a login comes to.
use Rattle.std.proofs.Common.{◌≡◌, ◌∙◌, ap, sym, ℕ, ℤ}
use Rattle.spec_world.specs.World.{World}
use Rattle.spec_moo.specs.Scene.{Scene}
use Rattle.spec_moo.specs.Pending.{Pending, Stop}
use Rattle.spec_moo.specs.Steps.Outcomes.{comes_to}
use Rattle.spec_moo.specs.Steps.Running.{stopped_as, run}
use Rattle.spec_moo.specs.Steps.Events.{login_value, after_login}
use Rattle.moo_task.specs.Deeds.{scene_of}
use Rattle.moo_task.specs.declared.deeds.Deeds.{Deeds}
use Rattle.task_step.specs.OutcomeView.{result_of}
use Rattle.steps.specs.Stops.{HasRun}
use Rattle.steps.specs.StepsPerformed.{ComesTo}
use Rattle.steps.specs.declared.step_tasks.finish.Finish.{Finish}

-- what a step comes to with a run whose value was taken
pub login_taken : (s : Scene) (c : ℤ) (p : Pending) (before after : World) (d f : Deeds) (r : Finish) → HasRun (run s p) before d r
    → ((t : ℕ) (why : Stop) → stopped_as why ≡ result_of r.ending → scene_of f after t ≡ login_value (scene_of d before t) c why)
    → ComesTo (after_login c (run s p)) after f r
login_taken s c p before after d f r ran taken =
    let x = run s p in
    let scene : login_value x.scene c x.stop ≡ scene_of f after ran.left = ap (λ (z : Scene). login_value z c x.stop) ran.scene ∙ sym (taken ran.left x.stop ran.result) in
    λ i. comes_to (scene i) (ran.result i) (ran.ticks i)
