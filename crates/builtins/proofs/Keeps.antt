-- Where a world stands, built-in functions over tasks that wait leave it so.
use Rattle.std.proofs.Common.{◌≡◌, ℕ, ℤ, pos, false, [], ◌∷◌, refl, ap, ◌∙◌, subst}
use Rattle.spec_value.specs.Datum.{Datum, integer, invalid_argument}
use Rattle.spec_value.specs.Table.{at, with, without}
use Rattle.spec_world.specs.World.{World, Task, timed}
use Rattle.spec_world.specs.Permissions.{may, control_task}
use Rattle.spec_moo.specs.Scene.{Scene}
use Rattle.spec_moo.specs.NativeEffect as N
use Rattle.spec_moo.specs.Natives.Tasks.{task_programmer, is_suspended, resumes, is_own_id, kills, kill_task_row}
use Rattle.moo_task.specs.Deeds.{scene_of}
use Rattle.moo_task.specs.Effects.{effect_of}
use Rattle.moo_task.specs.declared.deeds.Deeds.{Deeds}
use Rattle.moo_task.specs.declared.effect.NativeEffect.{NativeEffect}
use Rattle.moo_task.specs.declared.effect.NativeEffect.TheVariants.{Answers, Complains, Begins, Waits, Dies, Becomes}
use Rattle.view.specs.Law.{Goes}
use Rattle.rules.specs.Lines.{AreAgreeing}
use Rattle.rules.specs.Standing.{IsStanding}
use Rattle.rules.proofs.InheritStanding.{quiet_task_stands, task_gone_stands}
use Rattle.builtins_view.specs.Said.{with_programmer}
use Rattle.builtins_view.proofs.Keeping.{world_left, LeavesWell, tested, there}
use Rattle.builtins.specs.BuiltinsQueueActing.{Acts}

-- ---- worlds

task_gone : (w : World) (i : ℤ) → IsStanding w → IsStanding (record w { tasks = without w.tasks i })
task_gone w i h = task_gone_stands w i h

task_timed : (w : World) (i : ℤ) (t : Task) (m : ℕ) (v : Datum) → IsStanding w → IsStanding (record w { tasks = with w.tasks i (record t { waiting = timed m v }) })
task_timed w i t m v h = quiet_task_stands w i (record t { waiting = timed m v }) h refl

-- ---- rows

kills_well : (s : Scene) (c : N.Caller) (i : ℤ) → IsStanding s.world → LeavesWell (kills s c i)
kills_well s c i h =
    there s invalid_argument (at s.world.tasks i) _ h (λ t e. tested (may s.world c.call.programmer (control_task (task_programmer t))) _ _ h (λ k. task_gone s.world i h))

kill_task_well : (s : Scene) (c : N.Caller) (i : ℤ) → IsStanding s.world → LeavesWell (kill_task_row s c (integer i ∷ []))
kill_task_well s c i h = tested (is_own_id i s.task) _ _ (kills_well s c i h) (λ e. h)

resumes_well : (s : Scene) (c : N.Caller) (i : ℤ) (v : Datum) → IsStanding s.world → LeavesWell (resumes s c i v)
resumes_well s c i v h =
    there s invalid_argument (at s.world.tasks i) _ h (λ t e.
    tested (may s.world c.call.programmer (control_task (task_programmer t))) _ _ h (λ k. tested (is_suspended t.waiting) _ _ h (λ l. task_timed s.world i t s.moment v h)))

-- ---- calls

some_caller : N.Caller
some_caller =
    record {
      player = pos 0;
      call = record { this = pos 0; caller = pos 0; definer = pos 0; programmer = pos 0; verb = []; debug = false };
      start = record { argstr = []; dobj = pos 0; dobjstr = []; prepstr = []; iobj = pos 0; iobjstr = [] };
      callers = [];
    }

left_by : (e : NativeEffect) (s : Scene) → world_left (effect_of e s) ≡ s.world
left_by (Answers a) s = refl
left_by (Complains f) s = refl
left_by (Begins n c p args) s = refl
left_by (Waits why) s = refl
left_by Dies s = refl
left_by (Becomes who) s = refl

module _ {V : Type 0} (holds : V → World → Type 0) (now : V → World → World) (old new : V) (d : Deeds) (who : ℤ) where
  acted_well : (row : Scene → N.Caller → N.NativeEffect) (e : NativeEffect) → ((w : World) → IsStanding w → LeavesWell (row (scene_of d w 0) (with_programmer some_caller who)))
      → AreAgreeing holds now old → Goes holds now old new (λ before after. Acts row d before who e after) → AreAgreeing holds now new
  acted_well row e keeps known told w left =
      let t = told w left in
      subst IsStanding (ap world_left (t.1 0 some_caller) ∙ left_by e (scene_of d (now new w) 0)) (keeps (now old w) (known w t.0))

  pub killed_well : (e : NativeEffect) (i : ℤ) → AreAgreeing holds now old
      → Goes holds now old new (λ before after. Acts (λ s c. kill_task_row s c (integer i ∷ [])) d before who e after) → AreAgreeing holds now new
  killed_well e i known told = acted_well (λ s c. kill_task_row s c (integer i ∷ [])) e (λ w h. kill_task_well (scene_of d w 0) (with_programmer some_caller who) i h) known told

  pub resumed_well : (e : NativeEffect) (i : ℤ) (v : Datum) → AreAgreeing holds now old
      → Goes holds now old new (λ before after. Acts (λ s c. resumes s c i v) d before who e after) → AreAgreeing holds now new
  resumed_well e i v known told = acted_well (λ s c. resumes s c i v) e (λ w h. resumes_well (scene_of d w 0) (with_programmer some_caller who) i v h) known told
