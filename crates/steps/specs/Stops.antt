-- What the stop of a machine, and what comes of it, mean in the words of the definitions.
use Rattle.std.specs.Prelude.{◌≡◌, ℕ, ℤ, List}
use Rattle.spec_world.specs.World.{World, Entry}
use Rattle.spec_world.specs.WellFormed.{FramesStand}
use Rattle.spec_moo.specs.Pending as pending
use Rattle.spec_moo.specs.Steps.Running as running
use Rattle.spec_moo.specs.Steps.Running.{stopped_as}
use Rattle.moo_code.specs.Machine.{Outer}
use Rattle.moo_code.specs.Stands.{AllWait}
use Rattle.moo_task.specs.Deeds.{scene_of}
use Rattle.moo_task.specs.Effects.{waiting_of}
use Rattle.moo_task.specs.Outcomes.{end_of}
use Rattle.moo_task.specs.declared.deeds.Deeds.{Deeds}
use Rattle.local_code.specs.declared.moo_run.stopped.Stop.{Stop}
use Rattle.local_code.specs.declared.moo_run.stopped.Stop.TheVariants.{Ends, OutOfTicks, Waits}
use Rattle.moo_task.specs.Keeping.{HasStopped}
use Rattle.task_step.specs.OutcomeView.{result_of}
use Rattle.task_step.specs.declared.outcome.Ending.{Ending}
use Rattle.steps.specs.declared.step_tasks.finish.Finish.{Finish}

-- a task that waits does so at a call
abbrev pub CanBeKept : Stop → List Outer → Type 0
CanBeKept (Waits why) ks = HasStopped (waiting_of why) ks
CanBeKept s ks = Unit {0}

-- the stop of the definition for which it stands, with what is under way
abbrev pub StopIs : pending.Stop → Stop → List Outer → Type 0
StopIs why (Ends e) ks = why ≡ end_of e
StopIs why (OutOfTicks ts) ks = why ≡ pending.out_of_ticks ts.items
StopIs why (Waits u) ks = (es : List Entry) × (why ≡ pending.waiting (waiting_of u) es) × AllWait es ks × FramesStand es

-- the ticks that are left: none where a charge found none
abbrev pub left_at : Stop → ℕ → ℕ
left_at (OutOfTicks ts) t = 0
left_at s t = t

-- ---- what a stop does

abbrev pub SettlesAs : ℤ → pending.Stop → Ending → Deeds → World → Deeds → World → Type 0
SettlesAs player why e d before f after =
    (t : ℕ) → (scene_of f after t ≡ running.after_stop player (scene_of d before t) why) × (stopped_as why ≡ result_of e)

abbrev pub Settles : ℤ → Stop → List Outer → Ending → Deeds → World → Deeds → World → Type 0
Settles player s ks e d before f after = (why : pending.Stop) → StopIs why s ks → SettlesAs player why e d before f after

-- ---- what a run comes to

-- with so many ticks left to the machine
pub record HasRun (x : running.Ran) (after : World) (d : Deeds) (r : Finish) : Type 0 where
  pub left : ℕ
  pub scene : x.scene ≡ scene_of d after left
  pub result : stopped_as x.stop ≡ result_of r.ending
  pub ticks : x.ticks ≡ r.ticks
