-- What a step left and gave.
use Rattle.std.specs.Prelude.{◌≡◌}
use Rattle.spec_world.specs.World.{World}
use Rattle.spec_world.specs.Outcome.{Outcome}
use Rattle.spec_moo.specs.Steps.Outcomes.{comes_to}
use Rattle.moo_task.specs.Deeds.{scene_of}
use Rattle.moo_task.specs.declared.deeds.Deeds.{Deeds}
use Rattle.task_step.specs.OutcomeView.{result_of}
use Rattle.task_step.specs.declared.outcome.Ending.{Ending}
use Rattle.task_step.specs.declared.outcome.Ending.TheVariants.{Value}
use Rattle.steps.specs.declared.step_tasks.finish.Finish.{Finish}

-- this world, and this outcome
abbrev pub StepsTo : World × Outcome → World → Outcome → Type 0
StepsTo r after o = r ≡ (after, o)

-- what a step comes to that has done this and finished so, in a world; the ticks that are left do not count
abbrev pub came_to_of : Deeds → Finish → World → World × Outcome
came_to_of d f w = comes_to (scene_of d w 0) (result_of f.ending) f.ticks

-- this world, after what the step has done, and how it finished
abbrev pub ComesTo : World × Outcome → World → Deeds → Finish → Type 0
ComesTo r after d f = r ≡ came_to_of d f after

-- how a step ended whose task gave a value
abbrev pub HasValue : Ending → Type 0
HasValue (Value v) = Unit {0}
HasValue e = ⊥
