-- What the fields of a step mean.
use Rattle.std.specs.Prelude.{pos}
use Rattle.spec_world.specs.Step.{Event as Meant, open_link, close_link, line_of, ready_task}
use Rattle.task_step.specs.declared.step.Event.{Event}
use Rattle.task_step.specs.declared.step.Event.TheVariants.{Open, Line, Close, Ready}

abbrev pub event_of : Event → Meant
event_of (Open c) = open_link (pos c)
event_of (Line c t) = line_of (pos c) t
event_of (Close c) = close_link (pos c)
event_of (Ready i) = ready_task i
