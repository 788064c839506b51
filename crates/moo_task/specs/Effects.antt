-- What the answers of built-in functions mean.
use Rattle.spec_value.specs.Datum.{of_list}
use Rattle.spec_world.specs.World as world
use Rattle.spec_moo.specs.Scene.{Scene}
use Rattle.spec_moo.specs.NativeEffect as native
use Rattle.moo_value.specs.Answers.{answer_of}
use Rattle.moo_task.specs.Meant.{failure_meant}
use Rattle.moo_task.specs.Frames.{native_of}
use Rattle.moo_task.specs.declared.effect.NativeEffect.{NativeEffect}
use Rattle.moo_task.specs.declared.effect.NativeEffect.TheVariants.{Answers, Complains, Begins, Waits, Dies, Becomes}
use Rattle.moo_task.specs.declared.effect.Waiting.{Waiting}
use Rattle.moo_task.specs.declared.effect.Waiting.TheVariants.{Forked, Timed, Idle, ReadingOn}

abbrev pub waiting_of : Waiting → world.Waiting
waiting_of (Forked m) = world.forked m
waiting_of (Timed m v) = world.timed m v
waiting_of Idle = world.idle
waiting_of (ReadingOn c) = world.reading_on c

-- in the scene that it leaves
abbrev pub effect_of : NativeEffect → Scene → native.NativeEffect
effect_of (Answers a) s = native.answers s (answer_of a)
effect_of (Complains f) s = native.complains s (failure_meant f)
effect_of (Begins n c p args) s = native.begins s (native_of n) c p (of_list args.items)
effect_of (Waits why) s = native.waits s (waiting_of why)
effect_of Dies s = native.dies s
effect_of (Becomes who) s = native.becomes s who
