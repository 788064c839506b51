use Rattle.std.proofs.Common.{◌≡◌, ◌≤◌, length, take, vec_items, vec_len, vec_capacity}
use Rattle.spec_moo.specs.Steps.{play}
use Rattle.task_run.proofs.list.play_list.Given as goal

abbrev pub invariant-loop-step : goal.invariant-loop-step
invariant-loop-step l =
    (vec_len l.outcomes ≡ l.step-index) × (length l.steps ≤ vec_capacity l.outcomes)
    × (play l.initial.world.plain (take l.step-index l.steps) ≡ (l.world.plain, vec_items l.outcomes))
