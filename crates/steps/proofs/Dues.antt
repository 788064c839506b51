-- Whether a task is due, by the moment for which it waits.
use Rattle.std.proofs.Common.{◌≡◌, refl, ℕ, Bool, false, Option, Some, None}
use Rattle.std.specs.Prelude.{nat_le}
use Rattle.spec_world.specs.World.{Waiting, forked, timed, idle, reading_on}
use Rattle.spec_moo.specs.Steps.Events.{is_due}
use Rattle.moo_task.specs.Waits.{due_at}

abbrev pub passed : ℕ → Option ℕ → Bool
passed moment None = false
passed moment (Some m) = nat_le m moment

pub due_once_passed : (moment : ℕ) (why : Waiting) → passed moment (due_at why) ≡ is_due moment why
due_once_passed moment (forked m) = refl
due_once_passed moment (timed m v) = refl
due_once_passed moment idle = refl
due_once_passed moment (reading_on c) = refl
