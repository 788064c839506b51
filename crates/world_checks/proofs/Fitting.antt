-- What is seen of one task is what its world asks of it.
use Rattle.std.proofs.Common.{◌≡◌, refl, ◌*◌, ◌-◌, ℤ, pos, int_le, true, ◌&&◌, IsTrue}
use Rattle.spec_value.proofs.Entries.{first_holds, both_hold}
use Rattle.spec_world.specs.World.{World, Waiting, forked, timed, idle, reading_on, Task}
use Rattle.spec_world.specs.WellFormed.{waiting_fits, is_moment, TaskStands}
use Rattle.moo_task.specs.Waits.{read_on, due_at}
use Rattle.world_checks.specs.TaskChecksTasks.{entries_fit, moment_fits, ForkStands}
use Rattle.world_checks.specs.DraftChecksTasks.{link_there, TaskFits}

waits : (w : World) (t : Task) (why : Waiting) → ForkStands why t.entries → moment_fits (due_at why) ≡ true → link_there w (read_on why) ≡ true
    → IsTrue (waiting_fits w t why)
waits w t (forked m) fork moment link = both_hold (is_moment m) _ moment fork
waits w t (timed m v) fork moment link = moment
waits w t idle fork moment link = refl
waits w t (reading_on c) fork moment link = link

pub task_fits : (w : World) (i : ℤ) (t : Task) → TaskStands t t.waiting → ForkStands t.waiting t.entries
    → IsTrue (int_le (pos 1) i && int_le i (pos ((w.next - 1) * 64))) → moment_fits (due_at t.waiting) ≡ true → link_there w (read_on t.waiting) ≡ true
    → IsTrue (entries_fit t.entries) → TaskFits w i t
task_fits w i t places fork id moment link entries =
    record { id = id; entries = entries; wait = waits w t t.waiting fork moment link; places = places }

-- ---- and the other way round

moment_found : (w : World) (t : Task) (why : Waiting) → IsTrue (waiting_fits w t why) → moment_fits (due_at why) ≡ true
moment_found w t (forked m) h = first_holds (is_moment m) _ h
moment_found w t (timed m v) h = h
moment_found w t idle h = refl
moment_found w t (reading_on c) h = refl

link_found : (w : World) (t : Task) (why : Waiting) → IsTrue (waiting_fits w t why) → link_there w (read_on why) ≡ true
link_found w t (forked m) h = refl
link_found w t (timed m v) h = refl
link_found w t idle h = refl
link_found w t (reading_on c) h = h

pub id_of : (w : World) (i : ℤ) (t : Task) → TaskFits w i t → IsTrue (int_le (pos 1) i && int_le i (pos ((w.next - 1) * 64)))
id_of w i t h = h.id

pub entries_of : (w : World) (i : ℤ) (t : Task) → TaskFits w i t → IsTrue (entries_fit t.entries)
entries_of w i t h = h.entries

pub moment_of : (w : World) (i : ℤ) (t : Task) → TaskFits w i t → moment_fits (due_at t.waiting) ≡ true
moment_of w i t h = moment_found w t t.waiting h.wait

pub link_of : (w : World) (i : ℤ) (t : Task) → TaskFits w i t → link_there w (read_on t.waiting) ≡ true
link_of w i t h = link_found w t t.waiting h.wait
