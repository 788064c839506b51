-- A link that is closed, part by part.
use Rattle.std.specs.Prelude.{ℤ, not, filter}
use Rattle.spec_world.specs.World.{World}
use Rattle.spec_world.specs.Links.{reads_on}

-- the tasks that read on a connection are gone
abbrev pub without_readers : World → ℤ → World
without_readers w c = record w { tasks = filter (λ e. not (reads_on c (e.1).waiting)) w.tasks }
