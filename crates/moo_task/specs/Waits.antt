-- What a task waits for.
use Rattle.std.specs.Prelude.{ℕ, ℤ, Option, Some, None}
use Rattle.spec_world.specs.World.{Waiting, forked, timed, idle, reading_on}

-- the connection whose line it reads
abbrev pub read_on : Waiting → Option ℤ
read_on (forked m) = None
read_on (timed m v) = None
read_on idle = None
read_on (reading_on c) = Some c

-- the moment at which it is due
abbrev pub due_at : Waiting → Option ℕ
due_at (forked m) = Some m
due_at (timed m v) = Some m
due_at idle = None
due_at (reading_on c) = None
