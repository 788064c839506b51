-- Where a verb stands that is read, and what it can hold there.
use Rattle.std.specs.Prelude.{◌≡◌, Bool}
use Rattle.spec_world.specs.World.{Frame}
use Rattle.held_values.specs.Wanted.{wanted_by}
use Rattle.task_lines.specs.Entries.{kept_for}
use Rattle.task_lines.specs.declared.stand.Stand.{Stand}

abbrev pub IsStand : Bool → Frame → Stand → Type 0
IsStand is_fork f s = (s.place ≡ (kept_for is_fork f).place) × (s.wanted.items ≡ wanted_by f.pieces)
