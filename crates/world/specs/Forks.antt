-- What a fork of a world shows.
use Rattle.std.specs.Prelude.{◌≡◌, ℕ}
use Rattle.std.specs.Option.{unwrap_or}
use Rattle.spec_world.specs.World as meant
use Rattle.world.specs.Counted.{Counted}
use Rattle.view.specs.Sound.{IsSound}
use Rattle.world.specs.declared.fork.Forked.{Forked}

-- the world as it was, with this fork counted
abbrev pub start_of : Forked meant.World → Counted
start_of f = f.world.now

-- the world with the fork's changes
abbrev pub changed_in : Forked meant.World → meant.World
changed_in f = unwrap_or f.fork f.world.now.plain

-- the borrow of the world
abbrev pub borrow_of : Forked meant.World → ℕ
borrow_of f = f.world.ghost_name

-- the world with the changes is sound, whichever start it was, of which there is one
abbrev pub IsKeepable : Forked meant.World → Type 0
IsKeepable f = (w : meant.World) → w ≡ (start_of f).plain → IsSound (changed_in f)
