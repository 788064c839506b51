-- Players, number by number.
use Rattle.std.specs.Prelude.{ℕ, zero, suc, ℤ, pos, negsuc, List, [], ◌∷◌, ◌++◌, Option, Some, None, if◌then◌else◌}
use Rattle.spec_world.specs.World.{World, Header}
use Rattle.spec_world.specs.Questions.{header_at}

-- how many numbers there are from 0 to this one
abbrev pub numbers_to : ℤ → ℕ
numbers_to (pos n) = suc n
numbers_to (negsuc n) = 0

-- an object, if it is there and a player
abbrev pub player_in : ℤ → Option Header → List ℤ
player_in o None = []
player_in o (Some h) = if h.is_player then o ∷ [] else []

-- the players among so many numbers, from this one on
unfoldable pub players_from : World → ℕ → ℕ → List ℤ
players_from w n zero = []
players_from w n (suc k) = player_in (pos n) (header_at w (pos n)) ++ players_from w (suc n) k
