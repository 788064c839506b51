-- What a call does to a view. A view stands for pairs of a world at its start and the world now:
-- `holds view w` says that w is still a possible start, and `now view w` is then the world now.
use Rattle.std.specs.Prelude.{◌≡◌, ℕ, Result, OnOk}
use Rattle.spec_world.specs.World.{World}
use Rattle.view.specs.Sound.{IsSound}

-- for each start that is left: it was left before, and P holds of its world before and its world now
abbrev pub Goes : {V : Type 0} → (V → World → Type 0) → (V → World → World) → V → V → (World → World → Type 0) → Type 0
Goes holds now old new P = (w : World) → holds new w → holds old w × P (now old w) (now new w)

-- nothing changes, and P holds of the world of each start that is left
abbrev pub Tells : {V : Type 0} → (V → World → Type 0) → (V → World → World) → V → V → (World → Type 0) → Type 0
Tells holds now old new P = Goes holds now old new (λ before after. (after ≡ before) × P before)

-- no start goes
abbrev pub Keeps : {V : Type 0} → (V → World → Type 0) → V → V → Type 0
Keeps holds old new = (w : World) → holds old w → holds new w

-- the world now is sound, whichever start it was
abbrev pub AreSound : {V : Type 0} → (V → World → Type 0) → (V → World → World) → V → Type 0
AreSound holds now view = (w : World) → holds view w → IsSound (now view w)

-- if the world now, for the home, was sound before, it still is
abbrev pub StaysSound : {V : Type 0} → (V → World) → (V → World → World) → V → V → Type 0
StaysSound home now old new = IsSound (now old (home old)) → IsSound (now new (home new))

-- a view lies where it lay, has the home that it had, and, where the call came to an end, that home is left
pub record Lasts {V A E : Type 0} (holds : V → World → Type 0) (home : V → World) (anchor : V → ℕ × ℕ) (old new : V) (result : Result A E) : Type 0 where
  pub anchor_stays : anchor new ≡ anchor old
  pub home_stays : home new ≡ home old
  pub home_is_left : OnOk result (holds new (home new))
