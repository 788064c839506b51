-- Since when answers are what they are.
use Rattle.std.specs.Prelude.{◌≡◌, ℕ, ◌≤◌, ◌<◌, ◌%◌, ℤ, pos, negsuc, true, ◌⊎◌, List, Some, slice_get}
use Rattle.spec_world.specs.World.{World}
use Rattle.spec_world.specs.Questions.{Question, about_slot, ask, Read, Agrees, Change, apply_all}
use Rattle.view.specs.Sound.{IsSound}
use Rattle.speculate.specs.declared.slots_read.SlotsRead.{SlotsRead}
use Rattle.speculate.specs.declared.stamps.Stamps.{Stamps}

-- an object is one of those on which slots were asked for, as far as these are told
abbrev pub IsAmong : SlotsRead → ℤ → Type 0
IsAmong s o = (s.first ≡ Some o) ⊎ ((s.second ≡ Some o) ⊎ ((s.third ≡ Some o) ⊎ (s.more ≡ true)))

-- a question may have been asked: any that is about no slot, and each about a slot of such an object
abbrev pub IsCovered : SlotsRead → Question → Type 0
IsCovered s (about_slot o p) = IsAmong s o
IsCovered s _ = Unit {0}

-- each sound world that answers all that may have been asked as the home does agrees with what was read
abbrev pub Covers : World → List Read → SlotsRead → Type 0
Covers home rs s = (w : World) → IsSound w → ((q : Question) → IsCovered s q → ask w q ≡ ask home q) → Agrees w rs

-- the place of an object's stamp
abbrev pub place : ℤ → ℕ
place (pos n) = n % 1024
place (negsuc n) = 0

-- the slots of an object are stamped with a number up to k
abbrev pub IsStill : Stamps → ℤ → ℕ → Type 0
IsStill s o k = (n : ℕ) × (slice_get s.places.items (place o) ≡ Some n) × (n ≤ k)

-- the answer to a question is known to be what it was after k steps
abbrev pub IsFresh : Stamps → Question → ℕ → Type 0
IsFresh s (about_slot o p) k = (s.others ≤ k) × IsStill s o k
IsFresh s _ k = s.others ≤ k

-- What is fresh since fewer steps than so many was fresh before, and changes leave it as it is.
abbrev pub Passes : ℕ → Stamps → Stamps → List Change → Type 0
Passes n old new cs = (q : Question) (k : ℕ) → k < n → IsFresh new q k → IsFresh old q k × ((w : World) → ask (apply_all cs w) q ≡ ask w q)

-- the same of a world that became another one
abbrev pub Turns : ℕ → Stamps → Stamps → World → World → Type 0
Turns n old new v w = (q : Question) (k : ℕ) → k < n → IsFresh new q k → IsFresh old q k × (ask w q ≡ ask v q)
