-- What is read of a world, told by the objects on which slots are asked for.
use Rattle.std.specs.Prelude.{◌≡◌, ℤ, List, Contains}
use Rattle.spec_world.specs.World.{World}
use Rattle.spec_world.specs.Questions.{Question, about_slot, ask, Read, Agrees}
use Rattle.view.specs.Sound.{IsSound}

-- a question is about no slot, or about one on one of these objects
abbrev pub IsOnThese : List ℤ → Question → Type 0
IsOnThese os (about_slot o p) = Contains os o
IsOnThese os _ = Unit {0}

-- each sound world that answers all such questions as the home does agrees with what was read
abbrev pub AreOnThese : World → List Read → List ℤ → Type 0
AreOnThese home rs os = (w : World) → IsSound w → ((q : Question) → IsOnThese os q → ask w q ≡ ask home q) → Agrees w rs

-- a question with a world's answer
abbrev pub answered_on : World → Question → Read
answered_on w q = record { question = q; answer = ask w q }
