-- What a board knows of answers, and so which guesses agree without a look.
use Rattle.std.specs.Prelude.{◌≡◌, ℕ, ◌≤◌, List, Some, None}
use Rattle.spec_world.specs.World.{World}
use Rattle.spec_world.specs.Step.{Step}
use Rattle.spec_world.specs.Questions.{Question, ask}
use Rattle.speculate.specs.BoardState.{world_after}
use Rattle.speculate.specs.Fresh.{IsFresh}
use Rattle.speculate.specs.declared.held.Held.{Held}
use Rattle.speculate.specs.declared.held.Held.TheVariants.{Empty, Loss, Holds}
use Rattle.speculate.specs.declared.stamps.Stamps.{Stamps}

-- what is fresh since k steps, the world answers as after so many
abbrev pub AreStamped : World → List Step → ℕ → World → Stamps → Type 0
AreStamped base steps count w s = (q : Question) (k : ℕ) → k ≤ count → IsFresh s q k → ask w q ≡ ask (world_after base steps k) q

-- where a guess was made after k steps, the world answers what is fresh since then as the one on which it was found
abbrev pub KnowsFresh : Held → ℕ → Stamps → World → Type 0
KnowsFresh Empty count s w = Unit {0}
KnowsFresh Loss count s w = Unit {0}
KnowsFresh (Holds g None) count s w = Unit {0}
KnowsFresh (Holds g (Some k)) count s w = k ≤ count → (q : Question) → IsFresh s q k → ask w q ≡ ask g.before q
