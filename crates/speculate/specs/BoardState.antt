-- A board as plain data, and when it is honest.
use Rattle.std.specs.Prelude.{◌≡◌, ℕ, suc, ◌+◌, ◌≤◌, List, [], ◌∷◌, All, length, take, replicate, Some, None, slice_get, slice_set}
use Rattle.spec_world.specs.World.{World}
use Rattle.spec_world.specs.Step.{Step, RunsOn, AllInRange}
use Rattle.spec_world.specs.Outcome.{Outcome}
use Rattle.spec_moo.specs.Steps.{play}
use Rattle.world.specs.Counted.{Counted}
use Rattle.view.specs.Sound.{IsSound}
use Rattle.speculate.specs.Right.{IsRight}
use Rattle.speculate.specs.Verbs.{SameVerbs}
use Rattle.speculate.specs.declared.held.Held.{Held}
use Rattle.speculate.specs.declared.held.Held.TheVariants.{Empty, Loss, Holds}
use Rattle.speculate.specs.declared.held.Mark.{Mark}
use Rattle.speculate.specs.declared.held.Mark.TheVariants.{Kept, Rerun, Lost}

-- The world that it began with and its steps; the world, the outcomes and the marks of the steps that are committed; what each
-- position holds; how many runs were undone for want of memory; and a number of steps, since whose commit no verb has changed. A world comes with the
-- number of the views that were opened on it to change it.
pub record BoardState : Type 0 where
  pub base : Counted
  pub steps : List Step
  pub world : Counted
  pub outcomes : List Outcome
  pub marks : List Mark
  pub held : List Held
  pub undone : ℕ
  pub since : ℕ

-- a position holds nothing, a loss, or a right guess for its very step
abbrev pub FitsStep : Step → Held → Type 0
FitsStep s Empty = Unit {0}
FitsStep s Loss = Unit {0}
FitsStep s (Holds g seen) = (g.step ≡ s) × IsRight g

abbrev pub EachFits : List Step → List Held → Type 0
EachFits [] [] = Unit {0}
EachFits [] (h ∷ hs) = ⊥
EachFits (s ∷ ss) [] = ⊥
EachFits (s ∷ ss) (h ∷ hs) = FitsStep s h × EachFits ss hs

-- how many steps were run on the world itself
abbrev pub runs : List Mark → ℕ
runs [] = 0
runs (Kept ∷ ms) = runs ms
runs (Rerun ∷ ms) = suc (runs ms)
runs (Lost ∷ ms) = suc (runs ms)

-- the world after the first k steps
abbrev pub world_after : World → List Step → ℕ → World
world_after base steps k = (play base (take k steps)).0

-- where a guess knows how many steps were committed when it was made, it was found on the world after so many
abbrev pub IsSeen : World → List Step → Held → Type 0
IsSeen base steps Empty = Unit {0}
IsSeen base steps Loss = Unit {0}
IsSeen base steps (Holds g None) = Unit {0}
IsSeen base steps (Holds g (Some k)) = g.before ≡ world_after base steps k

-- What is committed is the play of the base over as many steps, each position holds what fits its step, and the views that were opened
-- on the world are one for each step that was run there and one for each run that was undone. No verb has changed since so many steps.
pub record IsHonest (b : BoardState) : Type 0 where
  pub sound : IsSound b.world.plain
  pub numbers : RunsOn b.base.plain b.steps
  pub in_range : AllInRange b.steps
  pub count : length b.outcomes ≤ length b.steps
  pub marks : length b.marks ≡ length b.outcomes
  pub played : play b.base.plain (take (length b.outcomes) b.steps) ≡ (b.world.plain, b.outcomes)
  pub held : EachFits b.steps b.held
  pub seen : All (IsSeen b.base.plain b.steps) b.held
  pub views : b.world.opened ≡ b.base.opened + runs b.marks + b.undone
  pub since : b.since ≤ length b.outcomes
  pub steady : (k : ℕ) → b.since ≤ k → k ≤ length b.outcomes → SameVerbs (world_after b.base.plain b.steps k) b.world.plain

-- a board with nothing committed and nothing held
abbrev pub opened_on : Counted → List Step → BoardState
opened_on base steps = record { base = base; steps = steps; world = base; outcomes = []; marks = []; held = replicate (length steps) Empty; undone = 0; since = 0 }

-- the position is not committed yet and holds nothing
abbrev pub IsFree : BoardState → ℕ → Type 0
IsFree b i = (length b.outcomes ≤ i) × (slice_get b.held i ≡ Some Empty)

abbrev pub with_held : BoardState → ℕ → Held → BoardState
with_held b i h = record b { held = slice_set b.held i h }
