-- How a board goes on.
use Rattle.std.specs.Prelude.{◌≡◌, ◌≢◌, ℕ, zero, suc, ◌+◌, ◌≤◌, ◌⊎◌, List, [], ◌∷◌, ◌++◌, length, drop, Some, slice_get, slice_set}
use Rattle.spec_world.specs.Questions.{Agrees}
use Rattle.spec_world.specs.Step.{Step}
use Rattle.spec_world.specs.Outcome.{Outcome}
use Rattle.spec_moo.specs.Steps.{play1}
use Rattle.world.specs.Counted.{Counted}
use Rattle.speculate.specs.Right.{after_guess}
use Rattle.speculate.specs.BoardState.{BoardState}
use Rattle.speculate.specs.Verbs.{SameVerbs}
use Rattle.speculate.specs.declared.held.Held.{Held}
use Rattle.speculate.specs.declared.held.Held.TheVariants.{Empty, Loss, Holds}
use Rattle.speculate.specs.declared.held.Mark.{Mark}
use Rattle.speculate.specs.declared.held.Mark.TheVariants.{Kept, Rerun, Lost}

-- the step was run on the world itself
abbrev pub Ran : Counted → Step → Counted → Outcome → Type 0
Ran w s w' o = (play1 w.plain s ≡ (w'.plain, o)) × (w'.opened ≡ w.opened + 1)

-- A guess that agrees with the world gives its changes and its outcome, and no view is opened; with any other, and after a loss,
-- the step is run.
abbrev pub Committed : Counted → Step → Held → Counted → Outcome → Mark → Type 0
Committed w s Empty w' o m = ⊥
Committed w s Loss w' o m = Ran w s w' o × (m ≡ Lost)
Committed w s (Holds g seen) w' o m =
    (Agrees w.plain g.reads × (w' ≡ record { plain = after_guess g w.plain; opened = w.opened }) × (o ≡ g.outcome) × (m ≡ Kept))
    ⊎ ((Agrees w.plain g.reads → ⊥) × Ran w s w' o × (m ≡ Rerun))

abbrev pub with_commit : BoardState → Counted → Outcome → Mark → ℕ → BoardState
with_commit b w o m since =
    record b { world = w; outcomes = b.outcomes ++ o ∷ []; marks = b.marks ++ m ∷ []; held = slice_set b.held (length b.outcomes) Empty; since = since }

-- no verb has changed since as many steps as before, or since this one
abbrev pub IsSince : BoardState → Counted → ℕ → Type 0
IsSince b w since = ((since ≡ b.since) × SameVerbs b.world.plain w.plain) ⊎ (since ≡ suc (length b.outcomes))

-- the next position is committed
pub record Commits (b b' : BoardState) : Type 0 where
  pub step : Step
  pub held : Held
  pub world : Counted
  pub outcome : Outcome
  pub mark : Mark
  pub step_is : slice_get b.steps (length b.outcomes) ≡ Some step
  pub held_is : slice_get b.held (length b.outcomes) ≡ Some held
  pub since : ℕ
  pub committed : Committed b.world step held world outcome mark
  pub since_is : IsSince b world since
  pub after : b' ≡ with_commit b world outcome mark since

-- the next k positions are committed, in their order
abbrev pub Advances : ℕ → BoardState → BoardState → Type 0
Advances zero b b' = b' ≡ b
Advances (suc k) b b' = (c : BoardState) × Advances k b c × Commits c b'

-- how many places from the first on hold a guess or a loss
abbrev pub ready : List Held → ℕ
ready [] = 0
ready (Empty ∷ hs) = 0
ready (Loss ∷ hs) = suc (ready hs)
ready (Holds g seen ∷ hs) = suc (ready hs)

-- the places that are not committed yet
abbrev pub rest : BoardState → List Held
rest b = drop (length b.outcomes) b.held

-- the next position holds a guess or a loss
abbrev pub IsNextHeld : BoardState → Type 0
IsNextHeld b = (h : Held) × (slice_get b.held (length b.outcomes) ≡ Some h) × (h ≢ Empty)

-- nothing happened, but that a run may have been undone: then a view more was opened
abbrev pub IsUndone : Counted → ℕ → Counted → ℕ → Type 0
IsUndone w n w' n' = (w'.plain ≡ w.plain) × (((w'.opened ≡ w.opened) × (n' ≡ n)) ⊎ ((w'.opened ≡ w.opened + 1) × (n' ≡ n + 1)))

-- the board as it was, but for a run that may have been undone
abbrev pub StaysPut : BoardState → BoardState → Type 0
StaysPut b b' = (w : Counted) × (n : ℕ) × IsUndone b.world b.undone w n × (b' ≡ record b { world = w; undone = n })

-- a first part of the places that hold something is committed, and then nothing
abbrev pub AdvancesInPart : BoardState → BoardState → Type 0
AdvancesInPart b b' = (k : ℕ) × (k ≤ ready (rest b)) × ((c : BoardState) × Advances k b c × StaysPut c b')

-- the base, the steps and what is committed are the same
abbrev pub SameRun : BoardState → BoardState → Type 0
SameRun b b' = b' ≡ record b { held = b'.held }

-- each place holds a guess or a loss
abbrev pub AllHeld : List Held → Type 0
AllHeld [] = Unit {0}
AllHeld (h ∷ hs) = (h ≢ Empty) × AllHeld hs
