-- What may happen to the positions and the board of a list, in any order.
use Rattle.std.specs.Prelude.{◌≡◌, ℕ, suc, ◌<◌, ◌⊎◌, List, [], ◌∷◌, ◌++◌, length, Some, None, slice_get, slice_set}
use Rattle.spec_world.specs.Step.{Step, RunsOn, AllInRange}
use Rattle.world.specs.Counted.{Counted}
use Rattle.view.specs.Sound.{IsSound}
use Rattle.speculate.specs.declared.held.Held.TheVariants.{Loss, Holds}
use Rattle.speculate.specs.Right.{Guessed, IsRight}
use Rattle.speculate.specs.BoardState.{BoardState, IsHonest, IsFree, opened_on, with_held}
use Rattle.speculate.specs.Progress.{Advances, AdvancesInPart, ready, rest}

-- the board, how many positions are claimed, and the positions that each seat claimed
pub record Scene : Type 0 where
  pub board : BoardState
  pub claimed : ℕ
  pub seats : List (List ℕ)

pub data Event : Type 0 where
  Claim : (seat : ℕ) → Event
  Post : (position : ℕ) → (guess : Guessed) → Event
  Lose : (position : ℕ) → Event
  Advance : Event

-- the next position that nobody claimed goes to the seat
abbrev pub with_claim : Scene → ℕ → List ℕ → Scene
with_claim s seat had = record s { claimed = suc s.claimed; seats = slice_set s.seats seat (had ++ s.claimed ∷ []) }

abbrev pub Claims : Scene → ℕ → Scene → Type 0
Claims s seat s' = (had : List ℕ) × (s.claimed < length s.board.steps) × (slice_get s.seats seat ≡ Some had) × (s' ≡ with_claim s seat had)

-- the board as an advance leaves it: all that is ready is committed, or for want of memory a first part of it
abbrev pub IsAdvanced : BoardState → BoardState → Type 0
IsAdvanced b b' = Advances (ready (rest b)) b b' ⊎ AdvancesInPart b b'

-- An event leaves the one scene or the other. One that is refused changes nothing.
abbrev pub Happens : Event → Scene → Scene → Type 0
Happens (Claim seat) s s' = Claims s seat s' ⊎ (s' ≡ s)
Happens (Post i g) s s' =
    (IsFree s.board i × (slice_get s.board.steps i ≡ Some g.step) × (s' ≡ record s { board = with_held s.board i (Holds g None) })) ⊎ (s' ≡ s)
Happens (Lose i) s s' = (IsFree s.board i × (s' ≡ record s { board = with_held s.board i Loss })) ⊎ (s' ≡ s)
Happens Advance s s' = (b : BoardState) × IsAdvanced s.board b × (s' ≡ record s { board = b })

-- a guess that is posted is right
abbrev pub IsFair : Event → Type 0
IsFair (Claim seat) = Unit {0}
IsFair (Post i g) = IsRight g
IsFair (Lose i) = Unit {0}
IsFair Advance = Unit {0}

abbrev pub AllFair : List Event → Type 0
AllFair [] = Unit {0}
AllFair (e ∷ es) = IsFair e × AllFair es

-- the events, one after another, lead from the one scene to the other
abbrev pub Leads : List Event → Scene → Scene → Type 0
Leads [] s s' = s' ≡ s
Leads (e ∷ es) s s' = (m : Scene) × Happens e s m × Leads es m s'

-- nothing is claimed, and nothing is held or committed
abbrev pub at_start : Counted → List Step → List (List ℕ) → Scene
at_start base steps seats = record { board = opened_on base steps; claimed = 0; seats = seats }

-- After every schedule the board is honest. A schedule's first part is a schedule, so it is honest after each event.
abbrev pub StaysHonest : Type 0
StaysHonest =
    (base : Counted) (steps : List Step) (seats : List (List ℕ)) → IsSound base.plain → RunsOn base.plain steps → AllInRange steps
    → (events : List Event) → AllFair events → (s : Scene) → Leads events (at_start base steps seats) s → IsHonest s.board
