-- Steps of a list that are run side by side, in lanes.
use Rattle.std.specs.Prelude.{◌≡◌, ◌≢◌, ℕ, ℤ, Bool, List, [], ◌∷◌, map, take, Some, slice_get, slice_set, reverse}
use Rattle.spec_world.specs.World.{World}
use Rattle.spec_world.specs.Step.{Step}
use Rattle.spec_world.specs.Outcome.{Outcome}
use Rattle.spec_world.specs.Questions.{Question, about_slot, ask, Change, new_value, new_next, apply, apply_all}
use Rattle.spec_moo.specs.Steps.{play1, play}
use Rattle.view.specs.Sound.{IsSound}
use Rattle.speculate.specs.Moves.{Move}
use Rattle.speculate.specs.Tables.{IsThere}
use Rattle.world.specs.Marked.{IsOnThese}
use Rattle.speculate.specs.declared.lane.Lane.{Lane}

-- a question is about no slot, or about one of these objects
abbrev pub IsInside : List Bool → Question → Type 0
IsInside ts (about_slot o p) = IsThere ts o
IsInside ts _ = Unit {0}

-- two worlds answer all that is inside alike
abbrev pub AnswersInside : List Bool → World → World → Type 0
AnswersInside ts v w = (q : Question) → IsInside ts q → ask w q ≡ ask v q

-- another value in a slot of one of these objects, or the next step's number
abbrev pub IsOwn : List Bool → Change → Type 0
IsOwn ts (new_value o p v) = IsThere ts o
IsOwn ts (new_next n) = Unit {0}
IsOwn ts _ = ⊥

abbrev pub AllOwn : List Bool → List Change → Type 0
AllOwn ts [] = Unit {0}
AllOwn ts (c ∷ cs) = IsOwn ts c × AllOwn ts cs

-- in each sound world that answers what is inside as this one, the step does this
abbrev pub Does : List Bool → World → Move → Type 0
Does ts v m = (w : World) → IsSound w → AnswersInside ts v w → play1 w m.step ≡ (apply_all m.changes w, m.outcome)

-- steps one after another from a world on, which ask for slots of some objects and change slots of others
abbrev pub Course : List Bool → List Bool → World → List Move → Type 0
Course read changed v [] = Unit {0}
Course read changed v (m ∷ ms) = Does read v m × AllOwn changed m.changes × Course read changed (apply_all m.changes v) ms

-- a world after all that they change
abbrev pub after_moves : List Move → World → World
after_moves [] w = w
after_moves (m ∷ ms) w = after_moves ms (apply_all m.changes w)

-- one lane: on which objects it asks for slots, on which it changes some, and what its steps still to come do
pub record Strand : Type 0 where
  pub read : List Bool
  pub changed : List Bool
  pub moves : List Move

-- a world after all strands, one after another
abbrev pub after_strands : List Strand → World → World
after_strands [] w = w
after_strands (s ∷ ss) w = after_strands ss (after_moves s.moves w)

-- no object is in both tables
abbrev pub Apart : List Bool → List Bool → Type 0
Apart xs ys = (o : ℤ) → IsThere xs o → IsThere ys o → ⊥

-- what a strand changes no other asks for or changes
abbrev pub AreApart : List Strand → Type 0
AreApart ss = (i j : ℕ) (a b : Strand) → slice_get ss i ≡ Some a → slice_get ss j ≡ Some b → i ≢ j → Apart a.changed b.read × Apart a.changed b.changed

-- each of a list, by its place
abbrev pub Each : {X : Type 0} → (X → Type 0) → List X → Type 0
Each P xs = (k : ℕ) (x : _) → slice_get xs k ≡ Some x → P x

-- each move is the one of the step at its position
abbrev pub AreOf : List Step → List Move → Type 0
AreOf steps ms = Each (λ m. slice_get steps m.position ≡ Some m.step) ms

-- a strand of these steps may go on in a world
pub record GoesOn (steps : List Step) (w : World) (s : Strand) : Type 0 where
  pub from : World
  pub course : Course s.read s.changed from s.moves
  pub alike : AnswersInside s.read from w
  pub of_steps : AreOf steps s.moves

-- So many steps were woven out of the strands; what is left of these leads to a world.
pub record IsWoven (base : World) (steps : List Step) (at : ℕ) (outcomes : List Outcome) (ss : List Strand) (end : World) : Type 0 where
  pub now : World
  pub played : play base (take at steps) ≡ (now, outcomes)
  pub sound : IsSound now
  pub strands : Each (GoesOn steps now) ss
  pub apart : AreApart ss
  pub leads : after_strands ss now ≡ end

-- changes, and the greatest number of a next step, do together what moves do
abbrev pub AreSummed : List Change → ℕ → List Move → Type 0
AreSummed net next ms = (w : World) → apply (new_next next) (apply_all net w) ≡ after_moves ms w

-- what a step does in each sound world that answers as this one whatever is about no slots but those on these objects
abbrev pub DoesOn : List ℤ → World → Step → List Change → Outcome → Type 0
DoesOn os v s cs o = (w : World) → IsSound w → ((q : Question) → IsOnThese os q → ask w q ≡ ask v q) → play1 w s ≡ (apply_all cs w, o)

-- Steps of a list ran from a world on: on which objects they asked for slots, and on which they changed some, what they changed together, and what each did.
pub record HaveRun (base : World) (steps : List Step) (read changed : List Bool) (net : List Change) (next : ℕ) (ms : List Move) : Type 0 where
  pub course : Course read changed base ms
  pub summed : AreSummed net next ms
  pub of_steps : AreOf steps ms

-- a lane that ran some steps of a list from a world on, up to this one
abbrev pub IsUnderWay : World → List Step → Lane → World → Type 0
IsUnderWay base steps l now = HaveRun base steps l.read l.changed l.net l.next l.told.items × (now ≡ after_moves l.told.items base)

-- the same at its end, where what is told of the last step comes first
abbrev pub HasRun : World → List Step → Lane → Type 0
HasRun base steps l = HaveRun base steps l.read l.changed l.net l.next (reverse l.told.items)

-- a lane as a strand
abbrev pub strand_of : Lane → Strand
strand_of l = record { read = l.read; changed = l.changed; moves = reverse l.told.items }

-- what one of two lanes changes the other one neither asks for nor changes
abbrev pub ArePairApart : List Lane → ℕ → ℕ → Type 0
ArePairApart ls i j = (a b : Lane) → slice_get ls i ≡ Some a → slice_get ls j ≡ Some b → i ≢ j
    → Apart a.changed b.read × Apart a.changed b.changed

abbrev pub LanesApart : List Lane → Type 0
LanesApart ls = (i j : ℕ) → ArePairApart ls i j

-- the next move of a lane is taken
pub record IsTaken (old : List Lane) (k : ℕ) (m : Move) (new : List Lane) : Type 0 where
  pub lane : Lane
  pub rest : List Move
  pub was : slice_get old k ≡ Some lane
  pub first : reverse lane.told.items ≡ m ∷ rest
  pub now : map strand_of new ≡ slice_set (map strand_of old) k (record (strand_of lane) { moves = rest })
