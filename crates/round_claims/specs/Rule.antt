-- What the claim word and the seats' lists have in common between any two steps.
-- The word counts the exchanges: each adds one to it, and claims the number that it found, if that is a position.
use Rattle.std.specs.Prelude.{◌≡◌, ℕ, ◌+◌, ◌-◌, ◌<◌, ◌≤◌, min, ◌||◌, Bool, true, false, List, [], ◌∷◌, ◌++◌, length, slice_index, flat_map, sum_by}
use mathlib.Core.Option.{some}
use lib.ListN.{get_elem?}
use Rattle.atomic_table.specs.Seated.{TableId}
use Rattle.atomic_table.specs.Table.{Me, Step}
use Rattle.round_claims.specs.declared.claims.TheConstants.{MOST_POSITIONS, MOST_SEATS}
use Rattle.round_claims.specs.declared.rule.Size.{Size}
use Rattle.round_claims.specs.declared.rule.SeatView.{SeatView}
use Rattle.round_claims.specs.Claimed.{EachOnceBelow, Offer, Holding}

-- what callers see of a table and of a seat's view, and the size that callers see
abbrev pub offer_of : TableId → Size → Offer
offer_of id size = record { id = id; positions = size.positions; seats = size.seats }

abbrev pub holding_of : TableId → SeatView → Holding
holding_of id v = record { offer = offer_of id v.size; seats = v.seats; claimed = v.claimed; closed = v.closed }

abbrev pub size_of : Offer → Size
size_of offer = record { positions = offer.positions; seats = offer.seats }

-- the positions that the seats claimed, one seat's after another's
abbrev pub all_claimed : List SeatView → List ℕ
all_claimed views = flat_map (λ v. v.claimed) views

-- P holds of each seat's view
abbrev pub EachView : (SeatView → Type 0) → List SeatView → Type 0
EachView P views = (i : ℕ) (v : SeatView) → get_elem? views i ≡ some v → P v

-- what the rule says of one seat. A closed seat knows that all positions are claimed
pub record IsTold (size : Size) (word : ℕ) (v : SeatView) : Type 0 where
  pub size_is : 0 < v.seats → v.size ≡ size
  pub idle : v.seats ≡ 0 → v.claimed ≡ []
  pub all_gone : v.closed ≡ true → size.positions ≤ word

-- The positions in all seats' lists are the numbers below the word, each once and none left out.
-- The views stand for as many seats as there are. Each seat may miss once, so the word ends at most at the number of
-- positions and one more for each seat
pub record IsKept (size : Size) (words : List ℕ) (views : List SeatView) : Type 0 where
  pub one_word : length words ≡ 1
  pub each_once : EachOnceBelow (min (slice_index words 0) size.positions) (all_claimed views)
  pub count : length (all_claimed views) ≡ min (slice_index words 0) size.positions
  pub all_seats : sum_by (λ v. v.seats) views ≡ size.seats
  pub misses : sum_by (λ v. v.misses_left) views ≤ size.seats
  pub bounded : slice_index words 0 + sum_by (λ v. v.misses_left) views ≤ size.positions + size.seats
  pub told : EachView (IsTold size (slice_index words 0)) views
  pub positions_fit : size.positions ≤ MOST_POSITIONS
  pub seats_fit : size.seats ≤ MOST_SEATS

-- A worker's seat holds no slot of the table, stands for one seat at least, and may miss once more while it is open
pub record IsSeat (me : Me ℕ SeatView) (closed : Bool) : Type 0 where
  pub no_slot : me.1 ≡ []
  pub closed_is : me.0.closed ≡ closed
  pub some_seat : 0 < me.0.seats
  pub may_miss : closed ≡ false → 0 < me.0.misses_left

-- the view that stands for all seats
abbrev pub first_view : Size → SeatView
first_view size = record { size = size; seats = size.seats; misses_left = size.seats; claimed = []; closed = false }

-- the view of one seat
abbrev pub seat_view : Size → SeatView
seat_view size = record { size = size; seats = 1; misses_left = 1; claimed = []; closed = false }

-- what is left where one seat is cut off
abbrev pub left_view : SeatView → SeatView
left_view v = record v { seats = v.seats - 1; misses_left = v.misses_left - 1 }

-- two views in one, and what is left of the second
abbrev pub joined_view : SeatView → SeatView → SeatView
joined_view v w = record {
  size = v.size;
  seats = v.seats + w.seats;
  misses_left = v.misses_left + w.misses_left;
  claimed = v.claimed ++ w.claimed;
  closed = v.closed || w.closed;
}

abbrev pub spent_view : SeatView
spent_view = record { size = record { positions = 0; seats = 0 }; seats = 0; misses_left = 0; claimed = []; closed = false }

-- a seat that claimed one more position, and one that found none
abbrev pub claimed_view : SeatView → ℕ → SeatView
claimed_view v n = record v { claimed = v.claimed ++ n ∷ [] }

abbrev pub closed_view : SeatView → SeatView
closed_view v = record v { misses_left = v.misses_left - 1; closed = true }

-- What an exchange tells: the number found is claimed if it is a position, and otherwise the seat closes. A seat has
-- claimed no more numbers than the word counted
abbrev pub Exchanges : {S : Type 0} → Step S → Me S SeatView → ℕ → Me S SeatView → Type 0
Exchanges s v found w =
    (w.1 ≡ v.1)
    × (found < v.0.size.positions → (w.0 ≡ claimed_view v.0 found) × (length v.0.claimed ≤ found))
    × (v.0.size.positions ≤ found → w.0 ≡ closed_view v.0)
