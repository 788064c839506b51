-- What callers see of claims and of a seat, and what it is to claim each position once.
use Rattle.std.specs.Prelude.{◌≡◌, ℕ, ◌==◌, nat_lt, if◌then◌else◌, Bool, true, false, List, [], ◌∷◌, ◌++◌, All, count_by, length}
use Rattle.atomic_table.specs.Seated.{TableId}

-- how often x stands in the list
abbrev pub times : ℕ → List ℕ → ℕ
times x xs = count_by (λ y. y == x) xs

-- each number below n stands in the list once, and no other number does
abbrev pub EachOnceBelow : ℕ → List ℕ → Type 0
EachOnceBelow n xs = (x : ℕ) → times x xs ≡ (if nat_lt x n then 1 else 0)

-- What callers see of claims: which they are, how many positions there are, and how many seats
pub record Offer : Type 0 where
  pub id : TableId
  pub positions : ℕ
  pub seats : ℕ

-- What callers see of a seat: what it claims from, how many of the seats it stands for, the positions that it claimed in
-- their order, and whether it was told that all are claimed
pub record Holding : Type 0 where
  pub offer : Offer
  pub seats : ℕ
  pub claimed : List ℕ
  pub closed : Bool

-- one open seat that has claimed nothing
abbrev pub fresh_seat : Offer → Holding
fresh_seat offer = record { offer = offer; seats = 1; claimed = []; closed = false }

-- claims of so many positions, and so many seats, each open and with nothing claimed
pub record Opens (positions seats : ℕ) (offer : Offer) (all : List Holding) : Type 0 where
  pub positions_are : offer.positions ≡ positions
  pub seats_are : offer.seats ≡ seats
  pub count : length all ≡ seats
  pub fresh : All (λ seat. seat ≡ fresh_seat offer) all

-- the seat claimed one more position
abbrev pub with_claim : Holding → ℕ → Holding
with_claim seat position = record seat { claimed = seat.claimed ++ position ∷ [] }

-- the seat was told that all are claimed
abbrev pub closed_seat : Holding → Holding
closed_seat seat = record seat { closed = true }

-- one seat of these claims that was told that all are claimed
pub record IsDone (offer : Offer) (seat : Holding) : Type 0 where
  pub offer_is : seat.offer ≡ offer
  pub one : seat.seats ≡ 1
  pub closed : seat.closed ≡ true
