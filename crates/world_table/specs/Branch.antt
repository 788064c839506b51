-- What lies below a place of a block.
use Rattle.std.specs.Prelude.{◌≡◌, ℕ, zero, suc, ◌+◌, ◌*◌, ◌^◌, ◌<◌, ◌≤◌, List, [], ◌∷◌, ◌++◌, map, length, refl}
use Rattle.std.specs.Coded.{Coded, code_by, coded×, coded_ℕ, coded_list}

-- how many levels of blocks there are, and the entries by the part of the key that those levels read
pub record Branch (V : Type 0) : Type 0 where
  pub height : ℕ
  pub entries : List (ℕ × V)

abbrev pub branch_code : {V : Type 0} → Coded V → Coded (Branch V)
branch_code {V} v =
    code_by (ℕ × List (ℕ × V)) (coded× coded_ℕ (coded_list (coded× coded_ℕ v))) (λ b. (b.height, b.entries)) (λ p. record { height = p.0; entries = p.1 }) (λ _. refl)

-- how many keys so many levels tell apart: each level reads five bits
abbrev pub reach : ℕ → ℕ
reach levels = 2 ^ (5 * levels)

-- the entries with n added to each key
abbrev pub raised : {V : Type 0} → ℕ → List (ℕ × V) → List (ℕ × V)
raised n = map (λ e. (n + e.0, e.1))

-- the entries of a row of branches, each of which has `width` keys, where the first key of the first is `start`
abbrev pub joined : {V : Type 0} → ℕ → ℕ → List (Branch V) → List (ℕ × V)
joined width start [] = []
joined width start (b ∷ bs) = raised start b.entries ++ joined width (start + width) bs

-- the keys strictly rise, from `low` on and below `high`
abbrev pub Rises : {V : Type 0} → ℕ → ℕ → List (ℕ × V) → Type 0
Rises low high [] = low ≤ high
Rises low high (e ∷ es) = (low ≤ e.0) × Rises (e.0 + 1) high es

-- a branch below which there are so many levels: it is lower only where it is empty
pub record IsBranch {V : Type 0} (levels : ℕ) (b : Branch V) : Type 0 where
  pub rises : Rises 0 (reach levels) b.entries
  pub within : b.height ≤ levels
  pub lower : b.height < levels → b.entries ≡ []

abbrev pub AreBranches : {V : Type 0} → ℕ → List (Branch V) → Type 0
AreBranches levels [] = Unit {0}
AreBranches levels (b ∷ bs) = IsBranch levels b × AreBranches levels bs

-- no branch at all
abbrev pub nowhere : {V : Type 0} → Branch V
nowhere = record { height = 0; entries = [] }

-- the row with a branch at a place, and with nothing at the places before it that the row did not reach
abbrev pub with_branch : {V : Type 0} → ℕ → Branch V → List (Branch V) → List (Branch V)
with_branch zero b [] = b ∷ []
with_branch zero b (c ∷ cs) = b ∷ cs
with_branch (suc at) b [] = nowhere ∷ with_branch at b []
with_branch (suc at) b (c ∷ cs) = c ∷ with_branch at b cs

-- the places of a block: at most 32 branches, each with so many levels; a place behind them has nothing
pub record IsRow {V : Type 0} (levels : ℕ) (bs : List (Branch V)) : Type 0 where
  pub size : length bs ≤ 32
  pub branches : AreBranches levels bs

-- another row that has the same, save for empty branches behind
pub record IsAlike {V : Type 0} (old new : List (Branch V)) : Type 0 where
  pub entries : (width start : ℕ) → joined width start new ≡ joined width start old
  pub branches : (levels : ℕ) → AreBranches levels old → AreBranches levels new
