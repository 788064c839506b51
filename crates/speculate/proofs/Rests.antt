-- Losing what is left.
use Rattle.std.proofs.Common.{◌≡◌, ℕ, ◌<◌, ◌≤◌, length, Some, slice_get, arith}
use Rattle.speculate.specs.declared.held.Held.TheVariants.{Empty}
use Rattle.speculate.specs.BoardState.{BoardState, EachFits}
use Rattle.speculate.specs.Progress.{AllHeld, rest}
use Rattle.speculate.proofs.Places.{fits_length, held_all}

-- no place from the one to the other is empty
abbrev pub Full : ℕ → ℕ → BoardState → Type 0
Full a b s = (k : ℕ) → a ≤ k → k < b → slice_get s.held k ≡ Some Empty → ⊥

pub full_held : (b : BoardState) → EachFits b.steps b.held → Full (length b.outcomes) (length b.steps) b → AllHeld (rest b)
full_held b fits full =
    let same = fits_length b.steps b.held fits in
    held_all b.held (length b.outcomes) (λ i x y e. full i x (omega arith) e)
