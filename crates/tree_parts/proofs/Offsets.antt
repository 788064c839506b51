-- Offsets behind so many.
use Rattle.std.proofs.Common.{◌≡◌, ◌∙◌, ap, refl, ℕ, zero, suc, ◌-◌, ◌<◌, ◌≤◌, Some, None, arith}
use Rattle.moo_code.specs.Paths.{past}

pub past_before : (k o : ℕ) → o < k → past k o ≡ None
past_before zero o h = absurd (omega arith)
past_before (suc k) zero h = refl
past_before (suc k) (suc o) h = past_before k o (omega arith)

pub past_behind : (k o : ℕ) → k ≤ o → past k o ≡ Some (o - k)
past_behind zero o h = let d : o ≡ o - 0 = omega arith in ap Some d
past_behind (suc k) zero h = absurd (omega arith)
past_behind (suc k) (suc o) h =
    let d : o - k ≡ suc o - suc k = omega arith in
    past_behind k o (omega arith) ∙ ap Some d
