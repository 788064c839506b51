-- Bytes are below 256.
use Rattle.std.proofs.Common.{◌≡◌, ℕ, suc, ◌<◌, Bool, true, List, [], ◌∷◌, length, slice_index_or, refl, arith, ◌&&◌, ◌==◌, nat_lt}
use Rattle.std.proofs.lemmas.Bool.Decides.{nat_tests}
use Rattle.std.specs.List.{list_all}

pub all_below : (s : List ℕ) → ((i : ℕ) → slice_index_or s i 0 < 256) → list_all (λ b. nat_lt b 256) s ≡ true
all_below [] h = refl
all_below (b ∷ s) h =
    let first : b < 256 = h 0 in
    let rest = all_below s (λ i. h (suc i)) in
    grind (arith, nat_tests)

pub key_fits : (s : List ℕ) → length s ≡ 32 → ((i : ℕ) → slice_index_or s i 0 < 256) → ((length s == 32) && list_all (λ b. nat_lt b 256) s) ≡ true
key_fits s n h =
    let rest = all_below s h in
    grind (arith, nat_tests)
