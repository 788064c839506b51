-- The last of several values.
use Rattle.std.proofs.Common.{◌≡◌, ◌≤◌, ℕ, zero, suc, ◌-◌, List, [], ◌∷◌, length, get_or, refl, arith}
use Rattle.spec_value.specs.Datum.{Datum}
use Rattle.spec_moo.specs.Natives.Rows.{zero_value}
use Rattle.spec_moo.specs.Natives.Objects.{new_object}

last_at : (vs : List Datum) (n : ℕ) (v : Datum) → length vs ≡ suc n → v ≡ get_or vs n v → v ≡ new_object vs
last_at [] n v h e = absurd (omega (arith, h))
last_at (u ∷ []) zero v h e = e
last_at (u ∷ []) (suc n) v h e = absurd (omega (arith, h))
last_at (u ∷ t ∷ vs) zero v h e = absurd (omega (arith, h))
last_at (u ∷ t ∷ vs) (suc n) v h e = last_at (t ∷ vs) n v (omega (arith, h)) e

pub last_there : (vs : List Datum) (n : ℕ) (v : Datum) → n ≡ length vs - 1 → 1 ≤ length vs → v ≡ get_or vs n v → v ≡ new_object vs
last_there vs n v is h e = last_at vs n v (omega (arith, is, h)) e

pub none_there : (vs : List Datum) → length vs ≡ 0 → new_object vs ≡ zero_value
none_there [] h = refl
none_there (v ∷ vs) h = absurd (omega (arith, h))
