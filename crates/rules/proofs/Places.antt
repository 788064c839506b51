-- Verbs by their places.
use Rattle.std.proofs.Common.{◌≡◌, ℕ, zero, suc, ◌<◌, ◌≤◌, List, [], ◌∷◌, length, get_or, Some, None, refl, ap, arith}
use Rattle.spec_world.specs.World.{Verb}
use Rattle.spec_world.specs.Permissions.{in_place}

pub stands_there : (vs : List Verb) (n : ℕ) (v : Verb) → n < length vs → v ≡ get_or vs n v → Some v ≡ in_place vs n
stands_there [] n v h e = absurd (omega arith)
stands_there (u ∷ vs) zero v h e = ap Some e
stands_there (u ∷ vs) (suc n) v h e = stands_there vs n v (omega arith) e

pub stands_none : (vs : List Verb) (n : ℕ) → length vs ≤ n → None ≡ in_place vs n
stands_none [] n h = refl
stands_none (u ∷ vs) zero h = absurd (omega arith)
stands_none (u ∷ vs) (suc n) h = stands_none vs n (omega arith)
