-- Sets of prepositions by their numbers.
use Rattle.std.proofs.Common.{◌≡◌, ℕ, zero, suc, ◌≤◌, List, [], ◌∷◌, length, refl, arith}
use Rattle.spec_world.specs.Prepositions.{Phrase, sets}
use Rattle.spec_moo.specs.Natives.Verbs.{set_text}

beyond : (ss : List (List Phrase)) (n : ℕ) → length ss ≤ n → set_text ss n ≡ []
beyond [] n h = refl
beyond (s ∷ ss) zero h = absurd (omega (arith, h))
beyond (s ∷ ss) (suc n) h = beyond ss n (omega (arith, h))

pub no_set : (n : ℕ) → 15 ≤ n → set_text sets n ≡ []
no_set n h = beyond sets n h
