-- A text on both sides of one of its characters.
use Rattle.std.proofs.Common.{◌≡◌, ℕ, suc, ◌+◌, [], ◌∷◌, ◌++◌, length, take, drop, refl, ◌∙◌, arith}
use Rattle.std.proofs.Math.Seq.{take-append_seam}
use Rattle.spec_value.specs.Datum.{Text}

past : (t : Text) (c : ℕ) (r : Text) → drop (suc (length t)) (t ++ c ∷ r) ≡ r
past [] c r = refl
past (d ∷ t) c r = past t c r

pub before_seam : (text t : Text) (c : ℕ) (r : Text) (i : ℕ) → text ≡ t ++ c ∷ r → i ≡ length t → take i text ≡ t
before_seam text t c r i e at = (λ j. take (at j) (e j)) ∙ take-append_seam t (c ∷ r)

pub behind_seam : (text t : Text) (c : ℕ) (r : Text) (i : ℕ) → text ≡ t ++ c ∷ r → i ≡ length t → drop (i + 1) text ≡ r
behind_seam text t c r i e at = let next : i + 1 ≡ suc (length t) = omega arith in (λ j. drop (next j) (e j)) ∙ past t c r
