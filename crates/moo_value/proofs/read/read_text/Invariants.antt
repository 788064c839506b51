use Rattle.std.proofs.Common.{◌≡◌, ℕ, ◌≤◌, List, ◌∷◌, ◌++◌, IsTrue, length, string_bytes}
use Rattle.spec_value.specs.Datum.{is_text}
use Rattle.spec_value.specs.Literal.{escaped}
use Rattle.moo_value.proofs.read.read_text.Given as goal

abbrev pub invariant-characters : goal.invariant-characters
invariant-characters l = record {
  shorter : length l.rest ≤ length l.bytes;
  left : (s r : List ℕ) → IsTrue (is_text s) → l.bytes ≡ escaped s ++ 34 ∷ r → (t : List ℕ) × IsTrue (is_text t) × (s ≡ string_bytes l.text ++ t) × (l.rest ≡ escaped t ++ 34 ∷ r);
}

abbrev pub decreases-characters : goal.decreases-characters
decreases-characters l = length l.rest
