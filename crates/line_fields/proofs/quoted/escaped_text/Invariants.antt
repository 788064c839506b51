use Rattle.std.proofs.Common.{◌≡◌, ℕ, ◌≤◌, List, ◌∷◌, ◌++◌, IsTrue, length}
use Rattle.spec_value.specs.Datum.{is_text}
use Rattle.spec_value.specs.Literal.{escaped}
use Rattle.line_fields.proofs.quoted.escaped_text.Given as goal

abbrev pub invariant-runs : goal.invariant-runs
invariant-runs l = record {
  shorter : length l.rest ≤ length l.bytes;
  left : (s r : List ℕ) → IsTrue (is_text s) → l.bytes ≡ escaped s ++ 34 ∷ r → (t : List ℕ) × IsTrue (is_text t) × (s ≡ l.characters.items ++ t) × (l.rest ≡ escaped t ++ 34 ∷ r);
  told : l.bytes ≡ escaped l.characters.items ++ l.rest;
}

abbrev pub decreases-runs : goal.decreases-runs
decreases-runs l = length l.rest
