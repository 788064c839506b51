-- Pairs of a moment and a key, in the order of moments, and at one moment of keys.
use Rattle.std.specs.Prelude.{ℕ, List, Option}
use Rattle.std.specs.declared.cmp.Ordering.{Ordering}
use Rattle.std.specs.Ordering.{nat_cmp, ordering_then}
use Rattle.due_table.specs.Order.{with_item, without_item, first_item_from}

-- with keys in the order R
abbrev pub pair_cmp : {K : Type 0} → (K → K → Ordering) → ℕ × K → ℕ × K → Ordering
pair_cmp R p q = ordering_then (nat_cmp p.0 q.0) (R p.1 q.1)

abbrev pub with_pair : ℕ × ℕ → List (ℕ × ℕ) → List (ℕ × ℕ)
with_pair = with_item (pair_cmp nat_cmp)

abbrev pub without_pair : ℕ × ℕ → List (ℕ × ℕ) → List (ℕ × ℕ)
without_pair = without_item (pair_cmp nat_cmp)

-- the first pair that is this one or after it
abbrev pub first_pair_from : ℕ × ℕ → List (ℕ × ℕ) → Option (ℕ × ℕ)
first_pair_from = first_item_from (pair_cmp nat_cmp)
