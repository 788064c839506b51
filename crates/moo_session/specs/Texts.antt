-- Texts as lists of bytes, and how far they were written.
use Rattle.std.specs.Prelude.{◌≡◌, ◌+◌, ◌<◌, ℕ, List, [], map, take, drop, length, get_or, Vec}
use Rattle.std.specs.Global.{Global}
use Rattle.streams.specs.Writes.{EachWritten, IsBeginning}

abbrev pub all_items : List (Vec ℕ Global) → List (List ℕ)
all_items vs = map (λ v. v.items) vs

-- of what was written, before and now: the writers before the one of this number, from 1 on, have all of their texts, that one a beginning, and the
-- later ones are as they were
abbrev pub IsCutAt : {W : Type 0} → ℕ → (W → List ℕ) → List W → List W → List (List ℕ) → Type 0
IsCutAt n written old new texts =
    (k : ℕ) × (n ≡ k + 1) × (k < length old)
    × EachWritten (map written (take k old)) (map written (take k new)) (take k texts)
    × IsBeginning (get_or (map written old) k []) (get_or (map written new) k []) (get_or texts k [])
    × (drop (k + 1) new ≡ drop (k + 1) old)
