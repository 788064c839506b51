-- Worked rows, true by computation: parts of heavy values, the ranges of a step's fields, and numbers that run on.
use Rattle.std.specs.Prelude.{◌≡◌, ℕ, ℤ, pos, [], ◌∷◌, replicate, true, false, codes}
use Rattle.spec_value.specs.Answer.{gives, raises}
use Rattle.spec_value.specs.Indexing.{range_value, set_index_value}
use Rattle.spec_value.specs.Datum.{integer, text, list, no_data, item, Text, limit_exceeded}
use Rattle.spec_world.specs.Step.{Step, line_of, in_range, runs_on}

-- ---- parts of values

-- a part that is read is not weighed; one that is written is
abbrev pub HeavyParts : Type 0
HeavyParts =
    (range_value (text (replicate 65537 97)) (integer (pos 1)) (integer (pos 65536)) ≡ gives (text (replicate 65536 97)))
    × (range_value (list (item (text (replicate 65536 97)) no_data)) (integer (pos 1)) (integer (pos 1)) ≡ gives (list (item (text (replicate 65536 97)) no_data)))
    × (set_index_value (text (replicate 65536 97)) (integer (pos 1)) (text (codes "b")) ≡ raises limit_exceeded)

-- ---- steps

abbrev pub line_step : ℕ → ℤ → Text → Step
line_step n c t = record { number = n; moment = 0; key = replicate 32 0; event = line_of c t }

abbrev pub InRange : Type 0
InRange =
    (in_range (line_step 1 (pos 1) (codes "count")) ≡ true)
    × (in_range (line_step 33554431 (pos 999999) (replicate 4096 126)) ≡ true)
    × (in_range (line_step 0 (pos 1) []) ≡ false)
    × (in_range (line_step 33554432 (pos 1) []) ≡ false)
    × (in_range (line_step 1 (pos 0) []) ≡ false)
    × (in_range (line_step 1 (pos 1000000) []) ≡ false)
    × (in_range (line_step 1 (pos 1) (replicate 4097 126)) ≡ false)
    × (in_range (line_step 1 (pos 1) (127 ∷ [])) ≡ false)

abbrev pub Numbers : Type 0
Numbers =
    (runs_on 1 (line_step 1 (pos 1) [] ∷ line_step 2 (pos 1) [] ∷ []) ≡ true)
    × (runs_on 1 (line_step 1 (pos 1) [] ∷ line_step 3 (pos 1) [] ∷ []) ≡ false)
    × (runs_on 1 (line_step 2 (pos 1) [] ∷ []) ≡ false)
