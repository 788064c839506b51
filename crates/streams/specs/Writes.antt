-- What was written of texts.
use Rattle.std.specs.Prelude.{◌≡◌, ℕ, List, [], ◌∷◌, ◌++◌, take}

-- what is written now is what was written before and then the text, for each
abbrev pub EachWritten : List (List ℕ) → List (List ℕ) → List (List ℕ) → Type 0
EachWritten [] [] [] = Unit {0}
EachWritten (o ∷ old) (n ∷ new) (t ∷ texts) = (n ≡ o ++ t) × EachWritten old new texts
EachWritten _ _ _ = ⊥

-- a beginning of the text came after what was written before
abbrev pub IsBeginning : List ℕ → List ℕ → List ℕ → Type 0
IsBeginning old new text = (count : ℕ) × (new ≡ old ++ take count text)
