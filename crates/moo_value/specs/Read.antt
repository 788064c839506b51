-- What a reader finds at the front of some bytes.
use Rattle.std.specs.Prelude.{◌≡◌, ℕ, suc, ◌≤◌, ℤ, List, [], ◌∷◌, ◌++◌, length, Bool, true, false, IsTrue, ◌&&◌, nat_le, ◌==◌, if◌then◌else◌, Option, Some, None, option_map, IfSome}
use Rattle.std.specs.Fmt.{signed_decimal}
use Rattle.std.specs.Borrow.{Bor}
use Rattle.spec_value.specs.Datum.{Datum, ErrorCode, of_list, is_text, is_value, are_values, in_number_range}
use Rattle.spec_value.specs.Literal.{literal, data_text, escaped, error_name}
use Rattle.moo_value.specs.Depth.{depth, data_depth}
use Rattle.moo_value.specs.Errors.{code_of}
use Rattle.moo_value.specs.declared.error.MooError.{MooError}

abbrev pub is_digit : ℕ → Bool
is_digit c = nat_le 48 c && nat_le c 57

-- how many digits stand at the front
abbrev pub digit_run : List ℕ → ℕ
digit_run [] = 0
digit_run (c ∷ cs) = if is_digit c then suc (digit_run cs) else 0

-- the same, after a minus sign if there is one
abbrev pub numeral_length : List ℕ → ℕ
numeral_length [] = 0
numeral_length (c ∷ cs) = if c == 45 then suc (digit_run cs) else digit_run (c ∷ cs)

-- what was read, and the bytes behind it
abbrev pub Found : Type 0 → Type 0
Found A = Option (A × Bor (List ℕ))

abbrev pub found : {A : Type 0} → Found A → Option (A × List ℕ)
found o = option_map (λ p. (p.0, p.1.now)) o

-- no bytes are made up
abbrev pub IsNoLonger : {A : Type 0} → List ℕ → Found A → Type 0
IsNoLonger bytes o = IfSome o (λ p. length p.1.now ≤ length bytes)

abbrev pub first_of : List ℕ → Option (ℕ × List ℕ)
first_of [] = None
first_of (c ∷ cs) = Some (c, cs)

-- the next character of a text, past a backslash
abbrev pub one_character : List ℕ → Option (ℕ × List ℕ)
one_character [] = None
one_character (c ∷ cs) = if c == 92 then first_of cs else Some (c, cs)

abbrev pub space : List ℕ → Option (Bool × List ℕ)
space [] = None
space (c ∷ cs) = if c == 32 then Some (false, cs) else None

-- what stands behind an item: the end of the list, or a comma and a space
abbrev pub mark : List ℕ → Option (Bool × List ℕ)
mark [] = None
mark (c ∷ cs) = if c == 125 then Some (true, cs) else (if c == 44 then space cs else None)

abbrev pub FindsNumber : List ℕ → Found ℤ → Type 0
FindsNumber bytes o = (n : ℤ) (r : List ℕ) → IsTrue (in_number_range n) → digit_run r ≡ 0 → bytes ≡ signed_decimal n ++ r → found o ≡ Some (n, r)

-- what stands behind a name
abbrev pub after_name : List ℕ → List ℕ → Option (List ℕ)
after_name [] bytes = Some bytes
after_name (c ∷ cs) [] = None
after_name (c ∷ cs) (b ∷ bs) = if c == b then after_name cs bs else None

abbrev pub named : ErrorCode → Option (ErrorCode × List ℕ) → Option (List ℕ) → Option (ErrorCode × List ℕ)
named e others None = others
named e others (Some rest) = Some (e, rest)

-- the first of some errors whose name stands at the front
abbrev pub first_named : List MooError → List ℕ → Option (ErrorCode × List ℕ)
first_named [] bytes = None
first_named (e ∷ es) bytes = named (code_of e) (first_named es bytes) (after_name (error_name (code_of e)) bytes)

abbrev pub FindsError : List ℕ → Found ErrorCode → Type 0
FindsError bytes o = (e : ErrorCode) (r : List ℕ) → bytes ≡ error_name e ++ r → found o ≡ Some (e, r)

-- behind the opening quote
abbrev pub FindsText : List ℕ → Found (List ℕ) → Type 0
FindsText bytes o = (s r : List ℕ) → IsTrue (is_text s) → bytes ≡ escaped s ++ 34 ∷ r → found o ≡ Some (s, r)

-- of the values that nest at most so deep
abbrev pub FindsValue : ℕ → List ℕ → Found Datum → Type 0
FindsValue n bytes o = (d : Datum) (r : List ℕ) → IsTrue (is_value d) → depth d ≤ n → digit_run r ≡ 0 → bytes ≡ literal d ++ r → found o ≡ Some (d, r)

-- behind the opening brace
abbrev pub FindsItems : ℕ → List ℕ → Found (List Datum) → Type 0
FindsItems n bytes o = (ds : List Datum) (r : List ℕ) → IsTrue (are_values (of_list ds)) → data_depth (of_list ds) ≤ n → bytes ≡ data_text (of_list ds) ++ 125 ∷ r → found o ≡ Some (ds, r)

-- the text is the literal of no value that nests at most so deep
abbrev pub IsNoLiteralWithin : ℕ → List ℕ → Type 0
IsNoLiteralWithin n t = (d : Datum) → IsTrue (is_value d) → depth d ≤ n → literal d ≡ t → ⊥
