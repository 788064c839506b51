-- What a field says, by the test that it passes: nothing where it fails it.
use Rattle.std.specs.Prelude.{◌≡◌, ℕ, ℤ, Bool, true, false, List, ◌∷◌, ◌++◌, Option, Some, None, IsTrue, IfSome}
use Rattle.std.specs.Fmt.{signed_decimal}
use Rattle.std.specs.List.{list_all}
use Rattle.spec_value.specs.Datum.{Text, in_number_range, ErrorCode, Datum, text, of_list}
use Rattle.spec_value.specs.Literal.{error_name, escaped, literal, data_text}
use Rattle.spec_faults.specs.Plain.{is_number}
use Rattle.spec_faults.specs.Literals.{nests, all_nest}
use Rattle.moo_value.specs.Read.{Found}

abbrev pub Says : {A : Type 0} → Option A → Bool → Option A → Type 0
Says None test said = test ≡ false
Says (Some x) test said = (test ≡ true) × (said ≡ Some x)

-- the greatest number of a part
abbrev pub greatest : ℕ
greatest = 9223372036854775807

-- numbers of parts, counted from 1
abbrev pub are_parts : List Text → Bool
are_parts ts = list_all (is_number 1 greatest) ts

-- ---- what is read stands there, and nothing else

abbrev pub TellsNumber : List ℕ → Found ℤ → Type 0
TellsNumber bytes o = IfSome o (λ p. (bytes ≡ signed_decimal p.0 ++ p.1.now) × IsTrue (in_number_range p.0))

abbrev pub TellsError : List ℕ → Found ErrorCode → Type 0
TellsError bytes o = IfSome o (λ p. bytes ≡ error_name p.0 ++ p.1.now)

-- behind the opening quote
abbrev pub TellsText : List ℕ → Found (List ℕ) → Type 0
TellsText bytes o = IfSome o (λ p. bytes ≡ escaped p.0 ++ 34 ∷ p.1.now)

abbrev pub TellsValue : ℕ → List ℕ → Found Datum → Type 0
TellsValue room bytes o = IfSome o (λ p. (bytes ≡ literal p.0 ++ p.1.now) × IsTrue (nests room p.0))

-- behind the opening brace
abbrev pub TellsItems : ℕ → List ℕ → Found (List Datum) → Type 0
TellsItems room bytes o = IfSome o (λ p. (bytes ≡ data_text (of_list p.0) ++ 125 ∷ p.1.now) × IsTrue (all_nest room (of_list p.0)))

-- the text that a literal is one of
abbrev pub string_in : Option Datum → Option Text
string_in (Some (text t)) = Some t
string_in _ = None
