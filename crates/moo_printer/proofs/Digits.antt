-- What is written is a text.
use Rattle.std.proofs.Common.{ℕ, ◌+◌, ◌%◌, ◌<◌, ◌^◌, IsTrue, List, [], ◌∷◌, ◌++◌, arith}
use Rattle.std.proofs.lemmas.Bool.Decides.{nat_tests}
use Rattle.std.specs.Fmt.{decimal}
use Rattle.std.proofs.lemmas.Fmt.{decimal_by_steps}
use Rattle.spec_value.specs.Datum.{is_character, is_text}
use Rattle.moo_value.proofs.Characters.{is_text-append}

-- by a name that a function can cite
pub text_behind : (s t : List ℕ) → IsTrue (is_text s) → IsTrue (is_text t) → IsTrue (is_text (s ++ t))
text_behind s t h k = is_text-append s t h k

one_digit : (n : ℕ) → n < 10 → IsTrue (is_text ((48 + n) ∷ []))
one_digit n h = grind (arith, nat_tests)

pub text_decimal : (n : ℕ) → n < 2 ^ 64 → IsTrue (is_text (decimal n))
text_decimal =
    decimal_by_steps (λ n ds. IsTrue (is_text ds)) (λ n h. one_digit n h) (λ n ds le before. is_text-append ds ((48 + n % 10) ∷ []) before (one_digit (n % 10) (omega arith)))
