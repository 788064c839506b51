-- The characters of a text.
use Rattle.std.proofs.Common.{ℕ, zero, suc, ◌<◌, IsTrue, List, [], ◌∷◌, length, get_or, arith, ◌++◌, take, drop, refl}
use Rattle.std.specs.Str.{IsAscii}
use Rattle.std.proofs.lemmas.Bool.Decides.{nat_tests}
use Rattle.spec_value.specs.Datum.{is_character, is_text}

pub character_below : (c : ℕ) → IsTrue (is_character c) → c < 128
character_below c h = grind (arith, nat_tests)

pub text_at : (s : List ℕ) (i : ℕ) → IsTrue (is_text s) → i < length s → get_or s i 0 < 128
text_at [] i h l = absurd (omega arith)
text_at (c ∷ s) zero h l = character_below c (grind (arith, nat_tests))
text_at (c ∷ s) (suc i) h l = text_at s i (grind (arith, nat_tests)) (omega arith)

pub all_ascii : (s : List ℕ) → IsTrue (is_text s) → IsAscii s
all_ascii [] h i = omega arith
all_ascii (c ∷ s) h zero = character_below c (grind (arith, nat_tests))
all_ascii (c ∷ s) h (suc i) = all_ascii s (grind (arith, nat_tests)) i

pub is_text-append : (s t : List ℕ) → IsTrue (is_text s) → IsTrue (is_text t) → IsTrue (is_text (s ++ t))
is_text-append [] t h k = k
is_text-append (c ∷ s) t h k =
    let rest = is_text-append s t (grind (arith, nat_tests)) k in
    grind (arith, nat_tests)

pub is_text-take : (n : ℕ) (s : List ℕ) → IsTrue (is_text s) → IsTrue (is_text (take n s))
is_text-take zero s h = refl
is_text-take (suc n) [] h = refl
is_text-take (suc n) (c ∷ s) h =
    let rest = is_text-take n s (grind (arith, nat_tests)) in
    grind (arith, nat_tests)

pub is_text-drop : (n : ℕ) (s : List ℕ) → IsTrue (is_text s) → IsTrue (is_text (drop n s))
is_text-drop zero s h = h
is_text-drop (suc n) [] h = h
is_text-drop (suc n) (c ∷ s) h = is_text-drop n s (grind (arith, nat_tests))
