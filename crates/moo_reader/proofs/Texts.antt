-- Texts are ASCII, in either case.
use Rattle.std.proofs.Common.{◌≡◌, ℕ, zero, suc, ◌<◌, Bool, true, false, ◌&&◌, [], ◌∷◌, refl, arith}
use Rattle.std.specs.Str.{IsAscii, IsUtf8}
use Rattle.std.specs.Char.{to_ascii_lowercase}
use Rattle.std.proofs.lemmas.Str.{IsUtf8-from_ascii}
use Rattle.std.proofs.lemmas.Bool.Decides.{nat_tests}
use Rattle.spec_value.specs.Datum.{Text, is_character, is_text, fold_case}

both : (a b : Bool) → (a && b) ≡ true → (a ≡ true) × (b ≡ true)
both true b h = (refl, h)
both false b h = cc

join : (a b : Bool) → a ≡ true → b ≡ true → (a && b) ≡ true
join true b h e = e
join false b h e = cc

small : (c : ℕ) → is_character c ≡ true → c < 128
small c h = grind (arith, nat_tests)

text_ascii : (t : Text) → is_text t ≡ true → IsAscii t
text_ascii [] h i = omega arith
text_ascii (c ∷ t) h zero = small c (both (is_character c) (is_text t) h).0
text_ascii (c ∷ t) h (suc i) = text_ascii t (both (is_character c) (is_text t) h).1 i

pub text_utf8 : (t : Text) → is_text t ≡ true → IsUtf8 t
text_utf8 t h = IsUtf8-from_ascii t (text_ascii t h)

lower : (c : ℕ) → is_character c ≡ true → is_character (to_ascii_lowercase c) ≡ true
lower c h = grind (arith, nat_tests)

pub fold_text : (t : Text) → is_text t ≡ true → is_text (fold_case t) ≡ true
fold_text [] h = refl
fold_text (c ∷ t) h = let x = both (is_character c) (is_text t) h in join (is_character (to_ascii_lowercase c)) (is_text (fold_case t)) (lower c x.0) (fold_text t x.1)
