-- No more is left behind the first token of a text than behind its first character.
use Rattle.std.proofs.Common.{arith, ◌≤◌, ℕ, suc, Bool, true, false, ◌==◌, [], ◌∷◌, length, Option, Some, None, if◌then◌else◌}
use Rattle.spec_value.specs.Datum.{Text, is_character}
use Rattle.spec_program.specs.Names.{is_letter, is_digit, is_word_character}
use Rattle.spec_program.specs.Tokens.{Sign, while_rest, StringEnd, closed, faulty, and_character, wrong_character, in_string, one_sign, longer_sign, First, first_string, object_behind, first_object, two_signs, first_sign, first_and, first_token}

-- of two
either : {A : Type 0} (P : A → Type 0) (b : Bool) (x y : A) → P x → P y → P (if b then x else y)
either P true x y h k = h
either P false x y h k = k

while_within : (test : ℕ → Bool) (t : Text) → length (while_rest test t) ≤ length t
while_within test [] = omega arith
while_within test (c ∷ t) = go (while_within test t) (test c)
  where
    go : length (while_rest test t) ≤ length t → (b : Bool) → length (if b then while_rest test t else c ∷ t) ≤ suc (length t)
    go h true = omega (arith, h)
    go h false = omega arith

-- ---- strings

abbrev EndWithin : ℕ → StringEnd → Type 0
EndWithin n (closed s r) = length r ≤ n
EndWithin n (faulty k) = Unit {0}

wider : (n : ℕ) (e : StringEnd) → EndWithin n e → EndWithin (suc n) e
wider n (closed s r) h = omega (arith, h)
wider n (faulty k) h = tt

and_within : (c n : ℕ) (e : StringEnd) → EndWithin n e → EndWithin (suc n) (and_character c e)
and_within c n (closed s r) h = omega (arith, h)
and_within c n (faulty k) h = tt

wrong_within : (c n : ℕ) → EndWithin n (wrong_character c)
wrong_within c n = either (EndWithin n) (c == 10) _ _ tt tt

string_within : (t : Text) → EndWithin (length t) (in_string t).plain × EndWithin (length t) (in_string t).escaped
string_within [] = (tt, tt)
string_within (c ∷ t) =
    let r = string_within t in
    let good = and_within c (length t) (in_string t).plain r.0 in
    let wrong = wrong_within c (suc (length t)) in
    let h : length t ≤ suc (length t) = omega arith in
    let escaped = either (EndWithin (suc (length t))) (is_character c) _ _ good wrong in (
      either (EndWithin (suc (length t))) (c == 34) _ _ h (either (EndWithin (suc (length t))) (c == 92) _ _ (wider (length t) (in_string t).escaped r.1) escaped),
      escaped,
    )

-- ---- the first token

abbrev pub Within : ℕ → First → Type 0
Within n f = length f.rest ≤ n

string_first : (n : ℕ) (e : StringEnd) → EndWithin n e → Within n (first_string e)
string_first n (closed s r) h = h
string_first n (faulty k) h = omega arith

object_first : (t : Text) → Within (length t) (first_object t)
object_first [] = omega arith
object_first (c ∷ t) =
    let h = while_within is_digit t in let k = while_within is_digit (c ∷ t) in
    either (Within (suc (length t))) (c == 45) (object_behind true t) (object_behind false (c ∷ t)) (omega (arith, h)) k

and_first : (t : Text) → Within (length t) (first_and t)
and_first [] = omega arith
and_first (d ∷ t) = either (Within (suc (length t))) (d == 38) _ _ (omega arith) (omega arith)

sign_first : (s : Option Sign) (t : Text) → Within (length t) (first_sign s t)
sign_first None t = omega arith
sign_first (Some s) [] = omega arith
sign_first (Some s) (d ∷ t) = go (longer_sign s d)
  where
    go : (o : Option Sign) → Within (suc (length t)) (two_signs t o s d)
    go None = omega arith
    go (Some r) = omega arith

pub first_within : (c : ℕ) (t : Text) → Within (length t) (first_token c t)
first_within c t =
    either (Within (length t)) (is_letter c) _ _ (while_within is_word_character t)
    (either (Within (length t)) (is_digit c) _ _ (while_within is_digit t)
    (either (Within (length t)) (c == 34) _ _ (string_first (length t) (in_string t).plain (string_within t).0)
    (either (Within (length t)) (c == 35) _ _ (object_first t)
    (either (Within (length t)) (c == 38) _ _ (and_first t) (sign_first (one_sign c) t)))))
