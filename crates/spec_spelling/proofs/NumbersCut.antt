-- Numbers, objects and texts are cut as one token each.
use Rattle.std.proofs.Common.{◌≡◌, ◌≤◌, ◌<◌, ◌^◌, ℕ, suc, pos, negsuc, ◌==◌, Bool, true, false, not, ◌||◌, [], ◌∷◌, ◌++◌, length, IsTrue, refl, ap, ◌∙◌, if◌then◌else◌, rules, arith, leb-true, le-leb, append_assoc}
use Rattle.std.specs.Prelude.{nat_le, nat_lt}
use Rattle.std.proofs.lemmas.Bool.Decides.{nat_tests}
use Rattle.std.proofs.lemmas.Bool.{cond-true, cond-false, eqb-true}
use Rattle.std.specs.List.{list_all}
use Rattle.std.specs.Fmt.{decimal}
use Rattle.std.proofs.lemmas.Fmt.{digits_decimal, digits_value-decimal, decimal_nonempty}
use Rattle.std.proofs.lemmas.Str.Parse.{IsNumeralModel, numerals_by_fold}
use Rattle.spec_value.specs.Datum as value
use Rattle.spec_value.specs.Datum.{Datum, Text, is_text, is_character}
use Rattle.spec_value.specs.Literal.{escape, escaped, error_name}
use Rattle.spec_value.proofs.Entries.{first_holds, second_holds}
use Rattle.spec_program.specs.Names.{is_letter, is_digit, is_word_character}
use Rattle.spec_program.specs.Tokens as t
use Rattle.spec_program.specs.Tokens.{Token, while_front, while_rest, value_from, greatest_integer, integer_token, greatest_object, object_token, StringEnd, closed, and_character, wrong_character, in_string, First, first_is, first_string, object_behind, first_object, first_token, is_blank}
use Rattle.spec_program.specs.Spelling.{literal_text}
use Rattle.spec_program.specs.CanonicalTokens.{literal_tokens}
use Rattle.spec_program.specs.Trees.{is_literal}
use Rattle.spec_spelling.proofs.Pieces.{Clear, never, is_second, Piece, exact, any}
use Rattle.spec_spelling.proofs.WordsCut.{front_all, rest_all, error_word, error_piece}
use Rattle.spec_spelling.proofs.PartsCut.{opens, Spelled, word_opens}

-- ---- digits

own_digits : IsNumeralModel (λ ds. IsTrue (list_all is_digit ds)) (value_from 0)
own_digits = numerals_by_fold _ (search rules) value_from (search rules)

-- the digits of a number: one at least
pub record Digits (n : ℕ) (ds : Text) : Type 0 where
  pub all : IsTrue (list_all is_digit ds)
  pub some : 0 < length ds
  pub value : value_from 0 ds ≡ n

pub decimal_digits : (n : ℕ) → n < 2 ^ 64 → Digits n (decimal n)
decimal_digits n h = record { all = digits_decimal own_digits n h; some = decimal_nonempty n h; value = digits_value-decimal own_digits n h }

digit_no_letter : (c : ℕ) → is_digit c ≡ true → is_letter c ≡ false
digit_no_letter c h = grind (arith, nat_tests)

digit_no_blank : (c : ℕ) → is_digit c ≡ true → is_blank c ≡ false
digit_no_blank c h = grind (arith, nat_tests)

digit_no_minus : (c : ℕ) → is_digit c ≡ true → (c == 45) ≡ false
digit_no_minus c h = grind (arith, nat_tests)

no_digit : (a b : Bool) → a || b ≡ false → b ≡ false
no_digit true b e = cc
no_digit false b e = e

-- what no word goes on with, no number does
pub clear_digits : (u : Text) → Clear is_word_character u → Clear is_digit u
clear_digits [] h = tt
clear_digits (c ∷ u) h = no_digit (is_letter c) (is_digit c) h

-- ---- integers

number_first : (c : ℕ) (v : Text) → is_digit c ≡ true
    → first_token c v ≡ first_is (integer_token (value_from 0 (while_front is_digit (c ∷ v)))) (while_rest is_digit v)
number_first c v d = cond-false (is_letter c) _ _ (digit_no_letter c d) ∙ cond-true (is_digit c) _ _ d

integer_read : (c n : ℕ) (ds u : Text) → Digits n (c ∷ ds) → n ≤ suc greatest_integer → Clear is_word_character u
    → first_token c (ds ++ u) ≡ first_is (t.integer n) u
integer_read c n ds u d l k =
    let f = first_holds (is_digit c) (list_all is_digit ds) d.all in
    let h = clear_digits u k in
    number_first c (ds ++ u) f
    ∙ ap (λ x. first_is (integer_token (value_from 0 x)) (while_rest is_digit (ds ++ u))) (front_all is_digit (c ∷ ds) u d.all h)
    ∙ ap (first_is (integer_token (value_from 0 (c ∷ ds)))) (rest_all is_digit ds u (second_holds (is_digit c) (list_all is_digit ds) d.all) h)
    ∙ ap (λ m. first_is (integer_token m) u) d.value
    ∙ ap (λ k. first_is k u) (cond-true (nat_le n (suc greatest_integer)) _ _ (le-leb n (suc greatest_integer) l))

integer_digits : (n : ℕ) (ds : Text) → Digits n ds → n ≤ suc greatest_integer → Piece is_word_character ds (t.integer n ∷ [])
integer_digits n [] d l = let h = d.some in absurd (omega (arith, h))
integer_digits n (c ∷ ds) d l =
    exact c ds (t.integer n) (digit_no_blank c (first_holds (is_digit c) (list_all is_digit ds) d.all)) refl (λ u k. integer_read c n ds u d l k)

pub integer_piece : (n : ℕ) → n ≤ suc greatest_integer → Piece is_word_character (decimal n) (t.integer n ∷ [])
integer_piece n l = integer_digits n (decimal n) (decimal_digits n (omega (arith, l))) l

-- ---- objects

object_is : (minus : Bool) (n : ℕ) (ds u : Text) → Digits n ds → n ≤ greatest_object minus → Clear is_word_character u
    → object_behind minus (ds ++ u) ≡ first_is (t.object minus n) u
object_is minus n [] u d l k = let h = d.some in absurd (omega (arith, h))
object_is minus n (c ∷ ds) u d l k =
    let h = clear_digits u k in
    ap (λ x. first_is (object_token minus x) (while_rest is_digit (c ∷ (ds ++ u)))) (front_all is_digit (c ∷ ds) u d.all h)
    ∙ ap (first_is (object_token minus (c ∷ ds))) (rest_all is_digit (c ∷ ds) u d.all h)
    ∙ ap (λ m. first_is (if nat_le m (greatest_object minus) then t.object minus m else t.bad t.number) u) d.value
    ∙ ap (λ k. first_is k u) (cond-true (nat_le n (greatest_object minus)) _ _ (le-leb n (greatest_object minus) l))

plain_object : (n : ℕ) (ds u : Text) → Digits n ds → n ≤ greatest_integer → Clear is_word_character u → first_object (ds ++ u) ≡ first_is (t.object false n) u
plain_object n [] u d l k = let h = d.some in absurd (omega (arith, h))
plain_object n (c ∷ ds) u d l k =
    cond-false (c == 45) _ _ (digit_no_minus c (first_holds (is_digit c) (list_all is_digit ds) d.all)) ∙ object_is false n (c ∷ ds) u d l k

pub object_piece : (n : ℕ) → n ≤ greatest_integer → Piece is_word_character (35 ∷ decimal n) (t.object false n ∷ [])
object_piece n l = exact 35 (decimal n) (t.object false n) refl refl (λ u k. plain_object n (decimal n) u (decimal_digits n (omega (arith, l))) l k)

pub negative_piece : (n : ℕ) → n ≤ suc greatest_integer → Piece is_word_character (35 ∷ 45 ∷ decimal n) (t.object true n ∷ [])
negative_piece n l = exact 35 (45 ∷ decimal n) (t.object true n) refl refl (λ u k. object_is true n (decimal n) u (decimal_digits n (omega (arith, l))) l k)

-- ---- texts

plain_read : (c : ℕ) (v : Text) → IsTrue (is_character c) → (c == 34) || (c == 92) ≡ false → (in_string (c ∷ v)).plain ≡ and_character c (in_string v).plain
plain_read c v h e = cond-false (c == 34) _ _ (no_quote c e) ∙ cond-false (c == 92) _ _ (no_digit (c == 34) (c == 92) e) ∙ cond-true (is_character c) _ _ h
  where
    no_quote : (c : ℕ) → (c == 34) || (c == 92) ≡ false → (c == 34) ≡ false
    no_quote c e = grind (arith, nat_tests)

escaped_read : (c : ℕ) (v : Text) → IsTrue (is_character c) → (in_string (92 ∷ c ∷ v)).plain ≡ and_character c (in_string v).plain
escaped_read c v h = cond-true (is_character c) _ _ h

one_read : (c : ℕ) (v : Text) → IsTrue (is_character c) → (b : Bool) → (c == 34) || (c == 92) ≡ b
    → (in_string ((if b then 92 ∷ c ∷ [] else c ∷ []) ++ v)).plain ≡ and_character c (in_string v).plain
one_read c v h true e = escaped_read c v h
one_read c v h false e = plain_read c v h e

string_read_back : (x u : Text) → IsTrue (is_text x) → (in_string (escaped x ++ (34 ∷ u))).plain ≡ closed x u
string_read_back [] u h = refl
string_read_back (c ∷ x) u h =
    ap (λ v. (in_string v).plain) (append_assoc (escape c) (escaped x) (34 ∷ u))
    ∙ one_read c (escaped x ++ (34 ∷ u)) (first_holds (is_character c) (is_text x) h) ((c == 34) || (c == 92)) refl
    ∙ ap (and_character c) (string_read_back x u (second_holds (is_character c) (is_text x) h))

pub string_piece : (x : Text) → IsTrue (is_text x) → Piece never (34 ∷ (escaped x ++ 34 ∷ [])) (t.string x ∷ [])
string_piece x h =
    exact 34 (escaped x ++ 34 ∷ []) (t.string x) refl refl
    (λ u k. ap (λ v. first_string (in_string v).plain) (append_assoc (escaped x) (34 ∷ []) u) ∙ ap first_string (string_read_back x u h))

-- ---- literals

below : (n : ℕ) → IsTrue (nat_lt n (2 ^ 31)) → n ≤ greatest_integer
below n h = grind (arith, nat_tests)

literal_piece : (v : Datum) → IsTrue (is_literal v) → Piece is_word_character (literal_text v) (literal_tokens v)
literal_piece (value.integer (pos n)) h = let l = leb-true n 2147483647 h in integer_piece n (omega (arith, l))
literal_piece (value.integer (negsuc n)) h = let e = eqb-true n 2147483647 h in integer_piece (suc n) (omega (arith, e))
literal_piece (value.object (pos n)) h = object_piece n (below n h)
literal_piece (value.object (negsuc n)) h = let l = below n h in negative_piece (suc n) (omega (arith, l))
literal_piece (value.text x) h = any (string_piece x h)
literal_piece (value.error e) h = error_piece e
literal_piece (value.list vs) h = absurd (cc h)

-- how a literal begins

digit_opens : (c : ℕ) → is_digit c ≡ true → IsTrue (not (is_second c))
digit_opens c h = grind (arith, nat_tests)

number_opens : (n : ℕ) (ds : Text) → Digits n ds → IsTrue (opens is_second ds)
number_opens n [] d = let h = d.some in absurd (omega (arith, h))
number_opens n (c ∷ ds) d = digit_opens c (first_holds (is_digit c) (list_all is_digit ds) d.all)

literal_opens : (v : Datum) → IsTrue (is_literal v) → IsTrue (opens is_second (literal_text v))
literal_opens (value.integer (pos n)) h = let l = leb-true n 2147483647 h in number_opens n (decimal n) (decimal_digits n (omega (arith, l)))
literal_opens (value.integer (negsuc n)) h = let e = eqb-true n 2147483647 h in number_opens (suc n) (decimal (suc n)) (decimal_digits (suc n) (omega (arith, e)))
literal_opens (value.object (pos n)) h = refl
literal_opens (value.object (negsuc n)) h = refl
literal_opens (value.text x) h = refl
literal_opens (value.error e) h = word_opens (error_name e) (error_word e)
literal_opens (value.list vs) h = absurd (cc h)

pub literal_spelled : (v : Datum) → IsTrue (is_literal v) → Spelled (literal_text v) (literal_tokens v)
literal_spelled v h = record { piece = literal_piece v h; begins = literal_opens v h }
