-- The tokens of a text: words may name something, numbers are in their ranges, strings have the characters of texts.
use Rattle.std.proofs.Common.{◌≡◌, ◌≤◌, ◌<◌, ℕ, zero, suc, ◌+◌, ◌==◌, Bool, true, false, not, ◌&&◌, ◌||◌, List, [], ◌∷◌, map, Option, Some, None, IsTrue, refl, sym, ap, subst, ◌∙◌, if◌then◌else◌, ◌⊎◌, inl, inr, leb-true, le-leb, arith}
use Rattle.std.specs.Prelude.{nat_le}
use Rattle.std.specs.Char.{to_ascii_lowercase}
use Rattle.std.specs.List.{list_all, list_any}
use Rattle.std.proofs.lemmas.Bool.{eqb-true}
use Rattle.std.proofs.lemmas.Str.Ascii.{lowercase_is}
use Rattle.spec_value.specs.Datum.{Text, is_text, is_character, fold_case, same_text}
use Rattle.spec_value.proofs.Entries.{first_holds, second_holds}
use Rattle.spec_value.proofs.Same.{same_texts, text_itself}
use Rattle.spec_program.specs.Names.{is_letter, is_digit, is_word_character}
use Rattle.spec_program.specs.Tokens.{Sign, Token, word, keyword, error_name, integer, object, string, sign, bad, Placed, reserved, looked_up, word_token, while_front, value_from, greatest_integer, greatest_object, integer_token, object_token, StringEnd, closed, faulty, and_character, wrong_character, InString, string_read, in_string, one_sign, longer_sign, First, first_is, first_string, object_behind, first_object, two_signs, first_sign, first_and, first_token, is_blank, line_after, and_later, blank_or_token, tokens_from}
use Rattle.spec_program.specs.Trees.{begins_name, continues_name}
use Rattle.spec_program.proofs.ReadFits.{TokenFits, TokensFit, and_also}

-- ---- choices

of_two : {X : Type 0} (P : X → Type 0) (b : Bool) (x y : X) → (b ≡ true → P x) → (b ≡ false → P y) → P (if b then x else y)
of_two P true x y h k = h refl
of_two P false x y h k = k refl

one_of : (a b : Bool) → IsTrue (a || b) → IsTrue a ⊎ IsTrue b
one_of true b h = inl refl
one_of false b h = inr h

second_of : (a b : Bool) → IsTrue b → IsTrue (a || b)
second_of true b h = refl
second_of false b h = h

-- ---- letters in lower case

within : (a c b : ℕ) → IsTrue (nat_le a c && nat_le c b) → (a ≤ c) × (c ≤ b)
within a c b h = (leb-true a c (first_holds (nat_le a c) _ h), leb-true c b (second_holds (nat_le a c) _ h))

between : (a c b : ℕ) → a ≤ c → c ≤ b → IsTrue (nat_le a c && nat_le c b)
between a c b h k = and_also (le-leb a c h) (le-leb c b k)

stays : (c : ℕ) → 90 < c → to_ascii_lowercase c ≡ c
stays c h = (lowercase_is c).2 h

letter_begins : (c : ℕ) → IsTrue (is_letter c) → IsTrue (begins_name (to_ascii_lowercase c))
letter_begins c h = go (one_of (c == 95) _ h)
  where
    small : IsTrue (nat_le 97 c && nat_le c 122) → IsTrue (begins_name (to_ascii_lowercase c))
    small k = let l : 97 ≤ c = (within 97 c 122 k).0 in subst (λ d. IsTrue (begins_name d)) (sym (stays c (omega (arith, l)))) (second_of (c == 95) _ k)

    great : IsTrue (nat_le 65 c && nat_le c 90) → IsTrue (begins_name (to_ascii_lowercase c))
    great k =
        let l : 65 ≤ c = (within 65 c 90 k).0 in let m : c ≤ 90 = (within 65 c 90 k).1 in
        subst (λ d. IsTrue (begins_name d)) (sym ((lowercase_is c).0 (l, m))) (second_of (c + 32 == 95) _ (between 97 (c + 32) 122 (omega (arith, l)) (omega (arith, m))))

    either_case : IsTrue (nat_le 97 c && nat_le c 122) ⊎ IsTrue (nat_le 65 c && nat_le c 90) → IsTrue (begins_name (to_ascii_lowercase c))
    either_case (inl k) = small k
    either_case (inr k) = great k

    go : IsTrue (c == 95) ⊎ IsTrue ((nat_le 97 c && nat_le c 122) || (nat_le 65 c && nat_le c 90)) → IsTrue (begins_name (to_ascii_lowercase c))
    go (inl k) = subst (λ d. IsTrue (begins_name (to_ascii_lowercase d))) (sym (eqb-true c 95 k)) refl
    go (inr k) = either_case (one_of _ _ k)

first_of : (a b : Bool) → IsTrue a → IsTrue (a || b)
first_of true b h = refl
first_of false b h = cc

character_continues : (c : ℕ) → IsTrue (is_word_character c) → IsTrue (continues_name (to_ascii_lowercase c))
character_continues c h = go (one_of (is_letter c) _ h)
  where
    go : IsTrue (is_letter c) ⊎ IsTrue (is_digit c) → IsTrue (continues_name (to_ascii_lowercase c))
    go (inl k) = first_of (begins_name (to_ascii_lowercase c)) _ (letter_begins c k)
    go (inr k) =
        let l : c ≤ 57 = (within 48 c 57 k).1 in
        subst (λ d. IsTrue (continues_name d)) (sym ((lowercase_is c).1 (omega (arith, l)))) (second_of (begins_name c) _ k)

is_plain : (c : ℕ) → IsTrue (is_word_character c) → IsTrue (is_character c)
is_plain c h = go (one_of (is_letter c) _ h)
  where
    from_bounds : (a b : ℕ) → 32 ≤ a → b ≤ 126 → IsTrue (nat_le a c && nat_le c b) → IsTrue (is_character c)
    from_bounds a b l m k =
        let x = (within a c b k).0 in let y = (within a c b k).1 in second_of (c == 9) _ (between 32 c 126 (omega (arith, l, x)) (omega (arith, m, y)))

    letter : IsTrue (nat_le 97 c && nat_le c 122) ⊎ IsTrue (nat_le 65 c && nat_le c 90) → IsTrue (is_character c)
    letter (inl k) = from_bounds 97 122 (omega arith) (omega arith) k
    letter (inr k) = from_bounds 65 90 (omega arith) (omega arith) k

    underscore : IsTrue (c == 95) ⊎ IsTrue ((nat_le 97 c && nat_le c 122) || (nat_le 65 c && nat_le c 90)) → IsTrue (is_character c)
    underscore (inl k) = subst (λ d. IsTrue (is_character d)) (sym (eqb-true c 95 k)) refl
    underscore (inr k) = letter (one_of _ _ k)

    go : IsTrue (is_letter c) ⊎ IsTrue (is_digit c) → IsTrue (is_character c)
    go (inl k) = underscore (one_of (c == 95) _ k)
    go (inr k) = from_bounds 48 57 (omega arith) (omega arith) k

-- ---- words

front_passes : (test : ℕ → Bool) (t : Text) → IsTrue (list_all test (while_front test t))
front_passes test [] = refl
front_passes test (c ∷ t) = go (front_passes test t) (test c) refl
  where
    go : IsTrue (list_all test (while_front test t)) → (b : Bool) → test c ≡ b → IsTrue (list_all test (if b then c ∷ while_front test t else []))
    go later true e = and_also e later
    go later false e = refl

word_text : (t : Text) → IsTrue (list_all is_word_character t) → IsTrue (is_text t)
word_text [] h = refl
word_text (c ∷ t) h = and_also (is_plain c (first_holds (is_word_character c) _ h)) (word_text t (second_holds (is_word_character c) _ h))

all_continue : (t : Text) → IsTrue (list_all is_word_character t) → IsTrue (list_all continues_name (fold_case t))
all_continue [] h = refl
all_continue (c ∷ t) h = and_also (character_continues c (first_holds (is_word_character c) _ h)) (all_continue t (second_holds (is_word_character c) _ h))

-- a text is looked for on either side
turned : (s t : Text) → same_text s t ≡ false → same_text t s ≡ false
turned s t e = go (same_text t s) refl
  where
    go : (b : Bool) → same_text t s ≡ b → b ≡ false
    go false k = refl
    go true k = sym (subst (λ u. same_text s u ≡ true) (sym (same_texts t s k)) (text_itself s)) ∙ e

abbrev has_no_text : Token → Bool
has_no_text (keyword k) = true
has_no_text (error_name e) = true
has_no_text t = false

fits_without : (t : Token) → IsTrue (has_no_text t) → TokenFits t
fits_without (keyword k) h = tt
fits_without (error_name e) h = tt
fits_without (word x) h = absurd (cc h)
fits_without (integer n) h = absurd (cc h)
fits_without (object below n) h = absurd (cc h)
fits_without (string t) h = absurd (cc h)
fits_without (sign s) h = tt
fits_without (bad k) h = tt

-- of a word that is none of these
looked_fits : (rs : List (Text × Token)) (t : Text) (other : Token) → IsTrue (list_all (λ r. has_no_text r.1) rs)
    → (list_any (same_text t) (map (λ r. r.0) rs) ≡ false → TokenFits other) → TokenFits (looked_up rs t other)
unfolding looked_up
looked_fits [] t other h k = k refl
looked_fits (r ∷ rs) t other h k = go (looked_fits rs t other (second_holds (has_no_text r.1) _ h)) (same_text r.0 t) refl
  where
    go : ((list_any (same_text t) (map (λ r. r.0) rs) ≡ false → TokenFits other) → TokenFits (looked_up rs t other))
        → (b : Bool) → same_text r.0 t ≡ b → TokenFits (if b then r.1 else looked_up rs t other)
    go later true e = fits_without r.1 (first_holds (has_no_text r.1) _ h)
    go later false e = later (λ m. k (ap (λ b. b || list_any (same_text t) (map (λ r. r.0) rs)) (turned r.0 t e) ∙ m))

word_token_fits : (c : ℕ) (t : Text) → IsTrue (is_letter c) → TokenFits (word_token (while_front is_word_character (c ∷ t)))
word_token_fits c t h = subst (λ b. TokenFits (word_token (if b then c ∷ rest else []))) (sym (first_of (is_letter c) (is_digit c) h)) whole
  where
    rest : Text
    rest = while_front is_word_character t

    whole : TokenFits (word_token (c ∷ rest))
    whole =
        looked_fits reserved (fold_case (c ∷ rest)) (word (c ∷ rest)) refl (λ e. (
          and_also (and_also (letter_begins c h) (all_continue rest (front_passes is_word_character t))) (ap not e),
          and_also (is_plain c (first_of (is_letter c) (is_digit c) h)) (word_text rest (front_passes is_word_character t)),
        ))

-- ---- numbers

integer_fits : (n : ℕ) → TokenFits (integer_token n)
integer_fits n = of_two TokenFits (nat_le n (suc greatest_integer)) (integer n) (bad _) (λ e. e) (λ e. tt)

object_fits : (minus : Bool) (t : Text) → TokenFits (object_token minus t)
object_fits minus [] = tt
object_fits minus (c ∷ t) = of_two TokenFits (nat_le (value_from 0 (c ∷ t)) (greatest_object minus)) (object minus (value_from 0 (c ∷ t))) (bad _) (λ e. e) (λ e. tt)

-- ---- strings

abbrev EndFits : StringEnd → Type 0
EndFits (closed s rest) = IsTrue (is_text s)
EndFits (faulty k) = Unit {0}

one_more : (c : ℕ) (e : StringEnd) → IsTrue (is_character c) → EndFits e → EndFits (and_character c e)
one_more c (closed s rest) h k = and_also h k
one_more c (faulty f) h k = tt

wrong_fits : (c : ℕ) → EndFits (wrong_character c)
wrong_fits c = of_two EndFits (c == 10) (faulty _) (faulty _) (λ e. tt) (λ e. tt)

string_fits : (t : Text) → EndFits (in_string t).plain × EndFits (in_string t).escaped
string_fits [] = (tt, tt)
string_fits (c ∷ t) = go (in_string t) (string_fits t)
  where
    go : (r : InString) → EndFits r.plain × EndFits r.escaped → EndFits (string_read c t r).plain × EndFits (string_read c t r).escaped
    go r h =
        (of_two EndFits (c == 34) (closed [] t) _ (λ e. refl) (λ e. of_two EndFits (c == 92) r.escaped _ (λ f. h.1) (λ f. character)), character)
      where
        character : EndFits (if is_character c then and_character c r.plain else wrong_character c)
        character = of_two EndFits (is_character c) (and_character c r.plain) (wrong_character c) (λ e. one_more c r.plain e h.0) (λ e. wrong_fits c)

-- ---- the first token

abbrev FirstFits : First → Type 0
FirstFits f = TokenFits f.token

string_first : (e : StringEnd) → EndFits e → FirstFits (first_string e)
string_first (closed s rest) h = h
string_first (faulty k) h = tt

object_first : (t : Text) → FirstFits (first_object t)
object_first [] = tt
object_first (c ∷ t) =
    of_two FirstFits (c == 45) (object_behind true t) (object_behind false (c ∷ t))
    (λ e. object_fits true (while_front is_digit t)) (λ e. object_fits false (while_front is_digit (c ∷ t)))

and_first : (t : Text) → FirstFits (first_and t)
and_first [] = tt
and_first (d ∷ t) = of_two FirstFits (d == 38) (first_is (sign _) t) (first_is (bad _) t) (λ e. tt) (λ e. tt)

sign_first : (s : Option Sign) (t : Text) → FirstFits (first_sign s t)
sign_first None t = tt
sign_first (Some s) [] = tt
sign_first (Some s) (d ∷ t) = go (longer_sign s d)
  where
    go : (o : Option Sign) → FirstFits (two_signs t o s d)
    go None = tt
    go (Some r) = tt

first_fits : (c : ℕ) (t : Text) → FirstFits (first_token c t)
first_fits c t =
    of_two FirstFits (is_letter c) _ _ (λ e. word_token_fits c t e) (λ e.
    of_two FirstFits (is_digit c) _ _ (λ f. integer_fits (value_from 0 (while_front is_digit (c ∷ t)))) (λ f.
    of_two FirstFits (c == 34) _ _ (λ g. string_first (in_string t).plain (string_fits t).0) (λ g.
    of_two FirstFits (c == 35) _ _ (λ h. object_first t) (λ h.
    of_two FirstFits (c == 38) _ _ (λ k. and_first t) (λ k. sign_first (one_sign c) t)))))

-- ---- all of them

and_later_fits : (later : Text → List Placed) → ((t : Text) → TokensFit (later t)) → (line : ℕ) (k : Token) (t : Text) → TokenFits k
    → TokensFit (and_later later line k t)
and_later_fits later h line (bad k) t m = (tt, tt)
and_later_fits later h line (word x) t m = (m, h t)
and_later_fits later h line (keyword x) t m = (m, h t)
and_later_fits later h line (error_name x) t m = (m, h t)
and_later_fits later h line (integer x) t m = (m, h t)
and_later_fits later h line (object below x) t m = (m, h t)
and_later_fits later h line (string x) t m = (m, h t)
and_later_fits later h line (sign x) t m = (m, h t)

pub tokens_fit : (n line : ℕ) (t : Text) → TokensFit (tokens_from n line t)
unfolding tokens_from
tokens_fit zero line t = tt
tokens_fit (suc n) line [] = tt
tokens_fit (suc n) line (c ∷ t) = go (tokens_fit n) (is_blank c)
  where
    go : ((l : ℕ) (u : Text) → TokensFit (tokens_from n l u)) → (b : Bool) → TokensFit (blank_or_token b (tokens_from n) line c t)
    go later true = later (line_after c line) t
    go later false = and_later_fits (tokens_from n line) (later line) line (first_token c t).token (first_token c t).rest (first_fits c t)
