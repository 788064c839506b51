-- The machine cuts a text into the tokens of the definitions: shown for each token that was begun, by recursion on what is left of the text, and then for a
-- text of at most so many characters.
use Rattle.std.proofs.Common.{◌≡◌, ℕ, zero, suc, ◌+◌, ◌-◌, ◌*◌, ◌≤◌, Bool, true, false, cond, List, [], ◌∷◌, ◌++◌, length, map, Option, Some, None, Ok, refl, sym, ap, ◌∙◌, arith, append_assoc, append-nil}
use Rattle.std.specs.Prelude.{◌==◌, nat_le, option_map}
use Rattle.std.proofs.lemmas.Bool.Decides.{nat_tests}
use Rattle.std.specs.Char.{is_ascii_digit}
use Rattle.spec_value.specs.Datum.{Text, is_character}
use Rattle.spec_program.specs.Names.{is_word_character, is_digit}
use Rattle.spec_program.specs.Names as names
use Rattle.spec_program.specs.Tokens as meant
use Rattle.spec_program.specs.Tokens.{while_front, while_rest, integer_token, greatest_integer, greatest_object, object_token, object_behind, first_object, StringEnd, closed, and_character, wrong_character, in_string, first_string, first_is, First, sign_with, two_signs, first_sign, first_and, first_token, and_later, token_first, blank_or_token, tokens_from, tokens_of, word_token, one_sign, longer_sign}
use Rattle.moo_token.specs.declared.token.Sign.{Sign}
use Rattle.moo_token.specs.declared.token.Sign.TheVariants as sign
use Rattle.moo_token.specs.declared.cutter.Pending.TheVariants as p
use Rattle.moo_token.specs.declared.fault.FaultKind.{FaultKind}
use Rattle.moo_token.specs.declared.fault.FaultKind.TheVariants as k
use Rattle.moo_token.specs.Tokens as t
use Rattle.moo_token.specs.Tokens.{Token, word_of, sign_of, max_number, max_object, Place, Ending, IsText}
use Rattle.moo_token.specs.Cutting.{State, Cut, Step, longer, signed, begin, with_token, digit, object_digit, string_fault, after_sign, failed, run, at_end, fresh, cut, stop}
use Rattle.moo_token.specs.Cutting as by
use Rattle.moo_token.specs.Meaning.{sign_meant, fault_meant, token_meant, place_meant, all_meant}
use Rattle.moo_token.proofs.Lists.{by_cond, pick_true, pick_false}
use Rattle.moo_token.proofs.Bad.{le_of, not_le_of, of_le, of_not_le, digit_small}
use Rattle.moo_token.proofs.Cuts.{run_stop}
use Rattle.moo_token.proofs.Complete.{cuts}
use Rattle.moo_token.proofs.Meanings.{bool_same, word_meant, sign_is, longer_is_meant}

-- ---- classes of characters

letters : (b : ℕ) → t.is_letter b ≡ names.is_letter b
letters b = bool_same _ _ (λ h. grind (arith, nat_tests)) (λ h. grind (arith, nat_tests))

digits : (b : ℕ) → is_ascii_digit b ≡ is_digit b
digits b = bool_same _ _ (λ h. grind (arith, nat_tests)) (λ h. grind (arith, nat_tests))

words_are : (b : ℕ) → t.is_word b ≡ is_word_character b
words_are b = bool_same _ _ (λ h. grind (arith, nat_tests)) (λ h. grind (arith, nat_tests))

blanks : (b : ℕ) → t.is_blank b ≡ meant.is_blank b
blanks b = bool_same _ _ (λ h. grind (arith, nat_tests)) (λ h. grind (arith, nat_tests))

lines : (b line : ℕ) → t.line_after b line ≡ meant.line_after b line
lines b line = let e : line + 1 ≡ suc line = omega arith in ap (λ n. cond (b == 10) n line) e

letter_in_word : (b : ℕ) → t.is_letter b ≡ true → is_word_character b ≡ true
letter_in_word b h = grind (arith, nat_tests)

-- two choices by one test
by_both : {A B : Type 0} (P : A → B → Type 0) (c d : Bool) (x y : A) (u v : B) → c ≡ d → (c ≡ true → P x u) → (c ≡ false → P y v) → P (cond c x y) (cond d u v)
by_both P true true x y u v e f g = f refl
by_both P false false x y u v e f g = g refl
by_both P true false x y u v e f g = absurd (cc)
by_both P false true x y u v e f g = absurd (cc)

-- ---- what is cut, as the definitions have it

abbrev Read : Step → List meant.Placed
Read r = all_meant (at_end r).places (at_end r).ending

abbrev Reads : ℕ → Type 0
Reads n = (bs : Text) (out : List Place) (line : ℕ) → length bs ≤ n → Read (run (Ok (fresh out line)) bs) ≡ map place_meant out ++ tokens_from n line bs

-- a token, and what is behind it
abbrev Then : ℕ → List Place → ℕ → meant.Token → Text → List meant.Placed
Then n out line u rest = map place_meant out ++ and_later (tokens_from n line) line u rest

with_more : (out : List Place) (u : Token) (line : ℕ) (ts : List meant.Placed) → map place_meant (with_token out u line) ++ ts ≡ map place_meant out ++ record { token = token_meant u; line = line } ∷ ts
with_more [] u line ts = refl
with_more (x ∷ out) u line ts = ap (λ r. place_meant x ∷ r) (with_more out u line ts)

no_fault : (u : Token) (later : Text → List meant.Placed) (line : ℕ) (rest : Text) → record { token = token_meant u; line = line } ∷ later rest ≡ and_later later line (token_meant u) rest
no_fault (t.identifier w) later line rest = refl
no_fault (t.keyword w) later line rest = refl
no_fault (t.error_name w) later line rest = refl
no_fault (t.integer n) later line rest = refl
no_fault (t.object m n) later line rest = refl
no_fault (t.text s) later line rest = refl
no_fault (t.mark m) later line rest = refl

put : (n : ℕ) → Reads n → (u : Token) (rest : Text) (out : List Place) (line : ℕ) → length rest ≤ n → Read (run (Ok (fresh (with_token out u line) line)) rest) ≡ Then n out line (token_meant u) rest
put n more u rest out line le =
    more rest (with_token out u line) line le ∙ with_more out u line (tokens_from n line rest) ∙ ap (λ ts. map place_meant out ++ ts) (no_fault u (tokens_from n line) line rest)

stopped : (n : ℕ) (kind : FaultKind) (out : List Place) (line : ℕ) (bs rest : Text) → Read (run (stop kind out line) bs) ≡ Then n out line (meant.bad (fault_meant kind)) rest
stopped n kind out line bs rest = ap Read (run_stop bs (failed kind out line))

-- ---- words

words : (n : ℕ) → Reads n → (bs buffer : Text) (out : List Place) (line : ℕ) → length bs ≤ n
    → Read (run (by.at p.InWord buffer out line) bs) ≡ Then n out line (word_token (buffer ++ while_front is_word_character bs)) (while_rest is_word_character bs)
words n more [] buffer out line le = put n more (word_of buffer) [] out line le ∙ ap (λ u. Then n out line u []) (word_meant buffer ∙ ap word_token (sym (append-nil buffer)))
words n more (c ∷ bs) buffer out line le =
    by_both (λ r f. Read (run r bs) ≡ Then n out line (word_token (buffer ++ f)) (while_rest is_word_character (c ∷ bs))) (t.is_word c) (is_word_character c) _ _ _ _ (words_are c)
    (λ h. words n more bs (buffer ++ c ∷ []) out line (omega arith)
    ∙ ap (λ w. Then n out line (word_token w) (while_rest is_word_character bs)) (append_assoc buffer (c ∷ []) _)
    ∙ ap (Then n out line (word_token (buffer ++ c ∷ while_front is_word_character bs))) (sym (pick_true (is_word_character c) _ _ (sym (words_are c) ∙ h))))
    (λ h. put n more (word_of buffer) (c ∷ bs) out line le
    ∙ ap (λ u. Then n out line u (c ∷ bs)) (word_meant buffer ∙ ap word_token (sym (append-nil buffer)))
    ∙ ap (Then n out line (word_token (buffer ++ []))) (sym (pick_false (is_word_character c) _ _ (sym (words_are c) ∙ h))))

-- ---- numbers

grows : (bs : Text) (n : ℕ) → n ≤ meant.value_from n bs
grows [] n = omega arith
grows (b ∷ bs) n = omega (arith, grows bs (n * 10 + (b - 48)))

times_ten : (n d : ℕ) → 10 * n + d ≡ n * 10 + d
times_ten n d = omega arith

in_range : (v : ℕ) → v ≤ max_number → integer_token v ≡ meant.integer v
in_range v h = pick_true (nat_le v (suc greatest_integer)) _ _ (of_le v (suc greatest_integer) (omega arith))

out_of_range : (v : ℕ) → (v ≤ max_number → ⊥) → integer_token v ≡ meant.bad meant.number
out_of_range v h = pick_false (nat_le v (suc greatest_integer)) _ _ (of_not_le v (suc greatest_integer) (λ le. h (omega arith)))

numbers : (n : ℕ) → Reads n → (bs : Text) (m : ℕ) (out : List Place) (line : ℕ) → length bs ≤ n → m ≤ max_number
    → Read (run (by.at (p.InNumber m) [] out line) bs) ≡ Then n out line (integer_token (meant.value_from m (while_front is_digit bs))) (while_rest is_digit bs)
numbers n more [] m out line le small = put n more (t.integer m) [] out line le ∙ ap (λ u. Then n out line u []) (sym (in_range m small))
numbers n more (c ∷ bs) m out line le small =
    by_both (λ r f. Read (run r bs) ≡ Then n out line (integer_token (meant.value_from m f)) (while_rest is_digit (c ∷ bs))) (is_ascii_digit c) (is_digit c) _ _ _ _ (digits c)
    (λ h. let v : ℕ = 10 * m + (c - 48) in
    by_cond (λ r. Read (run r bs) ≡ Then n out line (integer_token (meant.value_from v (while_front is_digit bs))) (while_rest is_digit bs)) (nat_le v max_number) _ _
    (λ e. numbers n more bs v out line (omega arith) (le_of v max_number e))
    (λ e. stopped n k.Number out line bs (while_rest is_digit bs)
    ∙ ap (λ u. Then n out line u (while_rest is_digit bs)) (sym (out_of_range (meant.value_from v (while_front is_digit bs)) (λ le2. not_le_of v max_number e (omega (arith, le2, grows (while_front is_digit bs) v))))))
    ∙ ap (λ w. Then n out line (integer_token (meant.value_from w (while_front is_digit bs))) (while_rest is_digit bs)) (times_ten m (c - 48))
    ∙ ap (Then n out line (integer_token (meant.value_from m (c ∷ while_front is_digit bs)))) (sym (pick_true (is_digit c) _ _ (sym (digits c) ∙ h))))
    (λ h. put n more (t.integer m) (c ∷ bs) out line le
    ∙ ap (λ u. Then n out line u (c ∷ bs)) (sym (in_range m small))
    ∙ ap (Then n out line (integer_token m)) (sym (pick_false (is_digit c) _ _ (sym (digits c) ∙ h))))

-- ---- objects

abbrev numbered : Bool → ℕ → meant.Token
numbered minus v = cond (nat_le v (greatest_object minus)) (meant.object minus v) (meant.bad meant.number)

bounds : (minus : Bool) → max_object minus ≡ greatest_object minus
bounds false = refl
bounds true = refl

objects : (n : ℕ) → Reads n → (bs : Text) (minus : Bool) (m : ℕ) (out : List Place) (line : ℕ) → length bs ≤ n → m ≤ max_object minus
    → Read (run (by.at (p.InObject minus m) [] out line) bs) ≡ Then n out line (numbered minus (meant.value_from m (while_front is_digit bs))) (while_rest is_digit bs)
objects n more [] minus m out line le small =
    put n more (t.object minus m) [] out line le
    ∙ ap (λ u. Then n out line u []) (sym (pick_true (nat_le m (greatest_object minus)) _ _ (of_le m (greatest_object minus) (omega (arith, bounds minus, small)))))
objects n more (c ∷ bs) minus m out line le small =
    by_both (λ r f. Read (run r bs) ≡ Then n out line (numbered minus (meant.value_from m f)) (while_rest is_digit (c ∷ bs))) (is_ascii_digit c) (is_digit c) _ _ _ _ (digits c)
    (λ h. let v : ℕ = 10 * m + (c - 48) in
    by_cond (λ r. Read (run r bs) ≡ Then n out line (numbered minus (meant.value_from v (while_front is_digit bs))) (while_rest is_digit bs)) (nat_le v (max_object minus)) _ _
    (λ e. objects n more bs minus v out line (omega arith) (le_of v (max_object minus) e))
    (λ e. stopped n k.Number out line bs (while_rest is_digit bs)
    ∙ ap (λ u. Then n out line u (while_rest is_digit bs))
    (sym (pick_false (nat_le (meant.value_from v (while_front is_digit bs)) (greatest_object minus)) _ _
    (of_not_le _ (greatest_object minus) (λ le2. not_le_of v (max_object minus) e (omega (arith, le2, bounds minus, grows (while_front is_digit bs) v)))))))
    ∙ ap (λ w. Then n out line (numbered minus (meant.value_from w (while_front is_digit bs))) (while_rest is_digit bs)) (times_ten m (c - 48))
    ∙ ap (Then n out line (numbered minus (meant.value_from m (c ∷ while_front is_digit bs)))) (sym (pick_true (is_digit c) _ _ (sym (digits c) ∙ h))))
    (λ h. put n more (t.object minus m) (c ∷ bs) out line le
    ∙ ap (λ u. Then n out line u (c ∷ bs)) (sym (pick_true (nat_le m (greatest_object minus)) _ _ (of_le m (greatest_object minus) (omega (arith, bounds minus, small)))))
    ∙ ap (Then n out line (numbered minus m)) (sym (pick_false (is_digit c) _ _ (sym (digits c) ∙ h))))

nine_fits : (minus : Bool) (d : ℕ) → d ≤ 9 → d ≤ max_object minus
nine_fits false d h = omega arith
nine_fits true d h = omega arith

-- ---- strings

abbrev before : Text → StringEnd → StringEnd
before w (closed s rest) = closed (w ++ s) rest
before w (meant.faulty kind) = meant.faulty kind

before_nothing : (e : StringEnd) → before [] e ≡ e
before_nothing (closed s rest) = refl
before_nothing (meant.faulty kind) = refl

before_one : (w : Text) (c : ℕ) (e : StringEnd) → before (w ++ c ∷ []) e ≡ before w (and_character c e)
before_one w c (closed s rest) = ap (λ x. closed x rest) (append_assoc w (c ∷ []) s)
before_one w c (meant.faulty kind) = refl

abbrev Quoted : ℕ → List Place → ℕ → StringEnd → List meant.Placed
Quoted n out line e = map place_meant out ++ token_first (tokens_from n line) line (first_string e)

after_text : (n : ℕ) → Reads n → (bs buffer : Text) (out : List Place) (line : ℕ) → length bs ≤ n → Read (run (by.at p.AfterText buffer out line) bs) ≡ Then n out line (meant.string buffer) bs
after_text n more [] buffer out line le = put n more (t.text buffer) [] out line le
after_text n more (c ∷ bs) buffer out line le = put n more (t.text buffer) (c ∷ bs) out line le

wrong : (n : ℕ) (c : ℕ) (bs buffer : Text) (out : List Place) (line : ℕ) → Read (run (string_fault c out line) bs) ≡ Quoted n out line (before buffer (wrong_character c))
wrong n c bs buffer out line =
    by_both (λ r e. Read (run r bs) ≡ Quoted n out line (before buffer e)) (c == 10) (c == 10) _ _ _ _ refl (λ h. stopped n k.Unclosed out line bs []) (λ h. stopped n k.Character out line bs [])

texts : (n : ℕ) → Reads n → (bs buffer : Text) (out : List Place) (line : ℕ) → length bs ≤ n
    → (Read (run (by.at p.InText buffer out line) bs) ≡ Quoted n out line (before buffer (in_string bs).plain)) × (Read (run (by.at p.InEscape buffer out line) bs) ≡ Quoted n out line (before buffer (in_string bs).escaped))
texts n more [] buffer out line le = (refl, refl)
texts n more (c ∷ bs) buffer out line le =
    let le2 : length bs ≤ n = omega arith in
    let plain = texts n more bs (buffer ++ c ∷ []) out line le2 in
    let character = plain.0 ∙ ap (Quoted n out line) (before_one buffer c (in_string bs).plain) in
    let P = λ (r : Step) (e : StringEnd). Read (run r bs) ≡ Quoted n out line (before buffer e) in (
      by_both P (c == 34) (c == 34) _ _ _ _ refl
          (λ h. after_text n more bs buffer out line le2 ∙ ap (λ w. Then n out line (meant.string w) bs) (sym (append-nil buffer))) (λ h.
          by_both P (c == 92) (c == 92) _ _ _ _ refl (λ h2. (texts n more bs buffer out line le2).1) (λ h2.
          by_both P (is_character c) (is_character c) _ _ _ _ refl (λ h3. character) (λ h3. wrong n c bs buffer out line))),
      by_both P (is_character c) (is_character c) _ _ _ _ refl (λ h3. character) (λ h3. wrong n c bs buffer out line),
    )

-- ---- signs

abbrev is_double : Sign → Bool
is_double sign.DoubleDot = true
is_double sign.Equal = true
is_double sign.Arrow = true
is_double sign.Differs = true
is_double sign.LessOrEqual = true
is_double sign.GreaterOrEqual = true
is_double sign.And = true
is_double sign.Or = true
is_double _ = false

none_longer : (m : Sign) (d : ℕ) → is_double m ≡ true → longer m d ≡ None
none_longer sign.DoubleDot d h = refl
none_longer sign.Equal d h = refl
none_longer sign.Arrow d h = refl
none_longer sign.Differs d h = refl
none_longer sign.LessOrEqual d h = refl
none_longer sign.GreaterOrEqual d h = refl
none_longer sign.And d h = refl
none_longer sign.Or d h = refl
none_longer _ d h = absurd (cc)

abbrev Doubled : Option Sign → Type 0
Doubled None = Unit {0}
Doubled (Some m) = is_double m ≡ true

doubled : (m : Sign) (d : ℕ) → Doubled (longer m d)
doubled sign.Dot d = by_cond Doubled (d == 46) _ _ (λ _. refl) (λ _. tt)
doubled sign.Assign d = by_cond Doubled (d == 61) _ _ (λ _. refl) (λ _. by_cond Doubled (d == 62) _ _ (λ _. refl) (λ _. tt))
doubled sign.Not d = by_cond Doubled (d == 61) _ _ (λ _. refl) (λ _. tt)
doubled sign.Less d = by_cond Doubled (d == 61) _ _ (λ _. refl) (λ _. tt)
doubled sign.Greater d = by_cond Doubled (d == 61) _ _ (λ _. refl) (λ _. tt)
doubled sign.Bar d = by_cond Doubled (d == 124) _ _ (λ _. refl) (λ _. tt)
doubled _ d = tt

after_double : (n : ℕ) → Reads n → (bs : Text) (m : Sign) (out : List Place) (line : ℕ) → length bs ≤ n → is_double m ≡ true
    → Read (run (by.at (p.AfterSign m) [] out line) bs) ≡ Then n out line (meant.sign (sign_meant m)) bs
after_double n more [] m out line le h = put n more (t.mark m) [] out line le
after_double n more (c ∷ bs) m out line le h = ap (λ o. Read (run (after_sign o m c out line) bs)) (none_longer m c h) ∙ put n more (t.mark m) (c ∷ bs) out line le

abbrev Signed : ℕ → List Place → ℕ → First → List meant.Placed
Signed n out line f = map place_meant out ++ token_first (tokens_from n line) line f

second : (n : ℕ) → Reads n → (o : Option Sign) (c : ℕ) (bs : Text) (m : Sign) (out : List Place) (line : ℕ) → length (c ∷ bs) ≤ n → Doubled o
    → Read (run (after_sign o m c out line) bs) ≡ Signed n out line (two_signs bs (option_map sign_meant o) (sign_meant m) c)
second n more None c bs m out line le h = put n more (t.mark m) (c ∷ bs) out line le
second n more (Some s) c bs m out line le h = after_double n more bs s out line (omega arith) h

signs : (n : ℕ) → Reads n → (bs : Text) (m : Sign) (out : List Place) (line : ℕ) → length bs ≤ n → Read (run (by.at (p.AfterSign m) [] out line) bs) ≡ Signed n out line (sign_with (sign_meant m) bs)
signs n more [] m out line le = put n more (t.mark m) [] out line le
signs n more (c ∷ bs) m out line le =
    second n more (longer m c) c bs m out line le (doubled m c) ∙ ap (λ o. Signed n out line (two_signs bs o (sign_meant m) c)) (longer_is_meant m c)

any_sign : (n : ℕ) → Reads n → (o : Option Sign) (bs : Text) (out : List Place) (line : ℕ) → length bs ≤ n → Read (run (signed o out line) bs) ≡ Signed n out line (first_sign (option_map sign_meant o) bs)
any_sign n more None bs out line le = stopped n k.Character out line bs bs
any_sign n more (Some m) bs out line le = signs n more bs m out line le

ampersands : (n : ℕ) → Reads n → (bs : Text) (out : List Place) (line : ℕ) → length bs ≤ n → Read (run (by.at p.AfterAmpersand [] out line) bs) ≡ Signed n out line (first_and bs)
ampersands n more [] out line le = refl
ampersands n more (c ∷ bs) out line le =
    by_both (λ r f. Read (run r bs) ≡ Signed n out line f) (c == 38) (c == 38) _ _ _ _ refl
    (λ h. after_double n more bs sign.And out line (omega arith) refl) (λ h. stopped n k.Character out line bs bs)

-- ---- behind `#`

object_digits : (n : ℕ) → Reads n → (minus : Bool) (c : ℕ) (bs : Text) (out : List Place) (line : ℕ) → length bs ≤ n → is_ascii_digit c ≡ true
    → Read (run (by.at (p.InObject minus (c - 48)) [] out line) bs) ≡ Signed n out line (object_behind minus (c ∷ bs))
object_digits n more minus c bs out line le h =
    let d : is_digit c ≡ true = sym (digits c) ∙ h in
    let first : c - 48 ≡ 0 * 10 + (c - 48) = omega arith in
    objects n more bs minus (c - 48) out line le (nine_fits minus (c - 48) (digit_small c h))
    ∙ ap (λ v. Then n out line (numbered minus (meant.value_from v (while_front is_digit bs))) (while_rest is_digit bs)) first
    ∙ ap (λ f. Then n out line (object_token minus f) (while_rest is_digit bs)) (sym (pick_true (is_digit c) (c ∷ while_front is_digit bs) [] d))
    ∙ ap (Then n out line (object_token minus (while_front is_digit (c ∷ bs)))) (sym (pick_true (is_digit c) (while_rest is_digit bs) (c ∷ bs) d))

no_digits : (n : ℕ) (minus : Bool) (c : ℕ) (bs : Text) (out : List Place) (line : ℕ) → is_ascii_digit c ≡ false → Read (run (stop k.Character out line) bs) ≡ Signed n out line (object_behind minus (c ∷ bs))
no_digits n minus c bs out line h =
    let d : is_digit c ≡ false = sym (digits c) ∙ h in
    stopped n k.Character out line bs (while_rest is_digit (c ∷ bs))
    ∙ ap (λ f. Then n out line (object_token minus f) (while_rest is_digit (c ∷ bs))) (sym (pick_false (is_digit c) (c ∷ while_front is_digit bs) [] d))

after_minus : (n : ℕ) → Reads n → (bs : Text) (out : List Place) (line : ℕ) → length bs ≤ n → Read (run (by.at p.AfterMinus [] out line) bs) ≡ Signed n out line (object_behind true bs)
after_minus n more [] out line le = refl
after_minus n more (c ∷ bs) out line le =
    by_cond (λ r. Read (run r bs) ≡ Signed n out line (object_behind true (c ∷ bs))) (is_ascii_digit c) _ _
    (λ h. object_digits n more true c bs out line (omega arith) h) (λ h. no_digits n true c bs out line h)

digit_is_no_minus : (c : ℕ) → is_ascii_digit c ≡ true → (c == 45) ≡ false
digit_is_no_minus c h = grind (arith, nat_tests)

after_hash : (n : ℕ) → Reads n → (bs : Text) (out : List Place) (line : ℕ) → length bs ≤ n → Read (run (by.at p.AfterHash [] out line) bs) ≡ Signed n out line (first_object bs)
after_hash n more [] out line le = refl
after_hash n more (c ∷ bs) out line le =
    by_cond (λ r. Read (run r bs) ≡ Signed n out line (first_object (c ∷ bs))) (is_ascii_digit c) _ _
    (λ h. object_digits n more false c bs out line (omega arith) h ∙ ap (Signed n out line) (sym (pick_false (c == 45) (object_behind true bs) (object_behind false (c ∷ bs)) (digit_is_no_minus c h))))
    (λ h. by_both (λ r f. Read (run r bs) ≡ Signed n out line f) (c == 45) (c == 45) _ _ _ _ refl
    (λ e. after_minus n more bs out line (omega arith)) (λ e. no_digits n false c bs out line h))

-- ---- all of them

blank_no_letter : (b : ℕ) → t.is_blank b ≡ true → t.is_letter b ≡ false
blank_no_letter b h = bool_same _ _ (λ e. grind (arith, nat_tests)) (λ e. absurd (cc))

blank_no_digit : (b : ℕ) → t.is_blank b ≡ true → is_ascii_digit b ≡ false
blank_no_digit b h = bool_same _ _ (λ e. grind (arith, nat_tests)) (λ e. absurd (cc))

blank_no_quote : (b : ℕ) → t.is_blank b ≡ true → (b == 34) ≡ false
blank_no_quote b h = bool_same _ _ (λ e. grind (arith, nat_tests)) (λ e. absurd (cc))

blank : (n : ℕ) → Reads n → (b : ℕ) (bs : Text) (out : List Place) (line : ℕ) → length bs ≤ n → t.is_blank b ≡ true → Read (run (begin b out line) bs) ≡ map place_meant out ++ tokens_from n (meant.line_after b line) bs
blank n more b bs out line le h =
    ap (λ r. Read (run r bs))
    (pick_false (t.is_letter b) _ _ (blank_no_letter b h) ∙ pick_false (is_ascii_digit b) _ _ (blank_no_digit b h) ∙ pick_false (b == 34) _ _ (blank_no_quote b h)
    ∙ pick_true (t.is_blank b) (by.at p.Nothing [] out (t.line_after b line)) _ h)
    ∙ more bs out (t.line_after b line) le ∙ ap (λ l. map place_meant out ++ tokens_from n l bs) (lines b line)

begun : (n : ℕ) → Reads n → (b : ℕ) (bs : Text) (out : List Place) (line : ℕ) → length bs ≤ n → t.is_blank b ≡ false → Read (run (begin b out line) bs) ≡ Signed n out line (first_token b bs)
begun n more b bs out line le none =
    let P = λ (r : Step) (f : First). Read (run r bs) ≡ Signed n out line f in
    by_both P (t.is_letter b) (names.is_letter b) _ _ _ _ (letters b)
    (λ h. words n more bs (b ∷ []) out line le
    ∙ ap (λ f. Then n out line (word_token f) (while_rest is_word_character bs)) (sym (pick_true (is_word_character b) (b ∷ while_front is_word_character bs) [] (letter_in_word b h))))
    (λ _. by_both P (is_ascii_digit b) (is_digit b) _ _ _ _ (digits b)
    (λ h. let first : b - 48 ≡ 0 * 10 + (b - 48) = omega arith in
    numbers n more bs (b - 48) out line le (omega (arith, digit_small b h))
    ∙ ap (λ v. Then n out line (integer_token (meant.value_from v (while_front is_digit bs))) (while_rest is_digit bs)) first
    ∙ ap (λ f. Then n out line (integer_token (meant.value_from 0 f)) (while_rest is_digit bs)) (sym (pick_true (is_digit b) (b ∷ while_front is_digit bs) [] (sym (digits b) ∙ h))))
    (λ _. by_both P (b == 34) (b == 34) _ _ _ _ refl
    (λ h. (texts n more bs [] out line le).0 ∙ ap (Quoted n out line) (before_nothing (in_string bs).plain))
    (λ _. by_cond (λ r. P r (cond (b == 35) (first_object bs) (cond (b == 38) (first_and bs) (first_sign (one_sign b) bs)))) (t.is_blank b) _ _ (λ h. absurd (cc))
    (λ _. by_both P (b == 35) (b == 35) _ _ _ _ refl (λ h. after_hash n more bs out line le)
    (λ _. by_both P (b == 38) (b == 38) _ _ _ _ refl (λ h. ampersands n more bs out line le)
    (λ _. any_sign n more (sign_of b) bs out line le ∙ ap (λ o. Signed n out line (first_sign o bs)) (sign_is b)))))))

nothing_left : (n line : ℕ) (out : List Place) → Read (run (Ok (fresh out line)) []) ≡ map place_meant out ++ tokens_from n line []
unfolding tokens_from
nothing_left zero line out = refl
nothing_left (suc n) line out = refl

one_more : (n : ℕ) (b : ℕ) (bs : Text) (line : ℕ) → blank_or_token (meant.is_blank b) (tokens_from n) line b bs ≡ tokens_from (suc n) line (b ∷ bs)
unfolding tokens_from
one_more n b bs line = refl

next : (n : ℕ) → Reads n → (c : Bool) (b : ℕ) (bs : Text) (out : List Place) (line : ℕ) → length bs ≤ n → t.is_blank b ≡ c → Read (run (begin b out line) bs) ≡ map place_meant out ++ blank_or_token c (tokens_from n) line b bs
next n more true b bs out line le h = blank n more b bs out line le h
next n more false b bs out line le h = begun n more b bs out line le h

reads : (n : ℕ) → Reads n
reads n [] out line le = nothing_left n line out
reads zero (b ∷ bs) out line le = absurd (omega arith)
reads (suc n) (b ∷ bs) out line le =
    next n (reads n) (meant.is_blank b) b bs out line (omega arith) (blanks b) ∙ ap (λ ts. map place_meant out ++ ts) (one_more n b bs line)

-- what a text is, is its tokens
pub tokens_are : (bs : Text) (ps : List Place) (e : Ending) → IsText 1 bs ps e → all_meant ps e ≡ tokens_of bs
tokens_are bs ps e h = ap (λ c. all_meant c.places c.ending) (sym (cuts bs ps e h)) ∙ reads (length bs) bs [] 1 (omega arith)
