-- Each text is cut into what it is.
use Rattle.std.proofs.Common.{◌≡◌, ℕ, ◌+◌, ◌-◌, ◌*◌, ◌≤◌, Bool, true, false, List, [], ◌∷◌, ◌++◌, Option, Some, None, Ok, refl, sym, ap, ◌∙◌, subst, arith, append_assoc, append-nil}
use Rattle.std.specs.Prelude.{◌==◌, nat_le, is_some}
use Rattle.std.proofs.lemmas.Bool.{eqb-true}
use Rattle.std.proofs.lemmas.Bool.Decides.{nat_tests}
use Rattle.std.specs.List.{list_all}
use Rattle.std.specs.Char.{is_ascii_digit}
use Rattle.spec_value.specs.Datum.{Text, is_character}
use Rattle.moo_token.specs.declared.token.Sign.{Sign}
use Rattle.moo_token.specs.declared.token.Sign.TheVariants as sign
use Rattle.moo_token.specs.declared.cutter.Pending.{Pending}
use Rattle.moo_token.specs.declared.cutter.Pending.TheVariants as p
use Rattle.moo_token.specs.declared.fault.FaultKind.{FaultKind}
use Rattle.moo_token.specs.declared.fault.FaultKind.TheVariants as k
use Rattle.moo_token.specs.Tokens as t
use Rattle.moo_token.specs.Tokens.{Token, identifier, keyword, error_name, integer, object, mark, is_letter, is_word, is_name, is_digits, value_from, word_of, is_blank, is_first, sign_of, hash, max_number, max_object, Escapes, none, plain, escaped, spelling, Spells, IsInRange, IsLongest, is_at, is_at_digit, Place, line_after, Ending, whole, faulty, is_line_end, Opens, at_character, at_escaped, IsBad, unknown, lone_ampersand, lone_hash, lone_minus, bad_character, open_string, too_large, IsText, end, bad, blank, token}
use Rattle.moo_token.specs.Cutting.{State, Cut, Step, longer, signed, begin, with_token, digit, object_digit, in_number, after_hash, after_minus, after_ampersand, string_fault, in_text, in_escape, after_sign, step_by, step, ended, failed, finish, and_step, run, at_end, fresh, cut, stop}
use Rattle.moo_token.specs.Cutting as by
use Rattle.moo_token.proofs.Lists.{by_cond, pick_true, pick_false, and_true, or_false, cond_false, name_snoc, digits_snoc, digit_not_letter, plain_character, plain_not_quote, plain_not_slash}
use Rattle.moo_token.proofs.Signs.{longer_spelled}
use Rattle.moo_token.proofs.Longest.{word_is}
use Rattle.moo_token.proofs.Bad.{le_of, of_le, digit_small}
use Rattle.moo_token.proofs.Cuts.{run_stop}

pub run_append : (bs cs : Text) (r : Step) → run r (bs ++ cs) ≡ run (run r bs) cs
run_append [] cs r = refl
run_append (b ∷ bs) cs r = run_append bs cs (and_step b r)

-- ---- after a token

abbrev pending_of : Token → Pending
pending_of (identifier n) = p.InWord
pending_of (keyword n) = p.InWord
pending_of (error_name n) = p.InWord
pending_of (integer n) = p.InNumber n
pending_of (object m n) = p.InObject m n
pending_of (t.text s) = p.AfterText
pending_of (mark m) = p.AfterSign m

abbrev buffer_of : Text → Token → Text
buffer_of w (identifier n) = w
buffer_of w (keyword n) = w
buffer_of w (error_name n) = w
buffer_of w (t.text s) = s
buffer_of w _ = []

abbrev at_token : Text → Token → List Place → ℕ → State
at_token w u out line = record { pending = pending_of u; buffer = buffer_of w u; out = out; line = line }

-- ---- what each kind of token does

word_run : (bs buffer : Text) (out : List Place) (line : ℕ) → list_all is_word bs ≡ true → run (by.at p.InWord buffer out line) bs ≡ by.at p.InWord (buffer ++ bs) out line
word_run [] buffer out line h = ap (λ x. by.at p.InWord x out line) (sym (append-nil buffer))
word_run (b ∷ bs) buffer out line h =
    let x = and_true (is_word b) (list_all is_word bs) h in
    ap (λ r. run r bs) (pick_true (is_word b) (by.at p.InWord (buffer ++ b ∷ []) out line) _ x.0)
    ∙ word_run bs (buffer ++ b ∷ []) out line x.1
    ∙ ap (λ z. by.at p.InWord z out line) (append_assoc buffer (b ∷ []) bs)

name_run : (w : Text) (out : List Place) (line : ℕ) → is_name w ≡ true → run (Ok (fresh out line)) w ≡ by.at p.InWord w out line
name_run [] out line h = cc
name_run (b ∷ w) out line h =
    let x = and_true (is_letter b) (list_all is_word w) h in
    ap (λ r. run r w) (pick_true (is_letter b) (by.at p.InWord (b ∷ []) out line) _ x.0) ∙ word_run w (b ∷ []) out line x.1

value_grows : (bs : Text) (n : ℕ) → n ≤ value_from n bs
value_grows [] n = omega arith
value_grows (b ∷ bs) n = omega (arith, value_grows bs (10 * n + (b - 48)))

number_run : (bs : Text) (n : ℕ) (out : List Place) (line : ℕ) → list_all is_ascii_digit bs ≡ true → value_from n bs ≤ max_number → run (by.at (p.InNumber n) [] out line) bs ≡ by.at (p.InNumber (value_from n bs)) [] out line
number_run [] n out line h le = refl
number_run (b ∷ bs) n out line h le =
    let x = and_true (is_ascii_digit b) (list_all is_ascii_digit bs) h in
    let m : ℕ = 10 * n + (b - 48) in
    let small : m ≤ max_number = omega (arith, value_grows bs m, le) in
    ap (λ r. run r bs) (pick_true (is_ascii_digit b) (digit m out line) _ x.0 ∙ pick_true (nat_le m max_number) (by.at (p.InNumber m) [] out line) _ (of_le m max_number small))
    ∙ number_run bs m out line x.1 le

-- too large a number
number_over : (bs : Text) (n : ℕ) (out : List Place) (line : ℕ) → list_all is_ascii_digit bs ≡ true → n ≤ max_number → (value_from n bs ≤ max_number → ⊥) → run (by.at (p.InNumber n) [] out line) bs ≡ stop k.Number out line
number_over [] n out line h le large = absurd (large le)
number_over (b ∷ bs) n out line h le large =
    let x = and_true (is_ascii_digit b) (list_all is_ascii_digit bs) h in
    let m : ℕ = 10 * n + (b - 48) in
    ap (λ r. run r bs) (pick_true (is_ascii_digit b) (digit m out line) _ x.0)
    ∙ by_cond (λ r. run r bs ≡ stop k.Number out line) (nat_le m max_number) _ _
    (λ e. number_over bs m out line x.1 (le_of m max_number e) large) (λ e. run_stop bs (failed k.Number out line))

object_run : (bs : Text) (minus : Bool) (n : ℕ) (out : List Place) (line : ℕ) → list_all is_ascii_digit bs ≡ true → value_from n bs ≤ max_object minus → run (by.at (p.InObject minus n) [] out line) bs ≡ by.at (p.InObject minus (value_from n bs)) [] out line
object_run [] minus n out line h le = refl
object_run (b ∷ bs) minus n out line h le =
    let x = and_true (is_ascii_digit b) (list_all is_ascii_digit bs) h in
    let m : ℕ = 10 * n + (b - 48) in
    let small : m ≤ max_object minus = omega (arith, value_grows bs m, le) in
    ap (λ r. run r bs) (pick_true (is_ascii_digit b) (object_digit minus m out line) _ x.0 ∙ pick_true (nat_le m (max_object minus)) (by.at (p.InObject minus m) [] out line) _ (of_le m (max_object minus) small))
    ∙ object_run bs minus m out line x.1 le

object_over : (bs : Text) (minus : Bool) (n : ℕ) (out : List Place) (line : ℕ) → list_all is_ascii_digit bs ≡ true → n ≤ max_object minus → (value_from n bs ≤ max_object minus → ⊥) → run (by.at (p.InObject minus n) [] out line) bs ≡ stop k.Number out line
object_over [] minus n out line h le large = absurd (large le)
object_over (b ∷ bs) minus n out line h le large =
    let x = and_true (is_ascii_digit b) (list_all is_ascii_digit bs) h in
    let m : ℕ = 10 * n + (b - 48) in
    ap (λ r. run r bs) (pick_true (is_ascii_digit b) (object_digit minus m out line) _ x.0)
    ∙ by_cond (λ r. run r bs ≡ stop k.Number out line) (nat_le m (max_object minus)) _ _
    (λ e. object_over bs minus m out line x.1 (le_of m (max_object minus) e) large) (λ e. run_stop bs (failed k.Number out line))

-- the first digit of a number
first_number : (b : ℕ) (w : Text) (out : List Place) (line : ℕ) → is_ascii_digit b ≡ true → run (Ok (fresh out line)) (b ∷ w) ≡ run (by.at (p.InNumber (b - 48)) [] out line) w
first_number b w out line d = ap (λ r. run r w) (pick_false (is_letter b) _ _ (digit_not_letter b d) ∙ pick_true (is_ascii_digit b) (by.at (p.InNumber (b - 48)) [] out line) _ d)

first_object : (minus : Bool) (b : ℕ) (w : Text) (out : List Place) (line : ℕ) → is_ascii_digit b ≡ true → run (Ok (fresh out line)) (hash minus ++ b ∷ w) ≡ run (by.at (p.InObject minus (b - 48)) [] out line) w
first_object false b w out line d = ap (λ r. run r w) (pick_true (is_ascii_digit b) (by.at (p.InObject false (b - 48)) [] out line) _ d)
first_object true b w out line d = ap (λ r. run r w) (pick_true (is_ascii_digit b) (by.at (p.InObject true (b - 48)) [] out line) _ d)

first_value : (b : ℕ) (w : Text) → value_from (b - 48) w ≡ value_from 0 (b ∷ w)
first_value b w = ap (λ z. value_from z w) (let e : b - 48 ≡ 10 * 0 + (b - 48) = omega arith in e)

whole_number : (w : Text) (n : ℕ) (out : List Place) (line : ℕ) → is_digits w ≡ true → value_from 0 w ≡ n → n ≤ max_number → run (Ok (fresh out line)) w ≡ by.at (p.InNumber n) [] out line
whole_number [] n out line h e le = cc
whole_number (b ∷ w) n out line h e le =
    let x = and_true (is_ascii_digit b) (list_all is_ascii_digit w) h in
    let v = first_value b w ∙ e in
    first_number b w out line x.0 ∙ number_run w (b - 48) out line x.1 (omega (arith, v, le)) ∙ ap (λ z. by.at (p.InNumber z) [] out line) v

large_number : (w : Text) (out : List Place) (line : ℕ) → is_digits w ≡ true → (value_from 0 w ≤ max_number → ⊥) → run (Ok (fresh out line)) w ≡ stop k.Number out line
large_number [] out line h large = cc
large_number (b ∷ w) out line h large =
    let x = and_true (is_ascii_digit b) (list_all is_ascii_digit w) h in
    let v = first_value b w in
    first_number b w out line x.0 ∙ number_over w (b - 48) out line x.1 (omega (arith, digit_small b x.0)) (λ le. large (omega (arith, v, le)))

small_object : (minus : Bool) (b : ℕ) → is_ascii_digit b ≡ true → b - 48 ≤ max_object minus
small_object false b d = omega (arith, digit_small b d)
small_object true b d = omega (arith, digit_small b d)

whole_object : (w : Text) (minus : Bool) (n : ℕ) (out : List Place) (line : ℕ) → is_digits w ≡ true → value_from 0 w ≡ n → n ≤ max_object minus → run (Ok (fresh out line)) (hash minus ++ w) ≡ by.at (p.InObject minus n) [] out line
whole_object [] minus n out line h e le = cc
whole_object (b ∷ w) minus n out line h e le =
    let x = and_true (is_ascii_digit b) (list_all is_ascii_digit w) h in
    let v = first_value b w ∙ e in
    first_object minus b w out line x.0 ∙ object_run w minus (b - 48) out line x.1 (omega (arith, v, le)) ∙ ap (λ z. by.at (p.InObject minus z) [] out line) v

large_object : (w : Text) (minus : Bool) (out : List Place) (line : ℕ) → is_digits w ≡ true → (value_from 0 w ≤ max_object minus → ⊥) → run (Ok (fresh out line)) (hash minus ++ w) ≡ stop k.Number out line
large_object [] minus out line h large = cc
large_object (b ∷ w) minus out line h large =
    let x = and_true (is_ascii_digit b) (list_all is_ascii_digit w) h in
    let v = first_value b w in
    first_object minus b w out line x.0 ∙ object_over w minus (b - 48) out line x.1 (small_object minus b x.0) (λ le. large (omega (arith, v, le)))

body_run : {body s : Text} (buffer : Text) (out : List Place) (line : ℕ) → Escapes body s → run (by.at p.InText buffer out line) body ≡ by.at p.InText (buffer ++ s) out line
body_run buffer out line none = ap (λ z. by.at p.InText z out line) (sym (append-nil buffer))
body_run buffer out line (plain {bs = bs} {s = s} b h r) =
    ap (λ r. run r bs) (pick_false (b == 34) _ _ (plain_not_quote b h) ∙ pick_false (b == 92) _ _ (plain_not_slash b h) ∙ pick_true (is_character b) (by.at p.InText (buffer ++ b ∷ []) out line) _ (plain_character b h))
    ∙ body_run (buffer ++ b ∷ []) out line r ∙ ap (λ z. by.at p.InText z out line) (append_assoc buffer (b ∷ []) s)
body_run buffer out line (escaped {bs = bs} {s = s} b h r) =
    ap (λ r. run r bs) (pick_true (is_character b) (by.at p.InText (buffer ++ b ∷ []) out line) _ h)
    ∙ body_run (buffer ++ b ∷ []) out line r ∙ ap (λ z. by.at p.InText z out line) (append_assoc buffer (b ∷ []) s)

string_run : {body s : Text} (out : List Place) (line : ℕ) → Escapes body s → run (Ok (fresh out line)) (34 ∷ (body ++ 34 ∷ [])) ≡ by.at p.AfterText s out line
string_run {body} out line h = run_append body (34 ∷ []) (by.at p.InText [] out line) ∙ ap (λ r. run r (34 ∷ [])) (body_run [] out line h)

sign_run : (m : Sign) (out : List Place) (line : ℕ) → run (Ok (fresh out line)) (spelling m) ≡ Ok (at_token [] (mark m) out line)
sign_run sign.And out line = refl
sign_run _ out line = refl

pub token_run : (w : Text) (u : Token) (out : List Place) (line : ℕ) → Spells w u → IsInRange u → run (Ok (fresh out line)) w ≡ Ok (at_token w u out line)
token_run w (identifier n) out line h i = name_run w out line h.0
token_run w (keyword n) out line h i = name_run w out line h.0
token_run w (error_name n) out line h i = name_run w out line h.0
token_run w (integer n) out line h i = whole_number w n out line h.0 h.1 i
token_run w (object m n) out line h i = ap (run (Ok (fresh out line))) h.1 ∙ whole_object h.0 m n out line h.2 h.3 i
token_run w (t.text s) out line h i = ap (run (Ok (fresh out line))) h.1 ∙ string_run out line h.2
token_run w (mark m) out line h i = ap (run (Ok (fresh out line))) h ∙ sign_run m out line

-- ---- faults

opens_run : {w : Text} (out : List Place) (line : ℕ) → Opens w → (q : Pending) × (buffer : Text) × (run (Ok (fresh out line)) w ≡ by.at q buffer out line) × ((b : ℕ) → is_character b ≡ false → step_by b q buffer out line ≡ string_fault b out line) × (finish q buffer out line ≡ failed k.Unclosed out line)
opens_run out line (at_character {s = s} h) = (p.InText, s, body_run [] out line h, (λ b e. pick_false (b == 34) _ _ (no_quote b e) ∙ pick_false (b == 92) _ _ (no_slash b e) ∙ pick_false (is_character b) _ _ e), refl)
  where
    no_quote : (b : ℕ) → is_character b ≡ false → (b == 34) ≡ false
    no_quote b h = grind (arith, nat_tests)

    no_slash : (b : ℕ) → is_character b ≡ false → (b == 92) ≡ false
    no_slash b h = grind (arith, nat_tests)
opens_run out line (at_escaped {body = body} {s = s} h) =
    (p.InEscape, s, run_append body (92 ∷ []) (by.at p.InText [] out line) ∙ ap (λ r. run r (92 ∷ [])) (body_run [] out line h), (λ b e. pick_false (is_character b) _ _ e), refl)

abbrev Fails : Text → FaultKind → Type 0
Fails bs kind = (out : List Place) (line : ℕ) → at_end (run (Ok (fresh out line)) bs) ≡ failed kind out line

stops : (b : ℕ) (bs : Text) (r : Step) (kind : FaultKind) (out : List Place) (line : ℕ) → r ≡ stop kind out line → at_end (run r bs) ≡ failed kind out line
stops b bs r kind out line h = ap (λ x. at_end (run x bs)) h ∙ ap at_end (run_stop bs (failed kind out line))

no_sign : (o : Option Sign) → is_some o ≡ false → o ≡ None
no_sign None h = refl
no_sign (Some s) h = cc

unknown_fails : (b : ℕ) (bs : Text) → is_first b ≡ false → Fails (b ∷ bs) k.Character
unknown_fails b bs h out line =
    let g = or_false _ (is_some (sign_of b)) h in
    let a = or_false _ (b == 38) g.0 in
    let x = or_false _ (b == 35) a.0 in
    let s = or_false _ (is_blank b) x.0 in
    let q = or_false _ (b == 34) s.0 in
    let d = or_false (is_letter b) (is_ascii_digit b) q.0 in
    stops b bs _ k.Character out line
    (pick_false (is_letter b) _ _ d.0 ∙ pick_false (is_ascii_digit b) _ _ d.1 ∙ pick_false (b == 34) _ _ q.1 ∙ pick_false (is_blank b) _ _ s.1 ∙ pick_false (b == 35) _ _ x.1 ∙ pick_false (b == 38) _ _ a.1 ∙ ap (λ o. signed o out line) (no_sign (sign_of b) g.1))

ampersand_fails : (bs : Text) → is_at 38 bs ≡ false → Fails (38 ∷ bs) k.Character
ampersand_fails [] h out line = refl
ampersand_fails (b ∷ bs) h out line = stops b bs _ k.Character out line (pick_false (b == 38) _ _ h)

hash_fails : (bs : Text) → is_at_digit bs ≡ false → is_at 45 bs ≡ false → Fails (35 ∷ bs) k.Character
hash_fails [] h e out line = refl
hash_fails (b ∷ bs) h e out line = stops b bs _ k.Character out line (pick_false (is_ascii_digit b) _ _ h ∙ pick_false (b == 45) _ _ e)

minus_fails : (bs : Text) → is_at_digit bs ≡ false → Fails (35 ∷ 45 ∷ bs) k.Character
minus_fails [] h out line = refl
minus_fails (b ∷ bs) h out line = stops b bs _ k.Character out line (pick_false (is_ascii_digit b) _ _ h)

character_fails : (w : Text) (b : ℕ) (bs : Text) → Opens w → is_character b ≡ false → (b == 10) ≡ false → Fails (w ++ b ∷ bs) k.Character
character_fails w b bs o h e out line =
    let r = opens_run out line o in
    ap at_end (run_append w (b ∷ bs) (Ok (fresh out line)) ∙ ap (λ x. run x (b ∷ bs)) r.2)
    ∙ stops b bs _ k.Character out line (r.3 b h ∙ pick_false (b == 10) _ _ e)

string_fails : (w rest : Text) → Opens w → is_line_end rest ≡ true → Fails (w ++ rest) k.Unclosed
string_fails w [] o h out line = let r = opens_run out line o in ap (λ x. at_end (run (Ok (fresh out line)) x)) (append-nil w) ∙ ap at_end r.2 ∙ r.4
string_fails w (b ∷ bs) o h out line =
    let r = opens_run out line o in
    ap at_end (run_append w (b ∷ bs) (Ok (fresh out line)) ∙ ap (λ x. run x (b ∷ bs)) r.2)
    ∙ stops b bs _ k.Unclosed out line (r.3 b (ap is_character (eqb-true b 10 h)) ∙ pick_true (b == 10) _ _ h)

number_fails : (w rest : Text) (u : Token) → Spells w u → (IsInRange u → ⊥) → Fails (w ++ rest) k.Number
number_fails w rest (integer n) h large out line =
    ap at_end (run_append w rest (Ok (fresh out line)) ∙ ap (λ x. run x rest) (large_number w out line h.0 (λ le. large (omega (arith, h.1, le)))) ∙ run_stop rest (failed k.Number out line))
number_fails w rest (object m n) h large out line =
    ap at_end (run_append w rest (Ok (fresh out line)) ∙ ap (λ x. run x rest) (ap (run (Ok (fresh out line))) h.1 ∙ large_object h.0 m out line h.2 (λ le. large (subst (λ v. v ≤ max_object m) h.3 le))) ∙ run_stop rest (failed k.Number out line))
number_fails w rest (identifier n) h large out line = absurd (large tt)
number_fails w rest (keyword n) h large out line = absurd (large tt)
number_fails w rest (error_name n) h large out line = absurd (large tt)
number_fails w rest (t.text n) h large out line = absurd (large tt)
number_fails w rest (mark n) h large out line = absurd (large tt)

fails : {bs : Text} {kind : FaultKind} → IsBad bs kind → Fails bs kind
fails (unknown b bs h) = unknown_fails b bs h
fails (lone_ampersand bs h) = ampersand_fails bs h
fails (lone_hash bs h e) = hash_fails bs h e
fails (lone_minus bs h) = minus_fails bs h
fails (bad_character w b bs o h e) = character_fails w b bs o h e
fails (open_string w rest o h) = string_fails w rest o h
fails (too_large w rest u sp large l) = number_fails w rest u sp large

-- ---- whole texts

longer_none : (o : Option Sign) (m : Sign) (b : ℕ) → longer m b ≡ o → ((n : Sign) → longer m b ≡ Some n → ⊥) → o ≡ None
longer_none None m b e h = refl
longer_none (Some n) m b e h = absurd (h n e)

word_step : (w : Text) (u : Token) (b : ℕ) (rest : Text) (out : List Place) (line : ℕ) → is_name w ≡ true → word_of w ≡ u → IsLongest w (b ∷ rest) → step_by b p.InWord w out line ≡ begin b (with_token out u line) line
word_step w u b rest out line h e l =
    pick_false (is_word b) _ _ (cond_false (is_word b) (λ x. l b [] rest (word_of (w ++ b ∷ [])) refl (word_is (w ++ b ∷ []) (name_snoc w b h x)).spells))
    ∙ ap (λ v. begin b (with_token out v line) line) e

-- where no longer token begins, the next byte begins another
next_step : (w : Text) (u : Token) (b : ℕ) (rest : Text) (out : List Place) (line : ℕ) → Spells w u → IsLongest w (b ∷ rest) → step b (at_token w u out line) ≡ begin b (with_token out u line) line
next_step w (identifier n) b rest out line h l = word_step w (identifier n) b rest out line h.0 h.1 l
next_step w (keyword n) b rest out line h l = word_step w (keyword n) b rest out line h.0 h.1 l
next_step w (error_name n) b rest out line h l = word_step w (error_name n) b rest out line h.0 h.1 l
next_step w (integer n) b rest out line h l = pick_false (is_ascii_digit b) _ _ (cond_false (is_ascii_digit b) (λ e. l b [] rest (integer (value_from 0 (w ++ b ∷ []))) refl (digits_snoc w b h.0 e, refl)))
next_step w (object m n) b rest out line h l =
    pick_false (is_ascii_digit b) _ _ (cond_false (is_ascii_digit b) (λ e. l b [] rest (object m (value_from 0 (h.0 ++ b ∷ []))) refl
    (h.0 ++ b ∷ [], ap (λ x. x ++ b ∷ []) h.1 ∙ append_assoc (hash m) h.0 (b ∷ []), digits_snoc h.0 b h.2 e, refl)))
next_step w (t.text s) b rest out line h l = refl
next_step w (mark m) b rest out line h l = ap (λ o. after_sign o m b out line) (longer_none (longer m b) m b refl (λ n e. l b [] rest (mark n) refl (ap (λ x. x ++ b ∷ []) h ∙ longer_spelled b m n e)))

end_step : (w : Text) (u : Token) (out : List Place) (line : ℕ) → Spells w u → at_end (Ok (at_token w u out line)) ≡ ended (with_token out u line)
end_step w (identifier n) out line h = ap (λ v. ended (with_token out v line)) h.1
end_step w (keyword n) out line h = ap (λ v. ended (with_token out v line)) h.1
end_step w (error_name n) out line h = ap (λ v. ended (with_token out v line)) h.1
end_step w (integer n) out line h = refl
end_step w (object m n) out line h = refl
end_step w (t.text s) out line h = refl
end_step w (mark m) out line h = refl

-- after a token the rest is cut as if it began there
pub restart : (w : Text) (u : Token) (rest : Text) (out : List Place) (line : ℕ) → Spells w u → IsLongest w rest → at_end (run (Ok (at_token w u out line)) rest) ≡ at_end (run (Ok (fresh (with_token out u line) line)) rest)
restart w u [] out line h l = end_step w u out line h
restart w u (b ∷ rest) out line h l = ap (λ r. at_end (run r rest)) (next_step w u b rest out line h l)

blank_letter : (b : ℕ) → is_blank b ≡ true → is_letter b ≡ false
blank_letter b h = grind (arith, nat_tests)

blank_digit : (b : ℕ) → is_blank b ≡ true → is_ascii_digit b ≡ false
blank_digit b h = grind (arith, nat_tests)

blank_quote : (b : ℕ) → is_blank b ≡ true → (b == 34) ≡ false
blank_quote b h = grind (arith, nat_tests)

begin_blank : (b : ℕ) (out : List Place) (line : ℕ) → is_blank b ≡ true → begin b out line ≡ Ok (fresh out (line_after b line))
begin_blank b out line h = pick_false (is_letter b) _ _ (blank_letter b h) ∙ pick_false (is_ascii_digit b) _ _ (blank_digit b h) ∙ pick_false (b == 34) _ _ (blank_quote b h) ∙ pick_true (is_blank b) (Ok (fresh out (line_after b line))) _ h

abbrev cut_of : Ending → List Place → Cut
cut_of e ps = record { places = ps; ending = e }

complete : {line : ℕ} {bs : Text} {ps : List Place} {e : Ending} → IsText line bs ps e → (out : List Place) → at_end (run (Ok (fresh out line)) bs) ≡ cut_of e (out ++ ps)
complete end out = ap ended (sym (append-nil out))
complete {line} (bad {kind = kind} h) out = fails h out line ∙ ap (λ x. failed kind x line) (sym (append-nil out))
complete {line} (blank {bs = bs} b h r) out = ap (λ x. at_end (run x bs)) (begin_blank b out line h) ∙ complete r out
complete {line} (token {rest = rest} {ps = ps} {e = e} w u sp i l r) out =
    ap at_end (run_append w rest (Ok (fresh out line)) ∙ ap (λ x. run x rest) (token_run w u out line sp i))
    ∙ restart w u rest out line sp l ∙ complete r (with_token out u line) ∙ ap (cut_of e) (append_assoc out (record { token = u; line = line } ∷ []) ps)

-- each text is cut, into what it is
pub cuts : (bs : Text) (ps : List Place) (e : Ending) → IsText 1 bs ps e → cut bs ≡ cut_of e ps
cuts bs ps e h = complete h []
