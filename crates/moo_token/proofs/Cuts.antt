-- What the machine cuts is what the text is.
use Rattle.std.proofs.Common.{◌≡◌, ℕ, ◌+◌, ◌-◌, ◌*◌, ◌≤◌, Bool, true, false, List, [], ◌∷◌, ◌++◌, Option, Some, None, Ok, Err, refl, sym, ap, ◌∙◌, subst, arith, append_assoc, append-nil}
use Rattle.std.specs.Prelude.{◌==◌, nat_le}
use Rattle.std.proofs.lemmas.Bool.{eqb-true}
use Rattle.std.specs.Char.{is_ascii_digit}
use Rattle.spec_value.specs.Datum.{Text, is_character}
use Rattle.moo_token.specs.declared.token.Sign.{Sign}
use Rattle.moo_token.specs.declared.cutter.Pending.{Pending}
use Rattle.moo_token.specs.declared.cutter.Pending.TheVariants as p
use Rattle.moo_token.specs.declared.fault.FaultKind.{FaultKind}
use Rattle.moo_token.specs.declared.fault.FaultKind.TheVariants as k
use Rattle.moo_token.specs.Tokens as t
use Rattle.moo_token.specs.Tokens.{Token, is_letter, is_word, is_name, is_digits, value_from, word_of, is_blank, sign_of, hash, max_number, max_object, Escapes, none, spelling, Spells, IsInRange, IsLongest, Place, line_after, Ending, whole, faulty, is_line_end, Opens, at_character, at_escaped, IsBad, unknown, lone_ampersand, lone_hash, lone_minus, bad_character, open_string, IsText, end, bad, blank, token}
use Rattle.moo_token.specs.Cutting.{State, Cut, Step, longer, signed, begin, with_token, in_number, in_object, after_hash, after_minus, after_ampersand, string_fault, in_text, in_escape, after_sign, step_by, ended, failed, finish, run, at_end, fresh, cut, stop}
use Rattle.moo_token.proofs.Lists.{by_cond, both_true, name_snoc, digits_snoc, value_snoc, escapes_snoc, escapes_escaped, plain_is}
use Rattle.moo_token.proofs.Signs.{sign_spelled, longer_spelled}
use Rattle.moo_token.proofs.Longest.{word_is, at_end_longest, word_ends, number_ends, object_ends, text_ends, sign_ends}
use Rattle.moo_token.proofs.Bad.{first_false, number_bad, object_bad, le_of, not_le_of, digit_small}

-- the bytes of the token that was begun
abbrev pub Holds : Pending → Text → Text → Type 0
Holds p.Nothing buffer w = w ≡ []
Holds p.InWord buffer w = (is_name w ≡ true) × (buffer ≡ w)
Holds (p.InNumber n) buffer w = Spells w (t.integer n) × (n ≤ max_number)
Holds p.AfterHash buffer w = w ≡ 35 ∷ []
Holds p.AfterMinus buffer w = w ≡ 35 ∷ 45 ∷ []
Holds (p.InObject m n) buffer w = Spells w (t.object m n) × (n ≤ max_object m)
Holds p.InText buffer w = (body : Text) × (w ≡ 34 ∷ body) × Escapes body buffer
Holds p.InEscape buffer w = (body : Text) × (w ≡ 34 ∷ (body ++ 92 ∷ [])) × Escapes body buffer
Holds p.AfterText buffer w = Spells w (t.text buffer)
Holds p.AfterAmpersand buffer w = w ≡ 38 ∷ []
Holds (p.AfterSign m) buffer w = Spells w (t.mark m)

abbrev pub IsCut : Text → ℕ → List Place → Cut → Type 0
IsCut bs line out r = (ps : List Place) × (e : Ending) × (r ≡ record { places = out ++ ps; ending = e }) × IsText line bs ps e

pub run_stop : (bs : Text) (c : Cut) → run (Err c) bs ≡ Err c
run_stop [] c = refl
run_stop (b ∷ bs) c = run_stop bs c

failed_cut : (bs : Text) (line : ℕ) (out : List Place) (kind : FaultKind) → IsBad bs kind → IsCut bs line out (failed kind out line)
failed_cut bs line out kind h = ([], faulty kind line, ap (λ x. failed kind x line) (sym (append-nil out)), bad h)

stop_cut : (rest bs : Text) (line : ℕ) (out : List Place) (kind : FaultKind) → IsBad bs kind → IsCut bs line out (at_end (run (stop kind out line) rest))
stop_cut rest bs line out kind h = subst (λ r. IsCut bs line out (at_end r)) (sym (run_stop rest (failed kind out line))) (failed_cut bs line out kind h)

abbrev cut_of : Ending → List Place → Cut
cut_of e ps = record { places = ps; ending = e }

-- a token before what was cut
before : (w : Text) (u : Token) (line : ℕ) (rest : Text) (out : List Place) (r : Cut) → Spells w u → IsInRange u → IsLongest w rest → IsCut rest line (with_token out u line) r → IsCut (w ++ rest) line out r
before w u line rest out r sp range longest c =
    (record { token = u; line = line } ∷ c.0, c.1, c.2 ∙ ap (cut_of c.1) (append_assoc out (record { token = u; line = line } ∷ []) c.0), token w u sp range longest c.3)

last_token : (w : Text) (u : Token) (line : ℕ) (out : List Place) → Spells w u → IsInRange u → IsCut (w ++ []) line out (ended (with_token out u line))
last_token w u line out sp range = before w u line [] out (ended (with_token out u line)) sp range (at_end_longest w) ([], whole, ap ended (sym (append-nil (with_token out u line))), end)

abbrev Goes : Text → Type 0
Goes rest = (s : State) (w : Text) → Holds s.pending s.buffer w → IsCut (w ++ rest) s.line s.out (at_end (run (Ok s) rest))

blank_cut : (b : ℕ) (rest : Text) (line : ℕ) (out : List Place) (r : Cut) → is_blank b ≡ true → IsCut rest (line_after b line) out r → IsCut (b ∷ rest) line out r
blank_cut b rest line out r h c = (c.0, c.1, c.2, blank b h c.3)

signed_cut : (rest : Text) → Goes rest → (b : ℕ) (out : List Place) (line : ℕ) (o : Option Sign) → sign_of b ≡ o → (sign_of b ≡ None → IsBad (b ∷ rest) k.Character) → IsCut (b ∷ rest) line out (at_end (run (signed o out line) rest))
signed_cut rest go b out line None e h = stop_cut rest (b ∷ rest) line out k.Character (h e)
signed_cut rest go b out line (Some m) e h = go _ (b ∷ []) (sign_spelled b m e)

begin_cut : (rest : Text) → Goes rest → (b : ℕ) (out : List Place) (line : ℕ) → IsCut (b ∷ rest) line out (at_end (run (begin b out line) rest))
begin_cut rest go b out line =
    let P : Step → Type 0 = λ r. IsCut (b ∷ rest) line out (at_end (run r rest)) in
    by_cond P (is_letter b) _ _ (λ h. go _ (b ∷ []) (both_true _ _ h refl, refl)) (λ l.
    by_cond P (is_ascii_digit b) _ _ (λ h. go _ (b ∷ []) ((both_true _ _ h refl, omega arith), omega (arith, digit_small b h))) (λ d.
    by_cond P (b == 34) _ _ (λ h. go _ (b ∷ []) ([], ap (λ x. x ∷ []) (eqb-true b 34 h), none)) (λ q.
    by_cond P (is_blank b) _ _ (λ h. blank_cut b rest line out _ h (go (fresh out (line_after b line)) [] refl)) (λ s.
    by_cond P (b == 35) _ _ (λ h. go _ (b ∷ []) (ap (λ x. x ∷ []) (eqb-true b 35 h))) (λ x.
    by_cond P (b == 38) _ _ (λ h. go _ (b ∷ []) (ap (λ x. x ∷ []) (eqb-true b 38 h))) (λ a.
    signed_cut rest go b out line (sign_of b) refl (λ g. unknown b rest (first_false b l d q s x a g))))))))

-- one byte more of the same token
same_cut : (w : Text) (b : ℕ) (rest : Text) (line : ℕ) (out : List Place) (r : Cut) → IsCut ((w ++ b ∷ []) ++ rest) line out r → IsCut (w ++ b ∷ rest) line out r
same_cut w b rest line out r c = subst (λ bs. IsCut bs line out r) (append_assoc w (b ∷ []) rest) c

-- a byte that is a fault after those of the token
fault_cut : (w : Text) (b : ℕ) (rest : Text) (line : ℕ) (out : List Place) (kind : FaultKind) → IsBad ((w ++ b ∷ []) ++ rest) kind → IsCut (w ++ b ∷ rest) line out (at_end (run (stop kind out line) rest))
fault_cut w b rest line out kind h = same_cut w b rest line out _ (stop_cut rest ((w ++ b ∷ []) ++ rest) line out kind h)

string_cut : (rest : Text) (b : ℕ) (out : List Place) (line : ℕ) (w : Text) → Opens w → is_character b ≡ false → IsCut (w ++ b ∷ rest) line out (at_end (run (string_fault b out line) rest))
string_cut rest b out line w o h =
    by_cond (λ r. IsCut (w ++ b ∷ rest) line out (at_end (run r rest))) (b == 10) _ _
    (λ e. stop_cut rest (w ++ b ∷ rest) line out k.Unclosed (open_string w (b ∷ rest) o e))
    (λ e. stop_cut rest (w ++ b ∷ rest) line out k.Character (bad_character w b rest o h e))

opens : (buffer w : Text) → Holds p.InText buffer w → Opens w
opens buffer w h = subst Opens (sym h.1) (at_character h.2)

opens_escaped : (buffer w : Text) → Holds p.InEscape buffer w → Opens w
opens_escaped buffer w h = subst Opens (sym h.1) (at_escaped h.2)

text_cut : (rest : Text) → Goes rest → (b : ℕ) (buffer : Text) (out : List Place) (line : ℕ) (w : Text) → Holds p.InText buffer w → IsCut (w ++ b ∷ rest) line out (at_end (run (in_text b buffer out line) rest))
text_cut rest go b buffer out line w h =
    let P : Step → Type 0 = λ r. IsCut (w ++ b ∷ rest) line out (at_end (run r rest)) in
    by_cond P (b == 34) _ _ (λ e. same_cut w b rest line out _ (go _ (w ++ b ∷ []) (h.0, ap (λ x. x ++ b ∷ []) h.1 ∙ ap (λ x. 34 ∷ (h.0 ++ x ∷ [])) (eqb-true b 34 e), h.2))) (λ q.
    by_cond P (b == 92) _ _ (λ e. same_cut w b rest line out _ (go _ (w ++ b ∷ []) (h.0, ap (λ x. x ++ b ∷ []) h.1 ∙ ap (λ x. 34 ∷ (h.0 ++ x ∷ [])) (eqb-true b 92 e), h.2))) (λ e.
    by_cond P (is_character b) _ _ (λ c. same_cut w b rest line out _ (go _ (w ++ b ∷ []) (h.0 ++ b ∷ [], ap (λ x. x ++ b ∷ []) h.1, escapes_snoc b h.2 (plain_is b c q e)))) (λ c.
    string_cut rest b out line w (opens buffer w h) c)))

escape_cut : (rest : Text) → Goes rest → (b : ℕ) (buffer : Text) (out : List Place) (line : ℕ) (w : Text) → Holds p.InEscape buffer w → IsCut (w ++ b ∷ rest) line out (at_end (run (in_escape b buffer out line) rest))
escape_cut rest go b buffer out line w h =
    by_cond (λ r. IsCut (w ++ b ∷ rest) line out (at_end (run r rest))) (is_character b) _ _
    (λ c. same_cut w b rest line out _ (go _ (w ++ b ∷ []) ((h.0 ++ 92 ∷ []) ++ b ∷ [], ap (λ x. x ++ b ∷ []) h.1, escapes_escaped b h.2 c)))
    (λ c. string_cut rest b out line w (opens_escaped buffer w h) c)

more_digits : (w : Text) (b n : ℕ) → value_from 0 w ≡ n → value_from 0 (w ++ b ∷ []) ≡ 10 * n + (b - 48)
more_digits w b n h = value_snoc 0 w b ∙ ap (λ x. 10 * x + (b - 48)) h

number_cut : (rest : Text) → Goes rest → (b n : ℕ) (out : List Place) (line : ℕ) (w : Text) → Holds (p.InNumber n) [] w → IsCut (w ++ b ∷ rest) line out (at_end (run (in_number b n out line) rest))
number_cut rest go b n out line w h =
    let P : Step → Type 0 = λ r. IsCut (w ++ b ∷ rest) line out (at_end (run r rest)) in
    let m : ℕ = 10 * n + (b - 48) in
    by_cond P (is_ascii_digit b) _ _ (λ d. by_cond P (nat_le m max_number) _ _
    (λ e. same_cut w b rest line out _ (go _ (w ++ b ∷ []) ((digits_snoc w b h.0.0 d, more_digits w b n h.0.1), le_of m max_number e)))
    (λ e. fault_cut w b rest line out k.Number (number_bad (w ++ b ∷ []) m rest (digits_snoc w b h.0.0 d) (more_digits w b n h.0.1) (not_le_of m max_number e))))
    (λ d. before w (t.integer n) line (b ∷ rest) out _ h.0 h.1 (number_ends w n b rest h.0 d) (begin_cut rest go b (with_token out (t.integer n) line) line))

object_spelled : (w : Text) (m : Bool) (n b : ℕ) → Spells w (t.object m n) → is_ascii_digit b ≡ true → Spells (w ++ b ∷ []) (t.object m (10 * n + (b - 48)))
object_spelled w m n b h d = (h.0 ++ b ∷ [], ap (λ x. x ++ b ∷ []) h.1 ∙ append_assoc (hash m) h.0 (b ∷ []), digits_snoc h.0 b h.2 d, more_digits h.0 b n h.3)

object_cut : (rest : Text) → Goes rest → (b : ℕ) (minus : Bool) (n : ℕ) (out : List Place) (line : ℕ) (w : Text) → Holds (p.InObject minus n) [] w → IsCut (w ++ b ∷ rest) line out (at_end (run (in_object b minus n out line) rest))
object_cut rest go b minus n out line w h =
    let P : Step → Type 0 = λ r. IsCut (w ++ b ∷ rest) line out (at_end (run r rest)) in
    let m : ℕ = 10 * n + (b - 48) in
    by_cond P (is_ascii_digit b) _ _ (λ d. let s = object_spelled w minus n b h.0 d in by_cond P (nat_le m (max_object minus)) _ _
    (λ e. same_cut w b rest line out _ (go _ (w ++ b ∷ []) (s, le_of m (max_object minus) e)))
    (λ e. fault_cut w b rest line out k.Number (object_bad (w ++ b ∷ []) minus s.0 m rest s.1 s.2 s.3 (not_le_of m (max_object minus) e))))
    (λ d. before w (t.object minus n) line (b ∷ rest) out _ h.0 h.1 (object_ends w minus n b rest h.0 d) (begin_cut rest go b (with_token out (t.object minus n) line) line))

small_object : (minus : Bool) (b : ℕ) → is_ascii_digit b ≡ true → b - 48 ≤ max_object minus
small_object false b d = omega (arith, digit_small b d)
small_object true b d = omega (arith, digit_small b d)

first_object : (minus : Bool) (b : ℕ) → is_ascii_digit b ≡ true → Holds (p.InObject minus (b - 48)) [] (hash minus ++ b ∷ [])
first_object minus b d = ((b ∷ [], refl, both_true _ _ d refl, omega arith), small_object minus b d)

hash_cut : (rest : Text) → Goes rest → (b : ℕ) (out : List Place) (line : ℕ) → IsCut (35 ∷ b ∷ rest) line out (at_end (run (after_hash b out line) rest))
hash_cut rest go b out line =
    let P : Step → Type 0 = λ r. IsCut (35 ∷ b ∷ rest) line out (at_end (run r rest)) in
    by_cond P (is_ascii_digit b) _ _ (λ d. go _ (35 ∷ b ∷ []) (first_object false b d)) (λ d.
    by_cond P (b == 45) _ _ (λ e. go _ (35 ∷ b ∷ []) (ap (λ x. 35 ∷ x ∷ []) (eqb-true b 45 e)))
    (λ e. stop_cut rest (35 ∷ b ∷ rest) line out k.Character (lone_hash (b ∷ rest) d e)))

minus_cut : (rest : Text) → Goes rest → (b : ℕ) (out : List Place) (line : ℕ) → IsCut (35 ∷ 45 ∷ b ∷ rest) line out (at_end (run (after_minus b out line) rest))
minus_cut rest go b out line =
    by_cond (λ r. IsCut (35 ∷ 45 ∷ b ∷ rest) line out (at_end (run r rest))) (is_ascii_digit b) _ _
    (λ d. go _ (35 ∷ 45 ∷ b ∷ []) (first_object true b d))
    (λ d. stop_cut rest (35 ∷ 45 ∷ b ∷ rest) line out k.Character (lone_minus (b ∷ rest) d))

ampersand_cut : (rest : Text) → Goes rest → (b : ℕ) (out : List Place) (line : ℕ) → IsCut (38 ∷ b ∷ rest) line out (at_end (run (after_ampersand b out line) rest))
ampersand_cut rest go b out line =
    by_cond (λ r. IsCut (38 ∷ b ∷ rest) line out (at_end (run r rest))) (b == 38) _ _
    (λ e. go _ (38 ∷ b ∷ []) (ap (λ x. 38 ∷ x ∷ []) (eqb-true b 38 e)))
    (λ e. stop_cut rest (38 ∷ b ∷ rest) line out k.Character (lone_ampersand (b ∷ rest) e))

sign_cut : (rest : Text) → Goes rest → (b : ℕ) (m : Sign) (o : Option Sign) (out : List Place) (line : ℕ) (w : Text) → longer m b ≡ o → Spells w (t.mark m) → IsCut (w ++ b ∷ rest) line out (at_end (run (after_sign o m b out line) rest))
sign_cut rest go b m None out line w e h = before w (t.mark m) line (b ∷ rest) out _ h tt (sign_ends w m b rest h e) (begin_cut rest go b (with_token out (t.mark m) line) line)
sign_cut rest go b m (Some n) out line w e h = same_cut w b rest line out _ (go _ (w ++ b ∷ []) (ap (λ x. x ++ b ∷ []) h ∙ longer_spelled b m n e))

word_cut : (rest : Text) → Goes rest → (b : ℕ) (out : List Place) (line : ℕ) (w : Text) → is_name w ≡ true → IsCut (w ++ b ∷ rest) line out (at_end (run (step_by b p.InWord w out line) rest))
word_cut rest go b out line w h =
    let i = word_is w h in
    by_cond (λ r. IsCut (w ++ b ∷ rest) line out (at_end (run r rest))) (is_word b) _ _
    (λ e. same_cut w b rest line out _ (go _ (w ++ b ∷ []) (name_snoc w b h e, refl)))
    (λ e. before w (word_of w) line (b ∷ rest) out _ i.spells i.range (word_ends w (word_of w) b rest i.spells i.class e) (begin_cut rest go b (with_token out (word_of w) line) line))

at_buffer : (P : Text → Type 0) (buffer w : Text) → buffer ≡ w → P w → P buffer
at_buffer P buffer w e h = subst P (sym e) h

step_cut : (rest : Text) → Goes rest → (b : ℕ) (q : Pending) (buffer : Text) (out : List Place) (line : ℕ) (w : Text) → Holds q buffer w → IsCut (w ++ b ∷ rest) line out (at_end (run (step_by b q buffer out line) rest))
step_cut rest go b p.Nothing buffer out line w h = subst (λ x. IsCut (x ++ b ∷ rest) line out (at_end (run (begin b out line) rest))) (sym h) (begin_cut rest go b out line)
step_cut rest go b p.InWord buffer out line w h = at_buffer (λ x. IsCut (w ++ b ∷ rest) line out (at_end (run (step_by b p.InWord x out line) rest))) buffer w h.1 (word_cut rest go b out line w h.0)
step_cut rest go b (p.InNumber n) buffer out line w h = number_cut rest go b n out line w h
step_cut rest go b p.AfterHash buffer out line w h = subst (λ x. IsCut (x ++ b ∷ rest) line out (at_end (run (after_hash b out line) rest))) (sym h) (hash_cut rest go b out line)
step_cut rest go b p.AfterMinus buffer out line w h = subst (λ x. IsCut (x ++ b ∷ rest) line out (at_end (run (after_minus b out line) rest))) (sym h) (minus_cut rest go b out line)
step_cut rest go b (p.InObject m n) buffer out line w h = object_cut rest go b m n out line w h
step_cut rest go b p.InText buffer out line w h = text_cut rest go b buffer out line w h
step_cut rest go b p.InEscape buffer out line w h = escape_cut rest go b buffer out line w h
step_cut rest go b p.AfterText buffer out line w h = before w (t.text buffer) line (b ∷ rest) out _ h tt (text_ends w buffer (b ∷ rest) h) (begin_cut rest go b (with_token out (t.text buffer) line) line)
step_cut rest go b p.AfterAmpersand buffer out line w h = subst (λ x. IsCut (x ++ b ∷ rest) line out (at_end (run (after_ampersand b out line) rest))) (sym h) (ampersand_cut rest go b out line)
step_cut rest go b (p.AfterSign m) buffer out line w h = sign_cut rest go b m (longer m b) out line w refl h

word_end : (out : List Place) (line : ℕ) (w : Text) → is_name w ≡ true → IsCut (w ++ []) line out (ended (with_token out (word_of w) line))
word_end out line w h = let i = word_is w h in last_token w (word_of w) line out i.spells i.range

fault_end : (w v : Text) (out : List Place) (line : ℕ) (kind : FaultKind) → w ≡ v → IsBad (v ++ []) kind → IsCut (w ++ []) line out (failed kind out line)
fault_end w v out line kind e h = subst (λ x. IsCut (x ++ []) line out (failed kind out line)) (sym e) (failed_cut (v ++ []) line out kind h)

end_cut : (q : Pending) (buffer : Text) (out : List Place) (line : ℕ) (w : Text) → Holds q buffer w → IsCut (w ++ []) line out (finish q buffer out line)
end_cut p.Nothing buffer out line w h = subst (λ x. IsCut (x ++ []) line out (ended out)) (sym h) ([], whole, ap ended (sym (append-nil out)), end)
end_cut p.InWord buffer out line w h = at_buffer (λ x. IsCut (w ++ []) line out (ended (with_token out (word_of x) line))) buffer w h.1 (word_end out line w h.0)
end_cut (p.InNumber n) buffer out line w h = last_token w (t.integer n) line out h.0 h.1
end_cut p.AfterHash buffer out line w h = fault_end w (35 ∷ []) out line k.Character h (lone_hash [] refl refl)
end_cut p.AfterMinus buffer out line w h = fault_end w (35 ∷ 45 ∷ []) out line k.Character h (lone_minus [] refl)
end_cut (p.InObject m n) buffer out line w h = last_token w (t.object m n) line out h.0 h.1
end_cut p.InText buffer out line w h = failed_cut (w ++ []) line out k.Unclosed (open_string w [] (opens buffer w h) refl)
end_cut p.InEscape buffer out line w h = failed_cut (w ++ []) line out k.Unclosed (open_string w [] (opens_escaped buffer w h) refl)
end_cut p.AfterText buffer out line w h = last_token w (t.text buffer) line out h tt
end_cut p.AfterAmpersand buffer out line w h = fault_end w (38 ∷ []) out line k.Character h (lone_ampersand [] refl)
end_cut (p.AfterSign m) buffer out line w h = last_token w (t.mark m) line out h tt

goes : (rest : Text) → Goes rest
goes [] s w h = end_cut s.pending s.buffer s.out s.line w h
goes (b ∷ rest) s w h = step_cut rest (goes rest) b s.pending s.buffer s.out s.line w h

-- what is cut is the text's tokens
pub cut_is : (bs : Text) → IsCut bs 1 [] (cut bs)
cut_is bs = goes bs (fresh [] 1) [] refl
