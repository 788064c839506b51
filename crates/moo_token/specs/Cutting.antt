-- A machine that takes a byte at a time.
use Rattle.std.specs.Prelude.{◌≡◌, ℕ, ◌+◌, ◌-◌, ◌*◌, Bool, true, false, ◌==◌, nat_le, List, [], ◌∷◌, ◌++◌, Option, Some, None, Result, Ok, Err, if◌then◌else◌}
use Rattle.std.specs.Char.{is_ascii_digit}
use Rattle.spec_value.specs.Datum.{Text, is_character}
use Rattle.moo_token.specs.declared.token.Sign.{Sign}
use Rattle.moo_token.specs.declared.token.Sign.TheVariants as sign
use Rattle.moo_token.specs.declared.cutter.Pending.{Pending}
use Rattle.moo_token.specs.declared.cutter.Pending.TheVariants as p
use Rattle.moo_token.specs.declared.fault.FaultKind.{FaultKind}
use Rattle.moo_token.specs.declared.fault.FaultKind.TheVariants as k
use Rattle.moo_token.specs.Tokens as t
use Rattle.moo_token.specs.Tokens.{Token, word_of, is_letter, is_word, is_blank, sign_of, max_number, max_object, Place, line_after, Ending, whole, faulty}

-- the token that was begun, its bytes, what was put out, and the line
pub record State : Type 0 where
  pub pending : Pending
  pub buffer : Text
  pub out : List Place
  pub line : ℕ

-- the tokens of a text, and how it ends
pub record Cut : Type 0 where
  pub places : List Place
  pub ending : Ending

-- the machine goes on, or stops at a fault
abbrev pub Step : Type 0
Step = Result State Cut

abbrev pub at : Pending → Text → List Place → ℕ → Step
at pending buffer out line = Ok (record { pending = pending; buffer = buffer; out = out; line = line })

abbrev pub stop : FaultKind → List Place → ℕ → Step
stop kind out line = Err (record { places = out; ending = faulty kind line })

-- the sign of two bytes
abbrev pub longer : Sign → ℕ → Option Sign
longer sign.Dot b = if b == 46 then Some sign.DoubleDot else None
longer sign.Assign b = if b == 61 then Some sign.Equal else (if b == 62 then Some sign.Arrow else None)
longer sign.Not b = if b == 61 then Some sign.Differs else None
longer sign.Less b = if b == 61 then Some sign.LessOrEqual else None
longer sign.Greater b = if b == 61 then Some sign.GreaterOrEqual else None
longer sign.Bar b = if b == 124 then Some sign.Or else None
longer _ b = None

abbrev pub signed : Option Sign → List Place → ℕ → Step
signed None out line = stop k.Character out line
signed (Some s) out line = at (p.AfterSign s) [] out line

-- the first byte of a token, or a blank
abbrev pub begin : ℕ → List Place → ℕ → Step
begin b out line =
    if is_letter b then at p.InWord (b ∷ []) out line
    else (if is_ascii_digit b then at (p.InNumber (b - 48)) [] out line
    else (if b == 34 then at p.InText [] out line
    else (if is_blank b then at p.Nothing [] out (line_after b line)
    else (if b == 35 then at p.AfterHash [] out line
    else (if b == 38 then at p.AfterAmpersand [] out line
    else signed (sign_of b) out line)))))

abbrev pub with_token : List Place → Token → ℕ → List Place
with_token out token line = out ++ record { token = token; line = line } ∷ []

abbrev pub digit : ℕ → List Place → ℕ → Step
digit n out line = if nat_le n max_number then at (p.InNumber n) [] out line else stop k.Number out line

abbrev pub object_digit : Bool → ℕ → List Place → ℕ → Step
object_digit minus n out line = if nat_le n (max_object minus) then at (p.InObject minus n) [] out line else stop k.Number out line

abbrev pub in_number : ℕ → ℕ → List Place → ℕ → Step
in_number b n out line = if is_ascii_digit b then digit (10 * n + (b - 48)) out line else begin b (with_token out (t.integer n) line) line

abbrev pub in_object : ℕ → Bool → ℕ → List Place → ℕ → Step
in_object b minus n out line = if is_ascii_digit b then object_digit minus (10 * n + (b - 48)) out line else begin b (with_token out (t.object minus n) line) line

abbrev pub after_hash : ℕ → List Place → ℕ → Step
after_hash b out line =
    if is_ascii_digit b then at (p.InObject false (b - 48)) [] out line
    else (if b == 45 then at p.AfterMinus [] out line else stop k.Character out line)

abbrev pub after_minus : ℕ → List Place → ℕ → Step
after_minus b out line = if is_ascii_digit b then at (p.InObject true (b - 48)) [] out line else stop k.Character out line

abbrev pub after_ampersand : ℕ → List Place → ℕ → Step
after_ampersand b out line = if b == 38 then at (p.AfterSign sign.And) [] out line else stop k.Character out line

-- a byte that cannot stand in a string
abbrev pub string_fault : ℕ → List Place → ℕ → Step
string_fault b out line = if b == 10 then stop k.Unclosed out line else stop k.Character out line

abbrev pub in_text : ℕ → Text → List Place → ℕ → Step
in_text b buffer out line =
    if b == 34 then at p.AfterText buffer out line
    else (if b == 92 then at p.InEscape buffer out line
    else (if is_character b then at p.InText (buffer ++ b ∷ []) out line
    else string_fault b out line))

abbrev pub in_escape : ℕ → Text → List Place → ℕ → Step
in_escape b buffer out line = if is_character b then at p.InText (buffer ++ b ∷ []) out line else string_fault b out line

abbrev pub after_sign : Option Sign → Sign → ℕ → List Place → ℕ → Step
after_sign None s b out line = begin b (with_token out (t.mark s) line) line
after_sign (Some s) _ b out line = at (p.AfterSign s) [] out line

abbrev pub step_by : ℕ → Pending → Text → List Place → ℕ → Step
step_by b p.Nothing buffer out line = begin b out line
step_by b p.InWord buffer out line = if is_word b then at p.InWord (buffer ++ b ∷ []) out line else begin b (with_token out (word_of buffer) line) line
step_by b (p.InNumber n) buffer out line = in_number b n out line
step_by b p.AfterHash buffer out line = after_hash b out line
step_by b p.AfterMinus buffer out line = after_minus b out line
step_by b (p.InObject minus n) buffer out line = in_object b minus n out line
step_by b p.InText buffer out line = in_text b buffer out line
step_by b p.InEscape buffer out line = in_escape b buffer out line
step_by b p.AfterText buffer out line = begin b (with_token out (t.text buffer) line) line
step_by b p.AfterAmpersand buffer out line = after_ampersand b out line
step_by b (p.AfterSign s) buffer out line = after_sign (longer s b) s b out line

abbrev pub step : ℕ → State → Step
step b s = step_by b s.pending s.buffer s.out s.line

abbrev pub ended : List Place → Cut
ended out = record { places = out; ending = whole }

abbrev pub failed : FaultKind → List Place → ℕ → Cut
failed kind out line = record { places = out; ending = faulty kind line }

-- the end of the text
abbrev pub finish : Pending → Text → List Place → ℕ → Cut
finish p.Nothing buffer out line = ended out
finish p.InWord buffer out line = ended (with_token out (word_of buffer) line)
finish (p.InNumber n) buffer out line = ended (with_token out (t.integer n) line)
finish p.AfterHash buffer out line = failed k.Character out line
finish p.AfterMinus buffer out line = failed k.Character out line
finish (p.InObject minus n) buffer out line = ended (with_token out (t.object minus n) line)
finish p.InText buffer out line = failed k.Unclosed out line
finish p.InEscape buffer out line = failed k.Unclosed out line
finish p.AfterText buffer out line = ended (with_token out (t.text buffer) line)
finish p.AfterAmpersand buffer out line = failed k.Character out line
finish (p.AfterSign s) buffer out line = ended (with_token out (t.mark s) line)

-- only a word or a string keeps bytes
abbrev pub FitsBy : Pending → Text → Type 0
FitsBy p.InWord buffer = Unit {0}
FitsBy p.InText buffer = Unit {0}
FitsBy p.InEscape buffer = Unit {0}
FitsBy p.AfterText buffer = Unit {0}
FitsBy _ buffer = buffer ≡ []

abbrev pub Fits : State → Type 0
Fits s = FitsBy s.pending s.buffer

abbrev pub and_step : ℕ → Step → Step
and_step b (Ok s) = step b s
and_step b (Err c) = Err c

abbrev pub run : Step → Text → Step
run r [] = r
run r (b ∷ bs) = run (and_step b r) bs

abbrev pub at_end : Step → Cut
at_end (Ok s) = finish s.pending s.buffer s.out s.line
at_end (Err c) = c

abbrev pub fresh : List Place → ℕ → State
fresh out line = record { pending = p.Nothing; buffer = []; out = out; line = line }

abbrev pub cut : Text → Cut
cut bs = at_end (run (Ok (fresh [] 1)) bs)
