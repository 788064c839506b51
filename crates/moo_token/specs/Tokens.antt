-- The tokens of a program (Programmer's Manual, "The MOO Programming Language"), and how each is spelled.
use Rattle.std.specs.Prelude.{◌≡◌, ℕ, ◌+◌, ◌-◌, ◌*◌, ◌≤◌, Bool, true, false, not, ◌&&◌, ◌||◌, ◌==◌, List, [], ◌∷◌, ◌++◌, map, Option, Some, None, is_some, nat_le, if◌then◌else◌, codes}
use Rattle.std.specs.Char.{is_ascii_digit, is_ascii_alphabetic}
use Rattle.std.specs.List.{list_all}
use Rattle.spec_value.specs.Datum.{Text, is_character, is_text, fold_case, same_text}
use Rattle.moo_token.specs.declared.token.Sign.{Sign}
use Rattle.moo_token.specs.declared.token.Sign.TheVariants as sign
use Rattle.moo_token.specs.declared.token.Keyword.{Keyword}
use Rattle.moo_token.specs.declared.token.Keyword.TheVariants as word
use Rattle.moo_token.specs.declared.token.ErrorName.{ErrorName}
use Rattle.moo_token.specs.declared.token.ErrorName.TheVariants as error
use Rattle.moo_token.specs.declared.fault.FaultKind.{FaultKind}
use Rattle.moo_token.specs.declared.fault.FaultKind.TheVariants as fault

-- An identifier and a string are kept as they are written; an object has a `-` or none, and its digits' value.
pub data Token : Type 0 where
  identifier : Text → Token
  keyword : Keyword → Token
  error_name : ErrorName → Token
  integer : ℕ → Token
  object : Bool → ℕ → Token
  text : Text → Token
  mark : Sign → Token

-- ---- words

abbrev pub is_letter : ℕ → Bool
is_letter b = is_ascii_alphabetic b || b == 95

abbrev pub is_word : ℕ → Bool
is_word b = is_letter b || is_ascii_digit b

abbrev pub is_name : Text → Bool
is_name [] = false
is_name (b ∷ bs) = is_letter b && list_all is_word bs

-- of a word in lower case
abbrev pub keyword_of : Text → Option Keyword
keyword_of w =
    if same_text w (codes "if") then Some word.If
    else (if same_text w (codes "else") then Some word.Else
    else (if same_text w (codes "elseif") then Some word.ElseIf
    else (if same_text w (codes "endif") then Some word.EndIf
    else (if same_text w (codes "for") then Some word.For
    else (if same_text w (codes "in") then Some word.In
    else (if same_text w (codes "endfor") then Some word.EndFor
    else (if same_text w (codes "while") then Some word.While
    else (if same_text w (codes "endwhile") then Some word.EndWhile
    else (if same_text w (codes "break") then Some word.Break
    else (if same_text w (codes "continue") then Some word.Continue
    else (if same_text w (codes "return") then Some word.Return
    else (if same_text w (codes "fork") then Some word.Fork
    else (if same_text w (codes "endfork") then Some word.EndFork
    else (if same_text w (codes "try") then Some word.Try
    else (if same_text w (codes "except") then Some word.Except
    else (if same_text w (codes "finally") then Some word.Finally
    else (if same_text w (codes "endtry") then Some word.EndTry
    else (if same_text w (codes "any") then Some word.Any
    else None))))))))))))))))))

abbrev pub error_of : Text → Option ErrorName
error_of w =
    if same_text w (codes "e_none") then Some error.NoError
    else (if same_text w (codes "e_type") then Some error.TypeMismatch
    else (if same_text w (codes "e_div") then Some error.ZeroDivision
    else (if same_text w (codes "e_perm") then Some error.PermissionDenied
    else (if same_text w (codes "e_propnf") then Some error.PropertyNotFound
    else (if same_text w (codes "e_verbnf") then Some error.VerbNotFound
    else (if same_text w (codes "e_varnf") then Some error.VariableNotFound
    else (if same_text w (codes "e_invind") then Some error.InvalidIndirection
    else (if same_text w (codes "e_recmove") then Some error.RecursiveMove
    else (if same_text w (codes "e_maxrec") then Some error.TooManyCalls
    else (if same_text w (codes "e_range") then Some error.RangeError
    else (if same_text w (codes "e_args") then Some error.WrongArgumentCount
    else (if same_text w (codes "e_nacc") then Some error.MoveRefused
    else (if same_text w (codes "e_invarg") then Some error.InvalidArgument
    else (if same_text w (codes "e_quota") then Some error.LimitExceeded
    else (if same_text w (codes "e_float") then Some error.FloatError
    else None)))))))))))))))

abbrev pub error_or_identifier : Option ErrorName → Text → Token
error_or_identifier (Some e) w = error_name e
error_or_identifier None w = identifier w

abbrev pub keyword_or_other : Option Keyword → Text → Token
keyword_or_other (Some k) w = keyword k
keyword_or_other None w = error_or_identifier (error_of (fold_case w)) w

-- the case of a word does not matter for what kind of word it is
abbrev pub word_of : Text → Token
word_of w = keyword_or_other (keyword_of (fold_case w)) w

-- ---- numbers

abbrev pub is_digits : Text → Bool
is_digits [] = false
is_digits (b ∷ bs) = is_ascii_digit b && list_all is_ascii_digit bs

abbrev pub value_from : ℕ → Text → ℕ
value_from n [] = n
value_from n (b ∷ bs) = value_from (10 * n + (b - 48)) bs

abbrev pub hash : Bool → Text
hash false = 35 ∷ []
hash true = 35 ∷ 45 ∷ []

-- the last is read as the least integer
abbrev pub max_number : ℕ
max_number = 2147483648

abbrev pub max_object : Bool → ℕ
max_object false = 2147483647
max_object true = 2147483648

-- ---- strings

abbrev pub is_plain : ℕ → Bool
is_plain b = is_character b && not (b == 34 || b == 92)

-- between the quotes: a backslash stands for the character after it
pub data Escapes : Text → Text → Type 0 where
  none : Escapes [] []
  plain : {bs s : Text} (b : ℕ) → is_plain b ≡ true → Escapes bs s → Escapes (b ∷ bs) (b ∷ s)
  escaped : {bs s : Text} (b : ℕ) → is_character b ≡ true → Escapes bs s → Escapes (92 ∷ b ∷ bs) (b ∷ s)

-- ---- signs

abbrev pub spelling : Sign → Text
spelling sign.OpenParenthesis = 40 ∷ []
spelling sign.CloseParenthesis = 41 ∷ []
spelling sign.OpenBracket = 91 ∷ []
spelling sign.CloseBracket = 93 ∷ []
spelling sign.OpenBrace = 123 ∷ []
spelling sign.CloseBrace = 125 ∷ []
spelling sign.Semicolon = 59 ∷ []
spelling sign.Comma = 44 ∷ []
spelling sign.Colon = 58 ∷ []
spelling sign.Dot = 46 ∷ []
spelling sign.Assign = 61 ∷ []
spelling sign.Not = 33 ∷ []
spelling sign.Plus = 43 ∷ []
spelling sign.Minus = 45 ∷ []
spelling sign.Times = 42 ∷ []
spelling sign.Slash = 47 ∷ []
spelling sign.Percent = 37 ∷ []
spelling sign.Caret = 94 ∷ []
spelling sign.Less = 60 ∷ []
spelling sign.Greater = 62 ∷ []
spelling sign.Bar = 124 ∷ []
spelling sign.Question = 63 ∷ []
spelling sign.Dollar = 36 ∷ []
spelling sign.At = 64 ∷ []
spelling sign.Backquote = 96 ∷ []
spelling sign.Quote = 39 ∷ []
spelling sign.DoubleDot = 46 ∷ 46 ∷ []
spelling sign.Equal = 61 ∷ 61 ∷ []
spelling sign.Arrow = 61 ∷ 62 ∷ []
spelling sign.Differs = 33 ∷ 61 ∷ []
spelling sign.LessOrEqual = 60 ∷ 61 ∷ []
spelling sign.GreaterOrEqual = 62 ∷ 61 ∷ []
spelling sign.And = 38 ∷ 38 ∷ []
spelling sign.Or = 124 ∷ 124 ∷ []

-- the sign that a byte is alone
abbrev pub sign_of : ℕ → Option Sign
sign_of b =
    if b == 40 then Some sign.OpenParenthesis
    else (if b == 41 then Some sign.CloseParenthesis
    else (if b == 91 then Some sign.OpenBracket
    else (if b == 93 then Some sign.CloseBracket
    else (if b == 123 then Some sign.OpenBrace
    else (if b == 125 then Some sign.CloseBrace
    else (if b == 59 then Some sign.Semicolon
    else (if b == 44 then Some sign.Comma
    else (if b == 58 then Some sign.Colon
    else (if b == 46 then Some sign.Dot
    else (if b == 61 then Some sign.Assign
    else (if b == 33 then Some sign.Not
    else (if b == 43 then Some sign.Plus
    else (if b == 45 then Some sign.Minus
    else (if b == 42 then Some sign.Times
    else (if b == 47 then Some sign.Slash
    else (if b == 37 then Some sign.Percent
    else (if b == 94 then Some sign.Caret
    else (if b == 60 then Some sign.Less
    else (if b == 62 then Some sign.Greater
    else (if b == 124 then Some sign.Bar
    else (if b == 63 then Some sign.Question
    else (if b == 36 then Some sign.Dollar
    else (if b == 64 then Some sign.At
    else (if b == 96 then Some sign.Backquote
    else (if b == 39 then Some sign.Quote
    else None)))))))))))))))))))))))))

-- ---- what spells a token

abbrev pub Spells : Text → Token → Type 0
Spells w (identifier name) = (is_name w ≡ true) × (word_of w ≡ identifier name)
Spells w (keyword k) = (is_name w ≡ true) × (word_of w ≡ keyword k)
Spells w (error_name e) = (is_name w ≡ true) × (word_of w ≡ error_name e)
Spells w (integer n) = (is_digits w ≡ true) × (value_from 0 w ≡ n)
Spells w (object minus n) = (digits : Text) × (w ≡ hash minus ++ digits) × (is_digits digits ≡ true) × (value_from 0 digits ≡ n)
Spells w (text s) = (body : Text) × (w ≡ 34 ∷ (body ++ 34 ∷ [])) × Escapes body s
Spells w (mark s) = w ≡ spelling s

-- The bounds are apart: digits past them are one number, which is a fault, and not two numbers.
abbrev pub IsInRange : Token → Type 0
IsInRange (integer n) = n ≤ max_number
IsInRange (object minus n) = n ≤ max_object minus
IsInRange _ = Unit {0}

-- Every token of a text is so: its characters are those of texts, and its number is in range.
abbrev pub is_sound : Token → Bool
is_sound (identifier name) = is_text name
is_sound (integer n) = nat_le n max_number
is_sound (object minus n) = nat_le n (max_object minus)
is_sound (text s) = is_text s
is_sound _ = true

-- no longer token begins here
abbrev pub IsLongest : Text → Text → Type 0
IsLongest w rest = (b : ℕ) (more after : Text) (t : Token) → rest ≡ b ∷ (more ++ after) → Spells (w ++ b ∷ more) t → ⊥

-- ---- what is no token

abbrev pub is_blank : ℕ → Bool
is_blank b = b == 32 || b == 9 || b == 10

-- a blank, or the first byte of a token
abbrev pub is_first : ℕ → Bool
is_first b = is_letter b || is_ascii_digit b || b == 34 || is_blank b || b == 35 || b == 38 || is_some (sign_of b)

abbrev pub is_at_digit : Text → Bool
is_at_digit [] = false
is_at_digit (b ∷ bs) = is_ascii_digit b

abbrev pub is_at : ℕ → Text → Bool
is_at c [] = false
is_at c (b ∷ bs) = b == c

-- what begins a string that is not closed: its characters, and perhaps a backslash whose character is missing
pub data Opens : Text → Type 0 where
  at_character : {body s : Text} → Escapes body s → Opens (34 ∷ body)
  at_escaped : {body s : Text} → Escapes body s → Opens (34 ∷ (body ++ 92 ∷ []))

abbrev pub is_line_end : Text → Bool
is_line_end [] = true
is_line_end (b ∷ bs) = b == 10

-- The beginning of a text is no token, and why.
pub data IsBad : Text → FaultKind → Type 0 where
  unknown : (b : ℕ) (bs : Text) → is_first b ≡ false → IsBad (b ∷ bs) fault.Character
  lone_ampersand : (bs : Text) → is_at 38 bs ≡ false → IsBad (38 ∷ bs) fault.Character
  lone_hash : (bs : Text) → is_at_digit bs ≡ false → is_at 45 bs ≡ false → IsBad (35 ∷ bs) fault.Character
  lone_minus : (bs : Text) → is_at_digit bs ≡ false → IsBad (35 ∷ 45 ∷ bs) fault.Character
  bad_character : (w : Text) (b : ℕ) (bs : Text) → Opens w → is_character b ≡ false → (b == 10) ≡ false → IsBad (w ++ b ∷ bs) fault.Character
  open_string : (w rest : Text) → Opens w → is_line_end rest ≡ true → IsBad (w ++ rest) fault.Unclosed
  too_large : (w rest : Text) (t : Token) → Spells w t → (IsInRange t → ⊥) → IsLongest w rest → IsBad (w ++ rest) fault.Number

-- ---- texts

-- a token and its line
pub record Place : Type 0 where
  pub token : Token
  pub line : ℕ

-- a text ends, or has a fault in this line
pub data Ending : Type 0 where
  whole : Ending
  faulty : FaultKind → ℕ → Ending

abbrev pub line_after : ℕ → ℕ → ℕ
line_after b line = if b == 10 then line + 1 else line

-- the text, from this line on, is these tokens up to its end or its first fault
pub data IsText : ℕ → Text → List Place → Ending → Type 0 where
  end : {line : ℕ} → IsText line [] [] whole
  bad : {line : ℕ} {bs : Text} {kind : FaultKind} → IsBad bs kind → IsText line bs [] (faulty kind line)
  blank : {line : ℕ} {bs : Text} {ps : List Place} {e : Ending} (b : ℕ) → is_blank b ≡ true → IsText (line_after b line) bs ps e → IsText line (b ∷ bs) ps e
  token : {line : ℕ} {rest : Text} {ps : List Place} {e : Ending} (w : Text) (t : Token) → Spells w t → IsInRange t → IsLongest w rest → IsText line rest ps e → IsText line (w ++ rest) (record { token = t; line = line } ∷ ps) e

abbrev pub tokens_in : List Place → List Token
tokens_in ps = map (λ p. p.token) ps
