-- The tokens of a text (Programmer's Manual, "The MOO Programming Language"): the longest is taken; spaces, tabs and line ends separate.
use Rattle.std.specs.Prelude.{ℕ, zero, suc, ◌+◌, ◌*◌, ◌-◌, nat_le, Bool, true, false, not, ◌||◌, ◌==◌, List, [], ◌∷◌, length, if◌then◌else◌, Option, Some, None, codes}
use Rattle.spec_value.specs.Datum.{Text, is_character, fold_case, same_text, ErrorCode, no_error, type_mismatch, zero_division, permission_denied, property_not_found, verb_not_found, variable_not_found, invalid_indirection, recursive_move, too_many_calls, range_error, wrong_argument_count, move_refused, invalid_argument, limit_exceeded, float_error}
use Rattle.spec_program.specs.Names.{is_letter, is_digit, is_word_character}

pub data Keyword : Type 0 where
  if_word else_word elseif_word endif_word for_word in_word endfor_word while_word endwhile_word : Keyword
  break_word continue_word return_word fork_word endfork_word try_word except_word finally_word endtry_word any_word : Keyword

pub data Sign : Type 0 where
  open_parenthesis close_parenthesis open_bracket close_bracket open_brace close_brace : Sign
  semicolon comma colon dot double_dot assign equal arrow not_sign differs_sign : Sign
  plus_sign minus_sign times_sign slash percent caret less_sign less_equal greater_sign greater_equal : Sign
  and_sign or_sign bar question dollar at_sign backquote quote : Sign

-- faults of a text: 1 to 3, 5 of a token, 4 and 6 of a whole program
pub data FaultKind : Type 0 where
  character unclosed token nesting number loop_name : FaultKind

-- a word is kept as it is written; a number may be one more than the greatest integer, and is then the least; `bad` begins no token
pub data Token : Type 0 where
  word : Text → Token
  keyword : Keyword → Token
  error_name : ErrorCode → Token
  integer : ℕ → Token
  object : Bool → ℕ → Token  -- with a minus sign or without
  string : Text → Token
  sign : Sign → Token
  bad : FaultKind → Token

-- with the line of its first character, counted from 1
pub record Placed : Type 0 where
  pub token : Token
  pub line : ℕ

-- ---- words

abbrev pub reserved : List (Text × Token)
reserved =
    (codes "if", keyword if_word) ∷ (codes "else", keyword else_word) ∷ (codes "elseif", keyword elseif_word) ∷ (codes "endif", keyword endif_word)
    ∷ (codes "for", keyword for_word) ∷ (codes "in", keyword in_word) ∷ (codes "endfor", keyword endfor_word) ∷ (codes "while", keyword while_word)
    ∷ (codes "endwhile", keyword endwhile_word) ∷ (codes "break", keyword break_word) ∷ (codes "continue", keyword continue_word)
    ∷ (codes "return", keyword return_word) ∷ (codes "fork", keyword fork_word) ∷ (codes "endfork", keyword endfork_word) ∷ (codes "try", keyword try_word)
    ∷ (codes "except", keyword except_word) ∷ (codes "finally", keyword finally_word) ∷ (codes "endtry", keyword endtry_word) ∷ (codes "any", keyword any_word)
    ∷ (codes "e_none", error_name no_error) ∷ (codes "e_type", error_name type_mismatch) ∷ (codes "e_div", error_name zero_division)
    ∷ (codes "e_perm", error_name permission_denied) ∷ (codes "e_propnf", error_name property_not_found) ∷ (codes "e_verbnf", error_name verb_not_found)
    ∷ (codes "e_varnf", error_name variable_not_found) ∷ (codes "e_invind", error_name invalid_indirection) ∷ (codes "e_recmove", error_name recursive_move)
    ∷ (codes "e_maxrec", error_name too_many_calls) ∷ (codes "e_range", error_name range_error) ∷ (codes "e_args", error_name wrong_argument_count)
    ∷ (codes "e_nacc", error_name move_refused) ∷ (codes "e_invarg", error_name invalid_argument) ∷ (codes "e_quota", error_name limit_exceeded)
    ∷ (codes "e_float", error_name float_error) ∷ []

unfoldable pub looked_up : List (Text × Token) → Text → Token → Token
looked_up [] t other = other
looked_up (r ∷ rs) t other = if same_text r.0 t then r.1 else looked_up rs t other

-- the case of its letters does not matter for what kind of word it is
abbrev pub word_token : Text → Token
word_token t = looked_up reserved (fold_case t) (word t)

-- ---- what a text begins with, and what is behind that

abbrev pub while_front : (ℕ → Bool) → Text → Text
while_front test [] = []
while_front test (c ∷ t) = if test c then c ∷ while_front test t else []

abbrev pub while_rest : (ℕ → Bool) → Text → Text
while_rest test [] = []
while_rest test (c ∷ t) = if test c then while_rest test t else c ∷ t

-- ---- numbers

abbrev pub value_from : ℕ → Text → ℕ
value_from n [] = n
value_from n (c ∷ t) = value_from (n * 10 + (c - 48)) t

abbrev pub greatest_integer : ℕ
greatest_integer = 2147483647

abbrev pub integer_token : ℕ → Token
integer_token n = if nat_le n (suc greatest_integer) then integer n else bad number

abbrev pub greatest_object : Bool → ℕ
greatest_object false = greatest_integer
greatest_object true = suc greatest_integer

abbrev pub object_token : Bool → Text → Token
object_token minus [] = bad character
object_token minus (c ∷ t) = if nat_le (value_from 0 (c ∷ t)) (greatest_object minus) then object minus (value_from 0 (c ∷ t)) else bad number

-- ---- strings: on one line; a backslash stands for the character after it

pub data StringEnd : Type 0 where
  closed : Text → Text → StringEnd  -- its characters, and the text behind the closing quote
  faulty : FaultKind → StringEnd

abbrev pub and_character : ℕ → StringEnd → StringEnd
and_character c (closed t rest) = closed (c ∷ t) rest
and_character c (faulty k) = faulty k

abbrev pub wrong_character : ℕ → StringEnd
wrong_character c = if c == 10 then faulty unclosed else faulty character

-- within quotes, and behind a backslash there
pub record InString : Type 0 where
  pub plain : StringEnd
  pub escaped : StringEnd

abbrev pub string_read : ℕ → Text → InString → InString
string_read c t r = record {
  plain = if c == 34 then closed [] t else if c == 92 then r.escaped else if is_character c then and_character c r.plain else wrong_character c;
  escaped = if is_character c then and_character c r.plain else wrong_character c;
}

abbrev pub in_string : Text → InString
in_string [] = record { plain = faulty unclosed; escaped = faulty unclosed }
in_string (c ∷ t) = string_read c t (in_string t)

-- ---- signs: those of two characters first

abbrev pub one_sign : ℕ → Option Sign
one_sign c =
    if c == 40 then Some open_parenthesis else if c == 41 then Some close_parenthesis else if c == 91 then Some open_bracket
    else if c == 93 then Some close_bracket else if c == 123 then Some open_brace else if c == 125 then Some close_brace
    else if c == 59 then Some semicolon else if c == 44 then Some comma else if c == 58 then Some colon else if c == 46 then Some dot
    else if c == 61 then Some assign else if c == 33 then Some not_sign else if c == 43 then Some plus_sign else if c == 45 then Some minus_sign
    else if c == 42 then Some times_sign else if c == 47 then Some slash else if c == 37 then Some percent else if c == 94 then Some caret
    else if c == 60 then Some less_sign else if c == 62 then Some greater_sign else if c == 124 then Some bar else if c == 63 then Some question
    else if c == 36 then Some dollar else if c == 64 then Some at_sign else if c == 96 then Some backquote else if c == 39 then Some quote
    else None

abbrev pub longer_sign : Sign → ℕ → Option Sign
longer_sign dot d = if d == 46 then Some double_dot else None
longer_sign assign d = if d == 61 then Some equal else if d == 62 then Some arrow else None
longer_sign not_sign d = if d == 61 then Some differs_sign else None
longer_sign less_sign d = if d == 61 then Some less_equal else None
longer_sign greater_sign d = if d == 61 then Some greater_equal else None
longer_sign bar d = if d == 124 then Some or_sign else None
longer_sign s d = None

-- ---- the first token of a text that begins with no blank, and the text behind it

pub record First : Type 0 where
  pub token : Token
  pub rest : Text

abbrev pub first_is : Token → Text → First
first_is k t = record { token = k; rest = t }

abbrev pub first_string : StringEnd → First
first_string (closed s rest) = first_is (string s) rest
first_string (faulty k) = first_is (bad k) []

abbrev pub object_behind : Bool → Text → First
object_behind minus t = first_is (object_token minus (while_front is_digit t)) (while_rest is_digit t)

abbrev pub first_object : Text → First
first_object [] = first_is (bad character) []
first_object (c ∷ t) = if c == 45 then object_behind true t else object_behind false (c ∷ t)

abbrev pub two_signs : Text → Option Sign → Sign → ℕ → First
two_signs t (Some s) shorter d = first_is (sign s) t
two_signs t None shorter d = first_is (sign shorter) (d ∷ t)

abbrev pub sign_with : Sign → Text → First
sign_with s [] = first_is (sign s) []
sign_with s (d ∷ t) = two_signs t (longer_sign s d) s d

abbrev pub first_sign : Option Sign → Text → First
first_sign None t = first_is (bad character) t
first_sign (Some s) t = sign_with s t

-- `&` stands only in `&&`
abbrev pub first_and : Text → First
first_and [] = first_is (bad character) []
first_and (d ∷ t) = if d == 38 then first_is (sign and_sign) t else first_is (bad character) t

abbrev pub first_token : ℕ → Text → First
first_token c t =
    if is_letter c then first_is (word_token (while_front is_word_character (c ∷ t))) (while_rest is_word_character t)
    else if is_digit c then first_is (integer_token (value_from 0 (while_front is_digit (c ∷ t)))) (while_rest is_digit t)
    else if c == 34 then first_string (in_string t).plain
    else if c == 35 then first_object t
    else if c == 38 then first_and t
    else first_sign (one_sign c) t

-- ---- all of them, up to the first that is none

abbrev pub is_blank : ℕ → Bool
is_blank c = (c == 32) || ((c == 9) || (c == 10))

abbrev pub line_after : ℕ → ℕ → ℕ
line_after c line = if c == 10 then suc line else line

abbrev pub and_later : (Text → List Placed) → ℕ → Token → Text → List Placed
and_later later line (bad k) t = record { token = bad k; line = line } ∷ []
and_later later line k t = record { token = k; line = line } ∷ later t

abbrev pub token_first : (Text → List Placed) → ℕ → First → List Placed
token_first later line f = and_later later line f.token f.rest

abbrev pub blank_or_token : Bool → (ℕ → Text → List Placed) → ℕ → ℕ → Text → List Placed
blank_or_token true later line c t = later (line_after c line) t
blank_or_token false later line c t = token_first (later line) line (first_token c t)

-- of a text with at most so many characters, from a line on
unfoldable pub tokens_from : ℕ → ℕ → Text → List Placed
tokens_from zero line t = []
tokens_from (suc n) line [] = []
tokens_from (suc n) line (c ∷ t) = blank_or_token (is_blank c) (tokens_from n) line c t

abbrev pub tokens_of : Text → List Placed
tokens_of t = tokens_from (length t) 1 t
