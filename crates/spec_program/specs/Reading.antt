-- How tokens are read (Programmer's Manual, "The MOO Programming Language"): what is found, what stands behind it, and where reading sticks.
use Rattle.std.specs.Prelude.{ℕ, suc, ◌==◌, Bool, true, false, List, [], ◌∷◌, ◌++◌, map, Option}
use Rattle.spec_value.specs.Datum.{Text}
use Rattle.spec_program.specs.Tokens.{Keyword, Sign, Token, word, keyword, error_name, integer, object, string, sign, bad, Placed, if_word, else_word, elseif_word, endif_word, for_word, in_word, endfor_word, while_word, endwhile_word, break_word, continue_word, return_word, fork_word, endfork_word, try_word, except_word, finally_word, endtry_word, any_word, open_parenthesis, close_parenthesis, open_bracket, close_bracket, open_brace, close_brace, semicolon, comma, colon, dot, double_dot, assign, equal, arrow, not_sign, differs_sign, plus_sign, minus_sign, times_sign, slash, percent, caret, less_sign, less_equal, greater_sign, greater_equal, and_sign, or_sign, bar, question, dollar, at_sign, backquote, quote}

-- something and the tokens behind it, or the tokens from the first with which no program can go on
pub data Read (X : Type 0) : Type 0 where
  got : X → List Placed → Read X
  stuck : List Placed → Read X

abbrev pub and_then : {X Y : Type 0} → Read X → (X → List Placed → Read Y) → Read Y
and_then (got x ts) f = f x ts
and_then (stuck ts) f = stuck ts

-- ---- a token that is wanted, and one that is perhaps there

abbrev pub keyword_number : Keyword → ℕ
keyword_number if_word = 0
keyword_number else_word = 1
keyword_number elseif_word = 2
keyword_number endif_word = 3
keyword_number for_word = 4
keyword_number in_word = 5
keyword_number endfor_word = 6
keyword_number while_word = 7
keyword_number endwhile_word = 8
keyword_number break_word = 9
keyword_number continue_word = 10
keyword_number return_word = 11
keyword_number fork_word = 12
keyword_number endfork_word = 13
keyword_number try_word = 14
keyword_number except_word = 15
keyword_number finally_word = 16
keyword_number endtry_word = 17
keyword_number any_word = 18

abbrev pub sign_number : Sign → ℕ
sign_number open_parenthesis = 0
sign_number close_parenthesis = 1
sign_number open_bracket = 2
sign_number close_bracket = 3
sign_number open_brace = 4
sign_number close_brace = 5
sign_number semicolon = 6
sign_number comma = 7
sign_number colon = 8
sign_number dot = 9
sign_number double_dot = 10
sign_number assign = 11
sign_number equal = 12
sign_number arrow = 13
sign_number not_sign = 14
sign_number differs_sign = 15
sign_number plus_sign = 16
sign_number minus_sign = 17
sign_number times_sign = 18
sign_number slash = 19
sign_number percent = 20
sign_number caret = 21
sign_number less_sign = 22
sign_number less_equal = 23
sign_number greater_sign = 24
sign_number greater_equal = 25
sign_number and_sign = 26
sign_number or_sign = 27
sign_number bar = 28
sign_number question = 29
sign_number dollar = 30
sign_number at_sign = 31
sign_number backquote = 32
sign_number quote = 33

abbrev pub is_sign : Sign → Token → Bool
is_sign s (sign t) = sign_number s == sign_number t
is_sign s _ = false

abbrev pub is_keyword : Keyword → Token → Bool
is_keyword k (keyword l) = keyword_number k == keyword_number l
is_keyword k _ = false

abbrev pub chosen : {X : Type 0} → Bool → (List Placed → Read X) → (List Placed → Read X) → List Placed → List Placed → Read X
chosen true there absent rest all = there rest
chosen false there absent rest all = absent all

abbrev pub if_token : {X : Type 0} → (Token → Bool) → (List Placed → Read X) → (List Placed → Read X) → List Placed → Read X
if_token test there absent [] = absent []
if_token test there absent (p ∷ ts) = chosen (test p.token) there absent ts (p ∷ ts)

-- past this sign, or as without it
abbrev pub if_sign : {X : Type 0} → Sign → (List Placed → Read X) → (List Placed → Read X) → List Placed → Read X
if_sign s there absent ts = if_token (is_sign s) there absent ts

abbrev pub if_keyword : {X : Type 0} → Keyword → (List Placed → Read X) → (List Placed → Read X) → List Placed → Read X
if_keyword k there absent ts = if_token (is_keyword k) there absent ts

-- past this sign, which must be there
abbrev pub past_sign : {X : Type 0} → Sign → List Placed → (List Placed → Read X) → Read X
past_sign s ts f = if_sign s f stuck ts

abbrev pub past_keyword : {X : Type 0} → Keyword → List Placed → (List Placed → Read X) → Read X
past_keyword k ts f = if_keyword k f stuck ts

abbrev pub word_or_stuck : {X : Type 0} → Token → ℕ → (Text → ℕ → List Placed → Read X) → List Placed → List Placed → Read X
word_or_stuck (word x) line f rest all = f x line rest
word_or_stuck k line f rest all = stuck all

-- past a word, which must be there, with its text and its line
abbrev pub past_word : {X : Type 0} → List Placed → (Text → ℕ → List Placed → Read X) → Read X
past_word [] f = stuck []
past_word (p ∷ ts) f = word_or_stuck p.token p.line f ts (p ∷ ts)

abbrev pub line_of : List Placed → ℕ
line_of [] = 0
line_of (p ∷ ts) = p.line

-- ---- how deep a tree is: each statement and expression with the number of those on the path to it, itself included, in the order of the text

pub record Node : Type 0 where
  pub depth : ℕ
  pub line : ℕ

abbrev pub deeper : Node → Node
deeper n = record n { depth = suc n.depth }

abbrev pub under : ℕ → List Node → List Node
under line ns = record { depth = 1; line = line } ∷ map deeper ns
