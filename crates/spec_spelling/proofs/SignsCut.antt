-- Signs are cut as one token each: one that could go on, where what is behind it does not go on with it.
use Rattle.std.proofs.Common.{◌≡◌, ℕ, ◌==◌, false, [], ◌∷◌, Some, None, refl, ap, ◌∙◌, arith, if◌then◌else◌, codes}
use Rattle.std.proofs.lemmas.Bool.Decides.{nat_tests}
use Rattle.spec_value.specs.Datum.{Text}
use Rattle.spec_program.specs.Tokens as t
use Rattle.spec_program.specs.Tokens.{Sign, longer_sign, First, first_is, two_signs, sign_with, first_sign, first_token, is_blank}
use Rattle.spec_spelling.proofs.Pieces.{Clear, never, is_second, Piece, exact}

-- a character that begins a sign and nothing else
abbrev Begins : ℕ → Sign → Type 0
Begins c s = (u : Text) → first_token c u ≡ first_sign (Some s) u

alone : (s : Sign) (u : Text) → ((d : ℕ) (v : Text) → u ≡ d ∷ v → longer_sign s d ≡ None) → first_sign (Some s) u ≡ first_is (t.sign s) u
alone s [] h = refl
alone s (d ∷ v) h = ap (λ o. two_signs v o s d) (h d v refl)

-- one that never goes on
single : (c : ℕ) (s : Sign) → is_blank c ≡ false → Begins c s → ((d : ℕ) → longer_sign s d ≡ None) → Piece never (c ∷ []) (t.sign s ∷ [])
single c s b f h = exact c [] (t.sign s) b refl (λ u k. f u ∙ alone s u (λ d v e. h d))

not_longer : (s : Sign) (d : ℕ) → is_second d ≡ false → longer_sign s d ≡ None
not_longer t.dot d h = let e : (d == 46) ≡ false = grind (arith, nat_tests) in ap (λ b. if b then Some t.double_dot else None) e
not_longer t.assign d h =
    let e : (d == 61) ≡ false = grind (arith, nat_tests) in let f : (d == 62) ≡ false = grind (arith, nat_tests) in
    ap (λ b. if b then Some t.equal else (if d == 62 then Some t.arrow else None)) e ∙ ap (λ b. if b then Some t.arrow else None) f
not_longer t.not_sign d h = let e : (d == 61) ≡ false = grind (arith, nat_tests) in ap (λ b. if b then Some t.differs_sign else None) e
not_longer t.less_sign d h = let e : (d == 61) ≡ false = grind (arith, nat_tests) in ap (λ b. if b then Some t.less_equal else None) e
not_longer t.greater_sign d h = let e : (d == 61) ≡ false = grind (arith, nat_tests) in ap (λ b. if b then Some t.greater_equal else None) e
not_longer t.bar d h = let e : (d == 124) ≡ false = grind (arith, nat_tests) in ap (λ b. if b then Some t.or_sign else None) e
not_longer _ d h = refl

first_clear : (d : ℕ) (u v : Text) → u ≡ d ∷ v → Clear is_second u → is_second d ≡ false
first_clear d [] v e h = absurd (cc e)
first_clear d (c ∷ u) v e h = cc

-- one that could
loose : (c : ℕ) (s : Sign) → is_blank c ≡ false → Begins c s → Piece is_second (c ∷ []) (t.sign s ∷ [])
loose c s b f = exact c [] (t.sign s) b refl (λ u k. f u ∙ alone s u (λ d v e. not_longer s d (first_clear d u v e k)))

-- two characters
double : (c d : ℕ) (s : Sign) → is_blank c ≡ false → ((u : Text) → first_token c (d ∷ u) ≡ first_is (t.sign s) u) → Piece never (c ∷ d ∷ []) (t.sign s ∷ [])
double c d s b f = exact c (d ∷ []) (t.sign s) b refl (λ u k. f u)

pub open_parenthesis : Piece never (codes "(") (t.sign t.open_parenthesis ∷ [])
open_parenthesis = single 40 t.open_parenthesis refl (λ u. refl) (λ d. refl)

pub close_parenthesis : Piece never (codes ")") (t.sign t.close_parenthesis ∷ [])
close_parenthesis = single 41 t.close_parenthesis refl (λ u. refl) (λ d. refl)

pub open_bracket : Piece never (codes "[") (t.sign t.open_bracket ∷ [])
open_bracket = single 91 t.open_bracket refl (λ u. refl) (λ d. refl)

pub close_bracket : Piece never (codes "]") (t.sign t.close_bracket ∷ [])
close_bracket = single 93 t.close_bracket refl (λ u. refl) (λ d. refl)

pub open_brace : Piece never (codes "{") (t.sign t.open_brace ∷ [])
open_brace = single 123 t.open_brace refl (λ u. refl) (λ d. refl)

pub close_brace : Piece never (codes "}") (t.sign t.close_brace ∷ [])
close_brace = single 125 t.close_brace refl (λ u. refl) (λ d. refl)

pub semicolon : Piece never (codes ";") (t.sign t.semicolon ∷ [])
semicolon = single 59 t.semicolon refl (λ u. refl) (λ d. refl)

pub comma : Piece never (codes ",") (t.sign t.comma ∷ [])
comma = single 44 t.comma refl (λ u. refl) (λ d. refl)

pub colon : Piece never (codes ":") (t.sign t.colon ∷ [])
colon = single 58 t.colon refl (λ u. refl) (λ d. refl)

pub plus_sign : Piece never (codes "+") (t.sign t.plus_sign ∷ [])
plus_sign = single 43 t.plus_sign refl (λ u. refl) (λ d. refl)

pub minus_sign : Piece never (codes "-") (t.sign t.minus_sign ∷ [])
minus_sign = single 45 t.minus_sign refl (λ u. refl) (λ d. refl)

pub times_sign : Piece never (codes "*") (t.sign t.times_sign ∷ [])
times_sign = single 42 t.times_sign refl (λ u. refl) (λ d. refl)

pub slash : Piece never (codes "/") (t.sign t.slash ∷ [])
slash = single 47 t.slash refl (λ u. refl) (λ d. refl)

pub percent : Piece never (codes "%") (t.sign t.percent ∷ [])
percent = single 37 t.percent refl (λ u. refl) (λ d. refl)

pub caret : Piece never (codes "^") (t.sign t.caret ∷ [])
caret = single 94 t.caret refl (λ u. refl) (λ d. refl)

pub question : Piece never (codes "?") (t.sign t.question ∷ [])
question = single 63 t.question refl (λ u. refl) (λ d. refl)

pub dollar : Piece never (codes "$") (t.sign t.dollar ∷ [])
dollar = single 36 t.dollar refl (λ u. refl) (λ d. refl)

pub at_sign : Piece never (codes "@") (t.sign t.at_sign ∷ [])
at_sign = single 64 t.at_sign refl (λ u. refl) (λ d. refl)

pub backquote : Piece never (codes "`") (t.sign t.backquote ∷ [])
backquote = single 96 t.backquote refl (λ u. refl) (λ d. refl)

pub quote : Piece never (codes "'") (t.sign t.quote ∷ [])
quote = single 39 t.quote refl (λ u. refl) (λ d. refl)

pub dot : Piece is_second (codes ".") (t.sign t.dot ∷ [])
dot = loose 46 t.dot refl (λ u. refl)

pub assign : Piece is_second (codes "=") (t.sign t.assign ∷ [])
assign = loose 61 t.assign refl (λ u. refl)

pub not_sign : Piece is_second (codes "!") (t.sign t.not_sign ∷ [])
not_sign = loose 33 t.not_sign refl (λ u. refl)

pub less_sign : Piece is_second (codes "<") (t.sign t.less_sign ∷ [])
less_sign = loose 60 t.less_sign refl (λ u. refl)

pub greater_sign : Piece is_second (codes ">") (t.sign t.greater_sign ∷ [])
greater_sign = loose 62 t.greater_sign refl (λ u. refl)

pub bar : Piece is_second (codes "|") (t.sign t.bar ∷ [])
bar = loose 124 t.bar refl (λ u. refl)

pub double_dot : Piece never (codes "..") (t.sign t.double_dot ∷ [])
double_dot = double 46 46 t.double_dot refl (λ u. refl)

pub equal : Piece never (codes "==") (t.sign t.equal ∷ [])
equal = double 61 61 t.equal refl (λ u. refl)

pub arrow : Piece never (codes "=>") (t.sign t.arrow ∷ [])
arrow = double 61 62 t.arrow refl (λ u. refl)

pub differs_sign : Piece never (codes "!=") (t.sign t.differs_sign ∷ [])
differs_sign = double 33 61 t.differs_sign refl (λ u. refl)

pub less_equal : Piece never (codes "<=") (t.sign t.less_equal ∷ [])
less_equal = double 60 61 t.less_equal refl (λ u. refl)

pub greater_equal : Piece never (codes ">=") (t.sign t.greater_equal ∷ [])
greater_equal = double 62 61 t.greater_equal refl (λ u. refl)

pub and_sign : Piece never (codes "&&") (t.sign t.and_sign ∷ [])
and_sign = double 38 38 t.and_sign refl (λ u. refl)

pub or_sign : Piece never (codes "||") (t.sign t.or_sign ∷ [])
or_sign = double 124 124 t.or_sign refl (λ u. refl)
