-- What is cut into its tokens, put together: signs between spaces, parentheses, names, and what stands between brackets.
use Rattle.std.proofs.Common.{◌≡◌, ℕ, Bool, true, false, not, nat_le, List, [], ◌∷◌, ◌++◌, Option, Some, None, IsTrue, refl, subst, if◌then◌else◌, codes, arith}
use Rattle.std.proofs.lemmas.Bool.Decides.{nat_tests}
use Rattle.std.specs.List.{list_all}
use Rattle.spec_value.specs.Datum as value
use Rattle.spec_value.specs.Datum.{Datum, Text}
use Rattle.spec_value.specs.Operators.{UnaryOperator, negation, not_true, BinaryOperator, plus, minus, times, divided_by, remainder_by, to_the, equals, differs, less, less_or_equal, greater, greater_or_equal, is_in}
use Rattle.spec_value.proofs.Entries.{first_holds}
use Rattle.spec_program.specs.Tree.{Expr, literal, variable, own_length, unary, binary, both, either, conditional, listing, call, property, verb_call, index, range, caught, assignment, scatter}
use Rattle.spec_program.specs.Names.{is_letter, is_word_character, is_word, is_identifier}
use Rattle.spec_program.specs.Tokens as t
use Rattle.spec_program.specs.Tokens.{Sign, Token}
use Rattle.spec_program.specs.Spelling as spell
use Rattle.spec_program.specs.Spelling.{unary_sign, binary_sign, within, identifier_or_none, plain_name, name_text}
use Rattle.spec_program.specs.CanonicalTokens as tokens
use Rattle.spec_program.specs.CanonicalTokens.{unary_token, binary_token, between, name_tokens}
use Rattle.spec_program.specs.Trees.{is_name}
use Rattle.spec_spelling.proofs.Pieces.{Clear, never, is_second, Piece, any, space, joined, followed}
use Rattle.spec_spelling.proofs.WordsCut.{not_true_is, identifier_piece, name_is_word, name_piece, keyword_piece}
use Rattle.spec_spelling.proofs.SignsCut as sign

-- ---- how a text begins

abbrev pub opens : (ℕ → Bool) → Text → Bool
opens test [] = false
opens test (c ∷ w) = not (test c)

pub clear_behind : (test : ℕ → Bool) (w u : Text) → IsTrue (opens test w) → Clear test (w ++ u)
clear_behind test [] u h = absurd (cc h)
clear_behind test (c ∷ w) u h = not_true_is (test c) h

pub opens_on : (test : ℕ → Bool) (w v : Text) → IsTrue (opens test w) → IsTrue (opens test (w ++ v))
opens_on test [] v h = absurd (cc h)
opens_on test (c ∷ w) v h = h

-- cut into these tokens before what no word goes on with, and no sign goes on with it
pub record Spelled (w : Text) (ks : List Token) : Type 0 where
  pub piece : Piece is_word_character w ks
  pub begins : IsTrue (opens is_second w)

-- ---- in parentheses and brackets

pub parentheses : {w : Text} {ks : List Token} → Piece is_word_character w ks → Spelled (spell.in_parentheses w) (tokens.in_parentheses ks)
parentheses p = record { piece = any (followed sign.open_parenthesis (joined p sign.close_parenthesis (λ u h. refl))); begins = refl }

pub brackets : {w : Text} {ks : List Token} → Piece is_word_character w ks
    → Piece is_word_character (within (codes "[") w (codes "]")) (between t.open_bracket ks t.close_bracket)
brackets p = any (followed sign.open_bracket (joined p sign.close_bracket (λ u h. refl)))

pub braces : {w : Text} {ks : List Token} → Piece is_word_character w ks → Spelled (within (codes "{") w (codes "}")) (between t.open_brace ks t.close_brace)
braces p = record { piece = any (followed sign.open_brace (joined p sign.close_brace (λ u h. refl))); begins = refl }

pub at_level : (wanted own : ℕ) {w : Text} {ks : List Token} → Spelled w ks → Spelled (spell.at_level wanted own w) (tokens.at_level wanted own ks)
at_level wanted own {w} {ks} s = go (nat_le wanted own)
  where
    go : (b : Bool) → Spelled (if b then w else spell.in_parentheses w) (if b then ks else tokens.in_parentheses ks)
    go true = s
    go false = parentheses s.piece

-- ---- between spaces

spaced : {test : ℕ → Bool} {w : Text} {k : Token} → Piece test w (k ∷ []) → test 32 ≡ false → Piece never (32 ∷ (w ++ 32 ∷ [])) (k ∷ [])
spaced p e = followed space (joined p space (λ u h. e))

binary_piece : (op : BinaryOperator) → Piece never (binary_sign op) (binary_token op ∷ [])
binary_piece plus = spaced sign.plus_sign refl
binary_piece minus = spaced sign.minus_sign refl
binary_piece times = spaced sign.times_sign refl
binary_piece divided_by = spaced sign.slash refl
binary_piece remainder_by = spaced sign.percent refl
binary_piece to_the = spaced sign.caret refl
binary_piece equals = spaced sign.equal refl
binary_piece differs = spaced sign.differs_sign refl
binary_piece less = spaced sign.less_sign refl
binary_piece less_or_equal = spaced sign.less_equal refl
binary_piece greater = spaced sign.greater_sign refl
binary_piece greater_or_equal = spaced sign.greater_equal refl
binary_piece is_in = spaced (keyword_piece t.in_word) refl

binary_opens : (op : BinaryOperator) → IsTrue (opens is_word_character (binary_sign op))
binary_opens plus = refl
binary_opens minus = refl
binary_opens times = refl
binary_opens divided_by = refl
binary_opens remainder_by = refl
binary_opens to_the = refl
binary_opens equals = refl
binary_opens differs = refl
binary_opens less = refl
binary_opens less_or_equal = refl
binary_opens greater = refl
binary_opens greater_or_equal = refl
binary_opens is_in = refl

-- one token between two parts
pub infixed : {w s v : Text} {ks js : List Token} {k : Token} → Spelled w ks → Piece never s (k ∷ []) → IsTrue (opens is_word_character s) → Spelled v js
    → Spelled (within w s v) (ks ++ (k ∷ js))
infixed {w} {s} {v} a p o b =
    record {
      piece = joined a.piece (followed p b.piece) (λ u h. clear_behind is_word_character (s ++ v) u (opens_on is_word_character s v o));
      begins = opens_on is_second w (s ++ v) a.begins;
    }

pub binary_spelled : (op : BinaryOperator) {w v : Text} {ks js : List Token} → Spelled w ks → Spelled v js → Spelled (within w (binary_sign op) v) (ks ++ (binary_token op ∷ js))
binary_spelled op a b = infixed a (binary_piece op) (binary_opens op) b

pub and_between : Piece never (codes " && ") (t.sign t.and_sign ∷ [])
and_between = spaced sign.and_sign refl

pub or_between : Piece never (codes " || ") (t.sign t.or_sign ∷ [])
or_between = spaced sign.or_sign refl

pub question_between : Piece never (codes " ? ") (t.sign t.question ∷ [])
question_between = spaced sign.question refl

pub bar_between : Piece never (codes " | ") (t.sign t.bar ∷ [])
bar_between = spaced sign.bar refl

pub not_between : Piece never (codes " ! ") (t.sign t.not_sign ∷ [])
not_between = spaced sign.not_sign refl

pub arrow_between : Piece never (codes " => ") (t.sign t.arrow ∷ [])
arrow_between = spaced sign.arrow refl

pub assign_between : Piece never (codes " = ") (t.sign t.assign ∷ [])
assign_between = spaced sign.assign refl

-- the two ends of a range
pub ends : {w v : Text} {ks js : List Token} → Spelled w ks → Spelled v js → Piece is_word_character (within w (codes "..") v) (ks ++ (t.sign t.double_dot ∷ js))
ends a b = (infixed a sign.double_dot refl b).piece

-- what stands behind, between brackets
pub indexed : {w v : Text} {ks js : List Token} → Spelled w ks → Piece is_word_character v js
    → Spelled (w ++ within (codes "[") v (codes "]")) (ks ++ between t.open_bracket js t.close_bracket)
indexed {w} {v} a p =
    record { piece = joined a.piece (brackets p) (λ u h. refl); begins = opens_on is_second w (within (codes "[") v (codes "]")) a.begins }

-- arguments behind
pub called : {w v : Text} {ks js : List Token} → Spelled w ks → Piece is_word_character v js → Spelled (w ++ spell.in_parentheses v) (ks ++ tokens.in_parentheses js)
called {w} {v} a p =
    record { piece = joined a.piece (parentheses p).piece (λ u h. refl); begins = opens_on is_second w (spell.in_parentheses v) a.begins }

pub unary_spelled : (op : UnaryOperator) {w : Text} {ks : List Token} → Spelled w ks → Spelled (unary_sign op ++ w) (unary_token op ∷ ks)
unary_spelled negation a = record { piece = followed sign.minus_sign a.piece; begins = refl }
unary_spelled not_true {w} a = record { piece = joined sign.not_sign a.piece (λ u h. clear_behind is_second w u a.begins); begins = refl }

-- ---- names

letter_first : (c : ℕ) → is_letter c ≡ true → IsTrue (not (is_second c))
letter_first c h = grind (arith, nat_tests)

pub word_opens : (x : Text) → IsTrue (is_word x) → IsTrue (opens is_second x)
word_opens [] h = h
word_opens (c ∷ x) h = letter_first c (first_holds (is_letter c) (list_all is_word_character x) h)

pub name_spelled : (x : Text) → IsTrue (is_name x) → Spelled x (t.word x ∷ [])
name_spelled x h = record { piece = name_piece x h; begins = word_opens x (name_is_word x h) }

identifier_spelled : (x : Text) → IsTrue (is_identifier x) → Spelled x (t.word x ∷ [])
identifier_spelled x h = record { piece = identifier_piece x h; begins = word_opens x (first_holds (is_word x) _ h) }

-- a name, if there is one, is an identifier
abbrev Named : Option Text → Type 0
Named name = (x : Text) → name ≡ Some x → IsTrue (is_identifier x)

none_named : Named None
none_named x e = absurd (cc e)

identifier_named : (x : Text) → Named (identifier_or_none x)
identifier_named x = go (is_identifier x) refl
  where
    go : (b : Bool) → is_identifier x ≡ b → (y : Text) → (if b then Some x else None) ≡ Some y → IsTrue (is_identifier y)
    go true h y e = let same : x ≡ y = cc in subst (λ z. IsTrue (is_identifier z)) same h
    go false h y e = absurd (cc e)

plain_named : (e : Expr) → Named (plain_name e)
plain_named (literal (value.text x)) = identifier_named x
plain_named (literal (value.integer z)) = none_named
plain_named (literal (value.object z)) = none_named
plain_named (literal (value.error c)) = none_named
plain_named (literal (value.list vs)) = none_named
plain_named (variable x) = none_named
plain_named own_length = none_named
plain_named (unary u a) = none_named
plain_named (binary op a c) = none_named
plain_named (both a c) = none_named
plain_named (either a c) = none_named
plain_named (conditional c x y) = none_named
plain_named (listing es) = none_named
plain_named (call f es) = none_named
plain_named (property o p) = none_named
plain_named (verb_call o v es) = none_named
plain_named (index x i) = none_named
plain_named (range x i j) = none_named
plain_named (caught e c d) = none_named
plain_named (assignment x e) = none_named
plain_named (scatter xs e) = none_named

name_or_parentheses : (name : Option Text) {w : Text} {ks : List Token} → Named name → Spelled w ks → Spelled (name_text name w) (name_tokens name ks)
name_or_parentheses None n s = parentheses s.piece
name_or_parentheses (Some x) n s = identifier_spelled x (n x refl)

-- behind its object and a dot or a colon
behind_sign : {s o v : Text} {m : Sign} {os ks : List Token} → Piece is_second s (t.sign m ∷ []) → IsTrue (opens is_word_character s) → Spelled o os → Spelled v ks
    → Spelled (o ++ (s ++ v)) (os ++ (t.sign m ∷ ks))
behind_sign {s} {o} {v} p h a b =
    record {
      piece =
          joined a.piece (joined p b.piece (λ u k. clear_behind is_second v u b.begins))
          (λ u k. clear_behind is_word_character (s ++ v) u (opens_on is_word_character s v h));
      begins = opens_on is_second o (s ++ v) a.begins;
    }

dotted : {s o w : Text} {m : Sign} {os ks : List Token} (system : Bool) (name : Option Text) → Piece is_second s (t.sign m ∷ []) → IsTrue (opens is_word_character s)
    → Named name → Spelled o os → Spelled w ks → Spelled (spell.dotted s o system name w) (tokens.dotted m os system name ks)
dotted true (Some x) p h n a b = record { piece = followed sign.dollar (identifier_spelled x (n x refl)).piece; begins = refl }
dotted true None p h n a b = behind_sign p h a (name_or_parentheses None n b)
dotted false name p h n a b = behind_sign p h a (name_or_parentheses name n b)

pub property_spelled : {o w : Text} {os ks : List Token} (system : Bool) (e : Expr) → Spelled o os → Spelled w ks
    → Spelled (spell.dotted (codes ".") o system (plain_name e) w) (tokens.dotted t.dot os system (plain_name e) ks)
property_spelled system e a b = dotted system (plain_name e) sign.dot refl (plain_named e) a b

pub verb_spelled : {o w : Text} {os ks : List Token} (system : Bool) (e : Expr) → Spelled o os → Spelled w ks
    → Spelled (spell.dotted (codes ":") o system (plain_name e) w) (tokens.dotted t.colon os system (plain_name e) ks)
verb_spelled system e a b = dotted system (plain_name e) (any sign.colon) refl (plain_named e) a b
