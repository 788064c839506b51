-- Simple statements and the heads of others are cut into their tokens.
use Rattle.std.proofs.Common.{List, [], ◌∷◌, ◌++◌, Option, Some, None, IsTrue, refl, codes}
use Rattle.spec_value.specs.Datum.{Text}
use Rattle.spec_program.specs.Names.{is_word_character}
use Rattle.spec_program.specs.Tokens as t
use Rattle.spec_program.specs.Tokens.{Keyword, Token}
use Rattle.spec_program.specs.Spelling as spell
use Rattle.spec_program.specs.Spelling.{within, before_name}
use Rattle.spec_program.specs.CanonicalTokens.{between, in_parentheses}
use Rattle.spec_program.specs.Trees.{is_name, may_name}
use Rattle.spec_spelling.specs.ProgramTokens.{with_semicolon, name_before, head}
use Rattle.spec_spelling.proofs.Pieces.{Clear, never, Piece, empty, any, space, joined, followed}
use Rattle.spec_spelling.proofs.WordsCut.{name_piece, keyword_text, keyword_piece}
use Rattle.spec_spelling.proofs.SignsCut as sign
use Rattle.spec_spelling.proofs.PartsCut.{parentheses}

-- ---- a name that may stand behind a word

before_name_piece : (x : Option Text) → IsTrue (may_name x) → Piece is_word_character (before_name x) (name_before x)
before_name_piece None h = empty
before_name_piece (Some x) h = followed space (name_piece x h)

before_name_clear : (x : Option Text) (u : Text) → Clear is_word_character u → Clear is_word_character (before_name x ++ u)
before_name_clear None u h = h
before_name_clear (Some x) u h = refl

name_or_semicolon : (x : Option Text) (u : Text) → Clear is_word_character ((before_name x ++ codes ";") ++ u)
name_or_semicolon None u = refl
name_or_semicolon (Some x) u = refl

-- ---- simple statements

pub ended : {w : Text} {ks : List Token} → Piece is_word_character w ks → Piece is_word_character (w ++ codes ";") (with_semicolon ks)
ended p = any (joined p sign.semicolon (λ u h. refl))

pub given : {w : Text} {ks : List Token} → Piece is_word_character w ks
    → Piece is_word_character (within (codes "return ") w (codes ";")) (t.keyword t.return_word ∷ with_semicolon ks)
given p = followed (joined (keyword_piece t.return_word) space (λ u h. refl)) (ended p)

pub given_zero : Piece is_word_character (codes "return;") (t.keyword t.return_word ∷ t.sign t.semicolon ∷ [])
given_zero = ended (keyword_piece t.return_word)

pub jump : (k : Keyword) (x : Option Text) → IsTrue (may_name x)
    → Piece is_word_character (within (keyword_text k) (before_name x) (codes ";")) (t.keyword k ∷ with_semicolon (name_before x))
jump k x h = joined (keyword_piece k) (ended (before_name_piece x h)) (λ u c. name_or_semicolon x u)

-- ---- heads

behind_word : {w v : Text} {ks js : List Token} → Piece is_word_character w ks → Piece is_word_character v js
    → Piece is_word_character (spell.head w v) (ks ++ in_parentheses js)
behind_word p q = joined p (followed space (parentheses q).piece) (λ u h. refl)

pub plain_head : (k : Keyword) {w : Text} {ks : List Token} → Piece is_word_character w ks → Piece is_word_character (spell.head (keyword_text k) w) (head k None ks)
plain_head k p = behind_word (keyword_piece k) p

pub named_head : (k : Keyword) (x : Option Text) {w : Text} {ks : List Token} → IsTrue (may_name x) → Piece is_word_character w ks
    → Piece is_word_character (spell.head (keyword_text k ++ before_name x) w) (head k x ks)
named_head k x h p = behind_word (joined (keyword_piece k) (before_name_piece x h) (before_name_clear x)) p

for_space : Piece never (codes "for ") (t.keyword t.for_word ∷ [])
for_space = joined (keyword_piece t.for_word) space (λ u h. refl)

in_behind : Piece is_word_character (codes " in") (t.keyword t.in_word ∷ [])
in_behind = followed space (keyword_piece t.in_word)

pub for_each_head : (x : Text) {w : Text} {ks : List Token} → IsTrue (is_name x) → Piece is_word_character w ks
    → Piece is_word_character (codes "for " ++ spell.head (x ++ codes " in") w) (t.keyword t.for_word ∷ t.word x ∷ t.keyword t.in_word ∷ in_parentheses ks)
for_each_head x h p = followed for_space (behind_word (joined (name_piece x h) in_behind (λ u k. refl)) p)

in_bracket : Piece never (codes " in [") (t.keyword t.in_word ∷ t.sign t.open_bracket ∷ [])
in_bracket = joined in_behind (followed space sign.open_bracket) (λ u h. refl)

pub for_range_head : (x : Text) {w : Text} {ks : List Token} → IsTrue (is_name x) → Piece is_word_character w ks
    → Piece is_word_character (codes "for " ++ (x ++ within (codes " in [") w (codes "]")))
    (t.keyword t.for_word ∷ t.word x ∷ t.keyword t.in_word ∷ between t.open_bracket ks t.close_bracket)
for_range_head x h p =
    any (followed for_space (joined (name_piece x h) (followed in_bracket (joined p sign.close_bracket (λ u k. refl))) (λ u k. refl)))
