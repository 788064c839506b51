-- A literal that is taken from a text is the first of its tokens.
use Rattle.std.proofs.Common.{◌≡◌, ◌≤◌, ℕ, true, false, List, [], ◌∷◌, ◌++◌, IsTrue, sym, ap, ◌∙◌, append_assoc, Option, Some, None, IfSome, Bor}
use Rattle.std.specs.Fmt.{decimal}
use Rattle.spec_value.specs.Datum.{Text, ErrorCode, is_text}
use Rattle.spec_value.specs.Literal.{error_name, escaped}
use Rattle.spec_program.specs.Names.{is_word_character}
use Rattle.spec_program.specs.Tokens as t
use Rattle.spec_program.specs.Tokens.{Token}
use Rattle.spec_spelling.proofs.Pieces.{clear, Piece}
use Rattle.spec_spelling.proofs.WordsCut.{error_piece}
use Rattle.spec_spelling.proofs.NumbersCut.{integer_piece, object_piece, negative_piece, string_piece}
use Rattle.tokens_ahead.specs.Bare.{bare}
use Rattle.tokens_ahead.specs.Ahead.{goes_on}
use Rattle.tokens_ahead.proofs.Bare.{piece_bare}
use Rattle.tokens_ahead.proofs.Taken.{clear_of}

taken : {x : Text} {k : Token} → Piece is_word_character x (k ∷ []) → (v w u : Text) → bare v ≡ bare w → v ≡ x ++ u → goes_on is_word_character u ≡ false
    → bare w ≡ k ∷ bare u
taken p v w u b e g = sym b ∙ ap bare e ∙ piece_bare p u (clear_of is_word_character u g)

pub integer_taken : (v w u : Text) (n : ℕ) → n ≤ 2147483648 → bare v ≡ bare w → v ≡ decimal n ++ u → goes_on is_word_character u ≡ false
    → bare w ≡ t.integer n ∷ bare u
integer_taken v w u n l b e g = taken (integer_piece n l) v w u b e g

pub object_taken : (v w d u : Text) (n : ℕ) → n ≤ 2147483647 → bare v ≡ bare w → v ≡ 35 ∷ d → d ≡ decimal n ++ u → goes_on is_word_character u ≡ false
    → bare w ≡ t.object false n ∷ bare u
object_taken v w d u n l b e f g = taken (object_piece n l) v w u b (e ∙ ap (λ x. 35 ∷ x) f) g

pub negative_taken : (v w m d u : Text) (n : ℕ) → n ≤ 2147483648 → bare v ≡ bare w → v ≡ 35 ∷ m → m ≡ 45 ∷ d → d ≡ decimal n ++ u
    → goes_on is_word_character u ≡ false → bare w ≡ t.object true n ∷ bare u
negative_taken v w m d u n l b e h f g = taken (negative_piece n l) v w u b (e ∙ ap (λ x. 35 ∷ x) (h ∙ ap (λ x. 45 ∷ x) f)) g

pub error_taken : (v w x u : Text) (k : ErrorCode) → x ≡ error_name k → bare v ≡ bare w → v ≡ x ++ u → goes_on is_word_character u ≡ false
    → bare w ≡ t.error_name k ∷ bare u
error_taken v w x u k i b e g = taken (error_piece k) v w u b (e ∙ ap (λ y. y ++ u) i) g

string_first : (v w o c u x : Text) → IsTrue (is_text x) → bare v ≡ bare w → v ≡ 34 ∷ o → o ≡ escaped x ++ c → c ≡ 34 ∷ u → bare w ≡ t.string x ∷ bare u
string_first v w o c u x h b e f g =
    sym b
    ∙ ap bare (e ∙ ap (λ y. 34 ∷ y) (f ∙ ap (λ y. escaped x ++ y) g ∙ sym (append_assoc (escaped x) (34 ∷ []) u)))
    ∙ piece_bare (string_piece x h) u (clear u)

pub string_taken : (v w o c x : Text) (r : Option (Bor (List ℕ))) → IsTrue (is_text x) → bare v ≡ bare w → v ≡ 34 ∷ o → o ≡ escaped x ++ c
    → IfSome r (λ u. c ≡ 34 ∷ u.now) → IfSome r (λ u. bare w ≡ t.string x ∷ bare u.now)
string_taken v w o c x None h b e f g = tt
string_taken v w o c x (Some u) h b e f g = string_first v w o c u.now x h b e f g
