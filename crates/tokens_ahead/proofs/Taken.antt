-- A token that is taken from a text is the first of its tokens.
use Rattle.std.proofs.Common.{◌≡◌, ℕ, Bool, true, false, not, ◌&&◌, [], ◌∷◌, ◌++◌, IsTrue, length, take, drop, refl, sym, ap, subst, ◌∙◌, arith}
use Rattle.std.proofs.lemmas.Bool.Decides.{nat_tests}
use Rattle.std.proofs.lemmas.List.{take-append-drop}
use Rattle.std.specs.List.{list_all}
use Rattle.std.specs.Char.{to_ascii_lowercase}
use Rattle.spec_value.specs.Datum.{Text, fold_case}
use Rattle.spec_value.proofs.Entries.{first_holds, second_holds}
use Rattle.spec_program.proofs.ReadFits.{and_also}
use Rattle.spec_program.specs.Names.{is_letter, is_word_character, is_word, is_keyword, is_identifier}
use Rattle.spec_program.specs.Tokens as t
use Rattle.spec_program.specs.Tokens.{Token, reserved, looked_up, word_token}
use Rattle.spec_spelling.proofs.Pieces.{Clear, clear, never, is_second, Piece}
use Rattle.spec_spelling.proofs.SignsCut as cut
use Rattle.spec_spelling.proofs.WordsCut.{word_piece, identifier_piece}
use Rattle.moo_token.specs.Tokens.{spelling}
use Rattle.moo_token.specs.Meaning.{sign_meant, keyword_meant}
use Rattle.moo_token.specs.declared.token.Sign.{Sign}
use Rattle.moo_token.specs.declared.token.Sign.TheVariants as sign
use Rattle.moo_token.specs.declared.token.Keyword.{Keyword}
use Rattle.moo_token.specs.declared.token.Keyword.TheVariants as word
use Rattle.tokens_ahead.specs.Bare.{bare}
use Rattle.tokens_ahead.specs.Ahead.{goes_on, is_short, lower}
use Rattle.tokens_ahead.proofs.Bare.{piece_bare}

pub clear_of : (test : ℕ → Bool) (u : Text) → goes_on test u ≡ false → Clear test u
clear_of test [] e = tt
clear_of test (c ∷ u) e = e

-- ---- signs

alone : {w : Text} {k : Token} → Piece never w (k ∷ []) → (u : Text) → bare (w ++ u) ≡ k ∷ bare u
alone p u = piece_bare p u (clear u)

before : {w : Text} {k : Token} → Piece is_second w (k ∷ []) → (u : Text) → goes_on is_second u ≡ false → bare (w ++ u) ≡ k ∷ bare u
before p u e = piece_bare p u (clear_of is_second u e)

sign_first : (s : Sign) (u : Text) → (is_short s && goes_on is_second u) ≡ false → bare (spelling s ++ u) ≡ t.sign (sign_meant s) ∷ bare u
sign_first sign.OpenParenthesis u e = alone cut.open_parenthesis u
sign_first sign.CloseParenthesis u e = alone cut.close_parenthesis u
sign_first sign.OpenBracket u e = alone cut.open_bracket u
sign_first sign.CloseBracket u e = alone cut.close_bracket u
sign_first sign.OpenBrace u e = alone cut.open_brace u
sign_first sign.CloseBrace u e = alone cut.close_brace u
sign_first sign.Semicolon u e = alone cut.semicolon u
sign_first sign.Comma u e = alone cut.comma u
sign_first sign.Colon u e = alone cut.colon u
sign_first sign.Dot u e = before cut.dot u e
sign_first sign.Assign u e = before cut.assign u e
sign_first sign.Not u e = before cut.not_sign u e
sign_first sign.Plus u e = alone cut.plus_sign u
sign_first sign.Minus u e = alone cut.minus_sign u
sign_first sign.Times u e = alone cut.times_sign u
sign_first sign.Slash u e = alone cut.slash u
sign_first sign.Percent u e = alone cut.percent u
sign_first sign.Caret u e = alone cut.caret u
sign_first sign.Less u e = before cut.less_sign u e
sign_first sign.Greater u e = before cut.greater_sign u e
sign_first sign.Bar u e = before cut.bar u e
sign_first sign.Question u e = alone cut.question u
sign_first sign.Dollar u e = alone cut.dollar u
sign_first sign.At u e = alone cut.at_sign u
sign_first sign.Backquote u e = alone cut.backquote u
sign_first sign.Quote u e = alone cut.quote u
sign_first sign.DoubleDot u e = alone cut.double_dot u
sign_first sign.Equal u e = alone cut.equal u
sign_first sign.Arrow u e = alone cut.arrow u
sign_first sign.Differs u e = alone cut.differs_sign u
sign_first sign.LessOrEqual u e = alone cut.less_equal u
sign_first sign.GreaterOrEqual u e = alone cut.greater_equal u
sign_first sign.And u e = alone cut.and_sign u
sign_first sign.Or u e = alone cut.or_sign u

pub sign_taken : (v w u : Text) (s : Sign) → bare v ≡ bare w → v ≡ spelling s ++ u → (is_short s && goes_on is_second u) ≡ false → bare w ≡ t.sign (sign_meant s) ∷ bare u
sign_taken v w u s b e h = sym b ∙ ap bare e ∙ sign_first s u h

-- ---- words

name_first : (x u : Text) → IsTrue (is_identifier x) → goes_on is_word_character u ≡ false → bare (x ++ u) ≡ t.word x ∷ bare u
name_first x u h e = piece_bare (identifier_piece x h) u (clear_of is_word_character u e)

pub name_taken : (v w x u : Text) → IsTrue (is_identifier x) → bare v ≡ bare w → v ≡ x ++ u → goes_on is_word_character u ≡ false → bare w ≡ t.word x ∷ bare u
name_taken v w x u h b e g = sym b ∙ ap bare e ∙ name_first x u h g

word_of : (x : Text) → goes_on is_letter x ≡ true → IsTrue (list_all is_word_character x) → IsTrue (is_word x)
word_of [] e h = absurd (cc e)
word_of (c ∷ x) e h = and_also e (second_holds (is_word_character c) (list_all is_word_character x) h)

pub letters_taken : (v w x u : Text) → bare v ≡ bare w → v ≡ x ++ u → goes_on is_letter x ≡ true → IsTrue (list_all is_word_character x)
    → is_keyword x ≡ false → goes_on is_word_character u ≡ false → bare w ≡ t.word x ∷ bare u
letters_taken v w x u b e l h k g = name_taken v w x u (and_also (word_of x l h) (ap not k)) b e g

letter_unfolded : (c : ℕ) → IsTrue (is_letter (to_ascii_lowercase c)) → IsTrue (is_letter c)
letter_unfolded c h = grind (arith, nat_tests)

character_unfolded : (c : ℕ) → IsTrue (is_word_character (to_ascii_lowercase c)) → IsTrue (is_word_character c)
character_unfolded c h = grind (arith, nat_tests)

all_unfolded : (w : Text) → IsTrue (list_all is_word_character (fold_case w)) → IsTrue (list_all is_word_character w)
all_unfolded [] h = h
all_unfolded (c ∷ w) h =
    and_also (character_unfolded c (first_holds (is_word_character (to_ascii_lowercase c)) _ h)) (all_unfolded w (second_holds (is_word_character (to_ascii_lowercase c)) _ h))

word_unfolded : (w : Text) → IsTrue (is_word (fold_case w)) → IsTrue (is_word w)
word_unfolded [] h = h
word_unfolded (c ∷ w) h =
    and_also (letter_unfolded c (first_holds (is_letter (to_ascii_lowercase c)) _ h)) (all_unfolded w (second_holds (is_letter (to_ascii_lowercase c)) _ h))

lower_is_word : (k : Keyword) → IsTrue (is_word (lower k))
lower_is_word word.If = refl
lower_is_word word.Else = refl
lower_is_word word.ElseIf = refl
lower_is_word word.EndIf = refl
lower_is_word word.For = refl
lower_is_word word.In = refl
lower_is_word word.EndFor = refl
lower_is_word word.While = refl
lower_is_word word.EndWhile = refl
lower_is_word word.Break = refl
lower_is_word word.Continue = refl
lower_is_word word.Return = refl
lower_is_word word.Fork = refl
lower_is_word word.EndFork = refl
lower_is_word word.Try = refl
lower_is_word word.Except = refl
lower_is_word word.Finally = refl
lower_is_word word.EndTry = refl
lower_is_word word.Any = refl

lower_is : (k : Keyword) (other : Token) → looked_up reserved (lower k) other ≡ t.keyword (keyword_meant k)
unfolding looked_up
lower_is word.If other = refl
lower_is word.Else other = refl
lower_is word.ElseIf other = refl
lower_is word.EndIf other = refl
lower_is word.For other = refl
lower_is word.In other = refl
lower_is word.EndFor other = refl
lower_is word.While other = refl
lower_is word.EndWhile other = refl
lower_is word.Break other = refl
lower_is word.Continue other = refl
lower_is word.Return other = refl
lower_is word.Fork other = refl
lower_is word.EndFork other = refl
lower_is word.Try other = refl
lower_is word.Except other = refl
lower_is word.Finally other = refl
lower_is word.EndTry other = refl
lower_is word.Any other = refl

keyword_first : (k : Keyword) (w u : Text) → fold_case w ≡ lower k → goes_on is_word_character u ≡ false → bare (w ++ u) ≡ t.keyword (keyword_meant k) ∷ bare u
keyword_first k w u f e =
    let h = word_unfolded w (subst (λ x. IsTrue (is_word x)) (sym f) (lower_is_word k)) in
    let m : word_token w ≡ t.keyword (keyword_meant k) = ap (λ x. looked_up reserved x (t.word w)) f ∙ lower_is k (t.word w) in
    piece_bare (word_piece w (t.keyword (keyword_meant k)) h m refl) u (clear_of is_word_character u e)

pub keyword_taken : (v w x u : Text) (k : Keyword) → bare v ≡ bare w → x ≡ lower k → fold_case (take (length x) v) ≡ x → u ≡ drop (length x) v
    → goes_on is_word_character u ≡ false → bare w ≡ t.keyword (keyword_meant k) ∷ bare u
keyword_taken v w x u k b l f d e =
    sym b ∙ ap bare (sym (take-append-drop (length x) v) ∙ ap (λ r. take (length x) v ++ r) (sym d)) ∙ keyword_first k (take (length x) v) u (f ∙ l) e
