-- The tokens of a text are sound.
use Rattle.std.proofs.Common.{◌≡◌, ℕ, true, List, [], ◌∷◌, Option, Some, None, refl, sym, ap, ◌∙◌, arith}
use Rattle.std.proofs.lemmas.Bool.Decides.{nat_tests}
use Rattle.std.specs.List.{list_all}
use Rattle.spec_value.specs.Datum.{Text, is_character, is_text, fold_case}
use Rattle.moo_token.specs.Tokens as t
use Rattle.moo_token.specs.Tokens.{Token, identifier, keyword, error_name, integer, object, mark, is_letter, is_word, is_name, word_of, Escapes, none, plain, escaped, is_plain, max_number, max_object, Spells, IsInRange, is_sound, Place, Ending, IsText, end, bad, blank, token, tokens_in}
use Rattle.moo_token.specs.declared.token.Keyword.{Keyword}
use Rattle.moo_token.specs.declared.token.ErrorName.{ErrorName}
use Rattle.moo_token.specs.Tokens.{keyword_or_other, error_or_identifier, keyword_of, error_of}
use Rattle.moo_token.proofs.Lists.{and_true, both_true, plain_character}
use Rattle.moo_token.proofs.Bad.{of_le}

letter_character : (b : ℕ) → is_letter b ≡ true → is_character b ≡ true
letter_character b h = grind (arith, nat_tests)

word_character : (b : ℕ) → is_word b ≡ true → is_character b ≡ true
word_character b h = grind (arith, nat_tests)

words_text : (w : Text) → list_all is_word w ≡ true → is_text w ≡ true
words_text [] h = refl
words_text (b ∷ w) h = let x = and_true (is_word b) (list_all is_word w) h in both_true (is_character b) (is_text w) (word_character b x.0) (words_text w x.1)

name_text : (w : Text) → is_name w ≡ true → is_text w ≡ true
name_text [] h = refl
name_text (b ∷ w) h = let x = and_true (is_letter b) (list_all is_word w) h in both_true (is_character b) (is_text w) (letter_character b x.0) (words_text w x.1)

escapes_text : {body s : Text} → Escapes body s → is_text s ≡ true
escapes_text none = refl
escapes_text (plain {s = s} b h r) = both_true (is_character b) (is_text s) (plain_character b h) (escapes_text r)
escapes_text (escaped {s = s} b h r) = both_true (is_character b) (is_text s) h (escapes_text r)

-- an identifier is the word as it is written
abbrev names_of : Token → Text → Text
names_of (identifier n) w = n
names_of _ w = w

other_name : (o : Option ErrorName) (w : Text) → names_of (error_or_identifier o w) w ≡ w
other_name (Some e) w = refl
other_name None w = refl

word_name : (o : Option Keyword) (w : Text) → names_of (keyword_or_other o w) w ≡ w
word_name (Some e) w = refl
word_name None w = other_name (error_of (fold_case w)) w

one_sound : (w : Text) (u : Token) → Spells w u → IsInRange u → is_sound u ≡ true
one_sound w (identifier n) h i = ap is_text (sym (ap (λ u. names_of u w) h.1) ∙ word_name (keyword_of (fold_case w)) w) ∙ name_text w h.0
one_sound w (integer n) h i = of_le n max_number i
one_sound w (object minus n) h i = of_le n (max_object minus) i
one_sound w (t.text s) h i = escapes_text h.2
one_sound w (keyword k) h i = refl
one_sound w (error_name e) h i = refl
one_sound w (mark s) h i = refl

pub sound : {line : ℕ} {bs : Text} {ps : List Place} {e : Ending} → IsText line bs ps e → list_all is_sound (tokens_in ps) ≡ true
sound end = refl
sound (bad h) = refl
sound (blank b h r) = sound r
sound (token {ps = ps} w u sp i l r) = both_true (is_sound u) (list_all is_sound (tokens_in ps)) (one_sound w u sp i) (sound r)
