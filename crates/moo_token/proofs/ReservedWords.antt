-- The token of a word, by its spelling in lower case.
use Rattle.std.proofs.Common.{◌≡◌, Some, None, ap, ◌∙◌}
use Rattle.spec_value.specs.Datum.{Text, fold_case}
use Rattle.moo_token.specs.declared.token.Keyword.{Keyword}
use Rattle.moo_token.specs.declared.token.ErrorName.{ErrorName}
use Rattle.moo_token.specs.Tokens.{keyword, error_name, identifier, keyword_of, error_of, keyword_or_other, error_or_identifier, word_of}

pub keyword_is : (w f : Text) (k : Keyword) → f ≡ fold_case w → Some k ≡ keyword_of f → keyword k ≡ word_of w
keyword_is w f k h e = ap (λ o. keyword_or_other o w) (e ∙ ap keyword_of h)

pub other_is : (w f : Text) → f ≡ fold_case w → None ≡ keyword_of f → error_or_identifier (error_of f) w ≡ word_of w
other_is w f h e = ap (λ g. error_or_identifier (error_of g) w) h ∙ ap (λ o. keyword_or_other o w) (e ∙ ap keyword_of h)

pub error_is : (w f : Text) (n : ErrorName) → f ≡ fold_case w → None ≡ keyword_of f → Some n ≡ error_of f → error_name n ≡ word_of w
error_is w f n h e x = ap (λ o. error_or_identifier o w) x ∙ other_is w f h e

pub identifier_is : (w f : Text) → f ≡ fold_case w → None ≡ keyword_of f → None ≡ error_of f → identifier w ≡ word_of w
identifier_is w f h e x = ap (λ o. error_or_identifier o w) x ∙ other_is w f h e
