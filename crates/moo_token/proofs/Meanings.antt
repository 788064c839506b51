-- A word is the same token to the crate and to the definitions, and so is a sign.
use Rattle.std.proofs.Common.{◌≡◌, ℕ, Bool, true, false, cond, List, [], ◌∷◌, Option, Some, None, refl, sym, ap, ◌∙◌}
use Rattle.std.specs.Prelude.{◌==◌, ◌&&◌, codes, option_map}
use Rattle.std.proofs.Common.{arith}
use Rattle.std.proofs.lemmas.Bool.Decides.{nat_tests}
use Rattle.spec_value.specs.Datum as value
use Rattle.spec_value.specs.Datum.{Text, same_text, fold_case}
use Rattle.spec_program.specs.Tokens as meant
use Rattle.spec_program.specs.Tokens.{looked_up, word_token, one_sign, longer_sign}
use Rattle.moo_token.specs.declared.token.Sign.{Sign}
use Rattle.moo_token.specs.declared.token.Sign.TheVariants as sign
use Rattle.moo_token.specs.declared.token.Keyword.{Keyword}
use Rattle.moo_token.specs.declared.token.Keyword.TheVariants as word
use Rattle.moo_token.specs.declared.token.ErrorName.{ErrorName}
use Rattle.moo_token.specs.declared.token.ErrorName.TheVariants as error
use Rattle.moo_token.specs.Tokens.{word_of, keyword_or_other, error_or_identifier, error_of, sign_of}
use Rattle.moo_token.specs.Cutting.{longer}
use Rattle.moo_token.specs.Meaning.{keyword_meant, error_meant, sign_meant, token_meant}

pub bool_same : (a b : Bool) → (a ≡ true → b ≡ true) → (b ≡ true → a ≡ true) → a ≡ b
bool_same true b f g = sym (f refl)
bool_same false true f g = g refl
bool_same false false f g = refl

same_number : (m n : ℕ) → (m == n) ≡ (n == m)
same_number m n = bool_same _ _ (λ h. grind (arith, nat_tests)) (λ h. grind (arith, nat_tests))

and_same : (a b c d : Bool) → a ≡ b → c ≡ d → (a && c) ≡ (b && d)
and_same a b c d h e = ap (λ x. x && c) h ∙ ap (λ x. b && x) e

same_either_way : (s t : Text) → same_text s t ≡ same_text t s
same_either_way [] [] = refl
same_either_way [] (d ∷ t) = refl
same_either_way (c ∷ s) [] = refl
same_either_way (c ∷ s) (d ∷ t) = and_same _ _ _ _ (same_number c d) (same_either_way s t)

error_step : (b c : Bool) (e : ErrorName) (o : Option ErrorName) (w : Text) (other : meant.Token) → b ≡ c → token_meant (error_or_identifier o w) ≡ other
    → token_meant (error_or_identifier (cond b (Some e) o) w) ≡ cond c (meant.error_name (error_meant e)) other
error_step true true e o w other h k = refl
error_step false false e o w other h k = k
error_step true false e o w other h k = absurd (cc)
error_step false true e o w other h k = absurd (cc)

word_step : (b c : Bool) (k : Keyword) (o : Option Keyword) (w : Text) (other : meant.Token) → b ≡ c → token_meant (keyword_or_other o w) ≡ other
    → token_meant (keyword_or_other (cond b (Some k) o) w) ≡ cond c (meant.keyword (keyword_meant k)) other
word_step true true k o w other h e = refl
word_step false false k o w other h e = e
word_step true false k o w other h e = absurd (cc)
word_step false true k o w other h e = absurd (cc)

abbrev errors : List (Text × meant.Token)
errors =
    (codes "e_none", meant.error_name value.no_error) ∷ (codes "e_type", meant.error_name value.type_mismatch) ∷ (codes "e_div", meant.error_name value.zero_division) ∷ (codes "e_perm", meant.error_name value.permission_denied) ∷ (codes "e_propnf", meant.error_name value.property_not_found) ∷ (codes "e_verbnf", meant.error_name value.verb_not_found) ∷ (codes "e_varnf", meant.error_name value.variable_not_found) ∷ (codes "e_invind", meant.error_name value.invalid_indirection) ∷ (codes "e_recmove", meant.error_name value.recursive_move) ∷ (codes "e_maxrec", meant.error_name value.too_many_calls) ∷ (codes "e_range", meant.error_name value.range_error) ∷ (codes "e_args", meant.error_name value.wrong_argument_count) ∷ (codes "e_nacc", meant.error_name value.move_refused) ∷ (codes "e_invarg", meant.error_name value.invalid_argument) ∷ (codes "e_quota", meant.error_name value.limit_exceeded) ∷ (codes "e_float", meant.error_name value.float_error) ∷ []

error_words : (f w : Text) → token_meant (error_or_identifier (error_of f) w) ≡ looked_up errors f (meant.word w)
unfolding looked_up
error_words f w =
    error_step _ _ error.NoError _ w _ (same_either_way f (codes "e_none"))
    (error_step _ _ error.TypeMismatch _ w _ (same_either_way f (codes "e_type"))
    (error_step _ _ error.ZeroDivision _ w _ (same_either_way f (codes "e_div"))
    (error_step _ _ error.PermissionDenied _ w _ (same_either_way f (codes "e_perm"))
    (error_step _ _ error.PropertyNotFound _ w _ (same_either_way f (codes "e_propnf"))
    (error_step _ _ error.VerbNotFound _ w _ (same_either_way f (codes "e_verbnf"))
    (error_step _ _ error.VariableNotFound _ w _ (same_either_way f (codes "e_varnf"))
    (error_step _ _ error.InvalidIndirection _ w _ (same_either_way f (codes "e_invind"))
    (error_step _ _ error.RecursiveMove _ w _ (same_either_way f (codes "e_recmove"))
    (error_step _ _ error.TooManyCalls _ w _ (same_either_way f (codes "e_maxrec"))
    (error_step _ _ error.RangeError _ w _ (same_either_way f (codes "e_range"))
    (error_step _ _ error.WrongArgumentCount _ w _ (same_either_way f (codes "e_args"))
    (error_step _ _ error.MoveRefused _ w _ (same_either_way f (codes "e_nacc"))
    (error_step _ _ error.InvalidArgument _ w _ (same_either_way f (codes "e_invarg"))
    (error_step _ _ error.LimitExceeded _ w _ (same_either_way f (codes "e_quota"))
    (error_step _ _ error.FloatError _ w _ (same_either_way f (codes "e_float"))
    refl)))))))))))))))

pub word_meant : (w : Text) → token_meant (word_of w) ≡ word_token w
unfolding looked_up
word_meant w =
    let f = fold_case w in
    word_step _ _ word.If _ w _ (same_either_way f (codes "if"))
    (word_step _ _ word.Else _ w _ (same_either_way f (codes "else"))
    (word_step _ _ word.ElseIf _ w _ (same_either_way f (codes "elseif"))
    (word_step _ _ word.EndIf _ w _ (same_either_way f (codes "endif"))
    (word_step _ _ word.For _ w _ (same_either_way f (codes "for"))
    (word_step _ _ word.In _ w _ (same_either_way f (codes "in"))
    (word_step _ _ word.EndFor _ w _ (same_either_way f (codes "endfor"))
    (word_step _ _ word.While _ w _ (same_either_way f (codes "while"))
    (word_step _ _ word.EndWhile _ w _ (same_either_way f (codes "endwhile"))
    (word_step _ _ word.Break _ w _ (same_either_way f (codes "break"))
    (word_step _ _ word.Continue _ w _ (same_either_way f (codes "continue"))
    (word_step _ _ word.Return _ w _ (same_either_way f (codes "return"))
    (word_step _ _ word.Fork _ w _ (same_either_way f (codes "fork"))
    (word_step _ _ word.EndFork _ w _ (same_either_way f (codes "endfork"))
    (word_step _ _ word.Try _ w _ (same_either_way f (codes "try"))
    (word_step _ _ word.Except _ w _ (same_either_way f (codes "except"))
    (word_step _ _ word.Finally _ w _ (same_either_way f (codes "finally"))
    (word_step _ _ word.EndTry _ w _ (same_either_way f (codes "endtry"))
    (word_step _ _ word.Any _ w _ (same_either_way f (codes "any"))
    (error_words f w)))))))))))))))))))

sign_step : (b : Bool) (m : Sign) (x : meant.Sign) (o : Option Sign) (other : Option meant.Sign) → sign_meant m ≡ x → option_map sign_meant o ≡ other
    → option_map sign_meant (cond b (Some m) o) ≡ cond b (Some x) other
sign_step true m x o other h k = ap Some h
sign_step false m x o other h k = k

pub sign_is : (b : ℕ) → option_map sign_meant (sign_of b) ≡ one_sign b
sign_is b =
    sign_step (b == 40) sign.OpenParenthesis _ _ _ refl
    (sign_step (b == 41) sign.CloseParenthesis _ _ _ refl
    (sign_step (b == 91) sign.OpenBracket _ _ _ refl
    (sign_step (b == 93) sign.CloseBracket _ _ _ refl
    (sign_step (b == 123) sign.OpenBrace _ _ _ refl
    (sign_step (b == 125) sign.CloseBrace _ _ _ refl
    (sign_step (b == 59) sign.Semicolon _ _ _ refl
    (sign_step (b == 44) sign.Comma _ _ _ refl
    (sign_step (b == 58) sign.Colon _ _ _ refl
    (sign_step (b == 46) sign.Dot _ _ _ refl
    (sign_step (b == 61) sign.Assign _ _ _ refl
    (sign_step (b == 33) sign.Not _ _ _ refl
    (sign_step (b == 43) sign.Plus _ _ _ refl
    (sign_step (b == 45) sign.Minus _ _ _ refl
    (sign_step (b == 42) sign.Times _ _ _ refl
    (sign_step (b == 47) sign.Slash _ _ _ refl
    (sign_step (b == 37) sign.Percent _ _ _ refl
    (sign_step (b == 94) sign.Caret _ _ _ refl
    (sign_step (b == 60) sign.Less _ _ _ refl
    (sign_step (b == 62) sign.Greater _ _ _ refl
    (sign_step (b == 124) sign.Bar _ _ _ refl
    (sign_step (b == 63) sign.Question _ _ _ refl
    (sign_step (b == 36) sign.Dollar _ _ _ refl
    (sign_step (b == 64) sign.At _ _ _ refl
    (sign_step (b == 96) sign.Backquote _ _ _ refl
    (sign_step (b == 39) sign.Quote _ _ _ refl
    refl)))))))))))))))))))))))))

pub longer_is_meant : (m : Sign) (d : ℕ) → option_map sign_meant (longer m d) ≡ longer_sign (sign_meant m) d
longer_is_meant sign.OpenParenthesis d = refl
longer_is_meant sign.CloseParenthesis d = refl
longer_is_meant sign.OpenBracket d = refl
longer_is_meant sign.CloseBracket d = refl
longer_is_meant sign.OpenBrace d = refl
longer_is_meant sign.CloseBrace d = refl
longer_is_meant sign.Semicolon d = refl
longer_is_meant sign.Comma d = refl
longer_is_meant sign.Colon d = refl
longer_is_meant sign.Dot d = sign_step (d == 46) sign.DoubleDot _ None _ refl refl
longer_is_meant sign.DoubleDot d = refl
longer_is_meant sign.Assign d = sign_step (d == 61) sign.Equal _ _ _ refl (sign_step (d == 62) sign.Arrow _ None _ refl refl)
longer_is_meant sign.Equal d = refl
longer_is_meant sign.Arrow d = refl
longer_is_meant sign.Not d = sign_step (d == 61) sign.Differs _ None _ refl refl
longer_is_meant sign.Differs d = refl
longer_is_meant sign.Plus d = refl
longer_is_meant sign.Minus d = refl
longer_is_meant sign.Times d = refl
longer_is_meant sign.Slash d = refl
longer_is_meant sign.Percent d = refl
longer_is_meant sign.Caret d = refl
longer_is_meant sign.Less d = sign_step (d == 61) sign.LessOrEqual _ None _ refl refl
longer_is_meant sign.LessOrEqual d = refl
longer_is_meant sign.Greater d = sign_step (d == 61) sign.GreaterOrEqual _ None _ refl refl
longer_is_meant sign.GreaterOrEqual d = refl
longer_is_meant sign.And d = refl
longer_is_meant sign.Or d = refl
longer_is_meant sign.Bar d = sign_step (d == 124) sign.Or _ None _ refl refl
longer_is_meant sign.Question d = refl
longer_is_meant sign.Dollar d = refl
longer_is_meant sign.At d = refl
longer_is_meant sign.Backquote d = refl
longer_is_meant sign.Quote d = refl
