-- The tokens of the crate as the tokens of the definitions.
use Rattle.std.specs.Prelude.{List, [], ◌∷◌, ◌++◌, map}
use Rattle.spec_value.specs.Datum as value
use Rattle.spec_value.specs.Datum.{ErrorCode}
use Rattle.spec_program.specs.Tokens as meant
use Rattle.moo_token.specs.declared.token.Sign.{Sign}
use Rattle.moo_token.specs.declared.token.Sign.TheVariants as sign
use Rattle.moo_token.specs.declared.token.Keyword.{Keyword}
use Rattle.moo_token.specs.declared.token.Keyword.TheVariants as word
use Rattle.moo_token.specs.declared.token.ErrorName.{ErrorName}
use Rattle.moo_token.specs.declared.token.ErrorName.TheVariants as error
use Rattle.moo_token.specs.declared.fault.FaultKind.{FaultKind}
use Rattle.moo_token.specs.declared.fault.FaultKind.TheVariants as fault
use Rattle.moo_token.specs.Tokens as t
use Rattle.moo_token.specs.Tokens.{Token, Place, Ending, whole, faulty}

abbrev pub keyword_meant : Keyword → meant.Keyword
keyword_meant word.If = meant.if_word
keyword_meant word.Else = meant.else_word
keyword_meant word.ElseIf = meant.elseif_word
keyword_meant word.EndIf = meant.endif_word
keyword_meant word.For = meant.for_word
keyword_meant word.In = meant.in_word
keyword_meant word.EndFor = meant.endfor_word
keyword_meant word.While = meant.while_word
keyword_meant word.EndWhile = meant.endwhile_word
keyword_meant word.Break = meant.break_word
keyword_meant word.Continue = meant.continue_word
keyword_meant word.Return = meant.return_word
keyword_meant word.Fork = meant.fork_word
keyword_meant word.EndFork = meant.endfork_word
keyword_meant word.Try = meant.try_word
keyword_meant word.Except = meant.except_word
keyword_meant word.Finally = meant.finally_word
keyword_meant word.EndTry = meant.endtry_word
keyword_meant word.Any = meant.any_word

abbrev pub error_meant : ErrorName → ErrorCode
error_meant error.NoError = value.no_error
error_meant error.TypeMismatch = value.type_mismatch
error_meant error.ZeroDivision = value.zero_division
error_meant error.PermissionDenied = value.permission_denied
error_meant error.PropertyNotFound = value.property_not_found
error_meant error.VerbNotFound = value.verb_not_found
error_meant error.VariableNotFound = value.variable_not_found
error_meant error.InvalidIndirection = value.invalid_indirection
error_meant error.RecursiveMove = value.recursive_move
error_meant error.TooManyCalls = value.too_many_calls
error_meant error.RangeError = value.range_error
error_meant error.WrongArgumentCount = value.wrong_argument_count
error_meant error.MoveRefused = value.move_refused
error_meant error.InvalidArgument = value.invalid_argument
error_meant error.LimitExceeded = value.limit_exceeded
error_meant error.FloatError = value.float_error

abbrev pub sign_meant : Sign → meant.Sign
sign_meant sign.OpenParenthesis = meant.open_parenthesis
sign_meant sign.CloseParenthesis = meant.close_parenthesis
sign_meant sign.OpenBracket = meant.open_bracket
sign_meant sign.CloseBracket = meant.close_bracket
sign_meant sign.OpenBrace = meant.open_brace
sign_meant sign.CloseBrace = meant.close_brace
sign_meant sign.Semicolon = meant.semicolon
sign_meant sign.Comma = meant.comma
sign_meant sign.Colon = meant.colon
sign_meant sign.Dot = meant.dot
sign_meant sign.DoubleDot = meant.double_dot
sign_meant sign.Assign = meant.assign
sign_meant sign.Equal = meant.equal
sign_meant sign.Arrow = meant.arrow
sign_meant sign.Not = meant.not_sign
sign_meant sign.Differs = meant.differs_sign
sign_meant sign.Plus = meant.plus_sign
sign_meant sign.Minus = meant.minus_sign
sign_meant sign.Times = meant.times_sign
sign_meant sign.Slash = meant.slash
sign_meant sign.Percent = meant.percent
sign_meant sign.Caret = meant.caret
sign_meant sign.Less = meant.less_sign
sign_meant sign.LessOrEqual = meant.less_equal
sign_meant sign.Greater = meant.greater_sign
sign_meant sign.GreaterOrEqual = meant.greater_equal
sign_meant sign.And = meant.and_sign
sign_meant sign.Or = meant.or_sign
sign_meant sign.Bar = meant.bar
sign_meant sign.Question = meant.question
sign_meant sign.Dollar = meant.dollar
sign_meant sign.At = meant.at_sign
sign_meant sign.Backquote = meant.backquote
sign_meant sign.Quote = meant.quote

abbrev pub fault_meant : FaultKind → meant.FaultKind
fault_meant fault.Character = meant.character
fault_meant fault.Unclosed = meant.unclosed
fault_meant fault.Number = meant.number

abbrev pub token_meant : Token → meant.Token
token_meant (t.identifier w) = meant.word w
token_meant (t.keyword k) = meant.keyword (keyword_meant k)
token_meant (t.error_name e) = meant.error_name (error_meant e)
token_meant (t.integer n) = meant.integer n
token_meant (t.object minus n) = meant.object minus n
token_meant (t.text s) = meant.string s
token_meant (t.mark s) = meant.sign (sign_meant s)

abbrev pub place_meant : Place → meant.Placed
place_meant p = record { token = token_meant p.token; line = p.line }

-- a fault is the last of the tokens
abbrev pub ending_meant : Ending → List meant.Placed
ending_meant whole = []
ending_meant (faulty k line) = record { token = meant.bad (fault_meant k); line = line } ∷ []

abbrev pub all_meant : List Place → Ending → List meant.Placed
all_meant ps e = map place_meant ps ++ ending_meant e
