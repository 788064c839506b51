-- The texts of errors are texts of the language.
use Rattle.std.proofs.Common.{IsTrue, refl}
use Rattle.spec_value.specs.Datum.{is_text, ErrorCode, no_error, type_mismatch, zero_division, permission_denied, property_not_found, verb_not_found, variable_not_found, invalid_indirection, recursive_move, too_many_calls, range_error, wrong_argument_count, move_refused, invalid_argument, limit_exceeded, float_error}
use Rattle.spec_value.specs.Literal.{error_message}

pub message_is_text : (e : ErrorCode) → IsTrue (is_text (error_message e))
message_is_text no_error = refl
message_is_text type_mismatch = refl
message_is_text zero_division = refl
message_is_text permission_denied = refl
message_is_text property_not_found = refl
message_is_text verb_not_found = refl
message_is_text variable_not_found = refl
message_is_text invalid_indirection = refl
message_is_text recursive_move = refl
message_is_text too_many_calls = refl
message_is_text range_error = refl
message_is_text wrong_argument_count = refl
message_is_text move_refused = refl
message_is_text invalid_argument = refl
message_is_text limit_exceeded = refl
message_is_text float_error = refl
