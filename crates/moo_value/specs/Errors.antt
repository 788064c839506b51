-- The errors of the definitions, by their names here.
use Rattle.spec_value.specs.Datum.{ErrorCode, no_error, type_mismatch, zero_division, permission_denied, property_not_found, verb_not_found, variable_not_found, invalid_indirection, recursive_move, too_many_calls, range_error, wrong_argument_count, move_refused, invalid_argument, limit_exceeded, float_error}
use Rattle.moo_value.specs.declared.error.MooError.{MooError}
use Rattle.moo_value.specs.declared.error.MooError.TheVariants.{NoError, TypeMismatch, ZeroDivision, PermissionDenied, PropertyNotFound, VerbNotFound, VariableNotFound, InvalidIndirection, RecursiveMove, TooManyCalls, RangeError, WrongArgumentCount, MoveRefused, InvalidArgument, LimitExceeded, FloatError}

abbrev pub code_of : MooError → ErrorCode
code_of NoError = no_error
code_of TypeMismatch = type_mismatch
code_of ZeroDivision = zero_division
code_of PermissionDenied = permission_denied
code_of PropertyNotFound = property_not_found
code_of VerbNotFound = verb_not_found
code_of VariableNotFound = variable_not_found
code_of InvalidIndirection = invalid_indirection
code_of RecursiveMove = recursive_move
code_of TooManyCalls = too_many_calls
code_of RangeError = range_error
code_of WrongArgumentCount = wrong_argument_count
code_of MoveRefused = move_refused
code_of InvalidArgument = invalid_argument
code_of LimitExceeded = limit_exceeded
code_of FloatError = float_error
