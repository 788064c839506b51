-- How values are written (Programmer's Manual, "Operations on Values": `tostr()` and `toliteral()`).
use Rattle.std.specs.Prelude.{◌≡◌, ℕ, [], ◌∷◌, ◌++◌, if◌then◌else◌, ◌==◌, ◌||◌, codes, IsTrue}
use Rattle.std.specs.Fmt.{signed_decimal}
use Rattle.spec_value.specs.Datum.{Text, ErrorCode, no_error, type_mismatch, zero_division, permission_denied, property_not_found, verb_not_found, variable_not_found, invalid_indirection, recursive_move, too_many_calls, range_error, wrong_argument_count, move_refused, invalid_argument, limit_exceeded, float_error, Datum, integer, object, text, error, list, Data, no_data, item, is_value}

abbrev pub error_name : ErrorCode → Text
error_name no_error = codes "E_NONE"
error_name type_mismatch = codes "E_TYPE"
error_name zero_division = codes "E_DIV"
error_name permission_denied = codes "E_PERM"
error_name property_not_found = codes "E_PROPNF"
error_name verb_not_found = codes "E_VERBNF"
error_name variable_not_found = codes "E_VARNF"
error_name invalid_indirection = codes "E_INVIND"
error_name recursive_move = codes "E_RECMOVE"
error_name too_many_calls = codes "E_MAXREC"
error_name range_error = codes "E_RANGE"
error_name wrong_argument_count = codes "E_ARGS"
error_name move_refused = codes "E_NACC"
error_name invalid_argument = codes "E_INVARG"
error_name limit_exceeded = codes "E_QUOTA"
error_name float_error = codes "E_FLOAT"

abbrev pub error_message : ErrorCode → Text
error_message no_error = codes "No error"
error_message type_mismatch = codes "Type mismatch"
error_message zero_division = codes "Division by zero"
error_message permission_denied = codes "Permission denied"
error_message property_not_found = codes "Property not found"
error_message verb_not_found = codes "Verb not found"
error_message variable_not_found = codes "Variable not found"
error_message invalid_indirection = codes "Invalid indirection"
error_message recursive_move = codes "Recursive move"
error_message too_many_calls = codes "Too many verb calls"
error_message range_error = codes "Range error"
error_message wrong_argument_count = codes "Incorrect number of arguments"
error_message move_refused = codes "Move refused by object"
error_message invalid_argument = codes "Invalid argument"
error_message limit_exceeded = codes "Resource limit exceeded"
error_message float_error = codes "Floating-point arithmetic error"

-- a backslash stands before a quote and a backslash
abbrev pub escape : ℕ → Text
escape c = if (c == 34 || c == 92) then 92 ∷ c ∷ [] else c ∷ []

abbrev pub escaped : Text → Text
escaped [] = []
escaped (c ∷ t) = escape c ++ escaped t

-- as a program would write the value
abbrev mutual
  pub literal : Datum → Text
  literal (integer z) = signed_decimal z
  literal (object z) = 35 ∷ signed_decimal z
  literal (text t) = 34 ∷ (escaped t ++ 34 ∷ [])
  literal (error e) = error_name e
  literal (list xs) = 123 ∷ (data_text xs ++ 125 ∷ [])

  pub data_text : Data → Text
  data_text no_data = []
  data_text (item x xs) = literal x ++ more_text xs

  -- a comma and a space before each
  pub more_text : Data → Text
  more_text no_data = []
  more_text (item x xs) = 44 ∷ 32 ∷ (literal x ++ more_text xs)

-- as people would read the value
abbrev pub to_text : Datum → Text
to_text (integer z) = signed_decimal z
to_text (object z) = 35 ∷ signed_decimal z
to_text (text t) = t
to_text (error e) = error_message e
to_text (list xs) = codes "{list}"

-- the text is the literal of no value
abbrev pub IsNoLiteral : Text → Type 0
IsNoLiteral t = (d : Datum) → IsTrue (is_value d) → literal d ≡ t → ⊥
