-- What is still to be written where lists are open in lists.
use Rattle.std.specs.Prelude.{List, [], ◌∷◌, ◌++◌, Option, Some, None}
use Rattle.std.specs.Borrow.{Bor}
use Rattle.spec_value.specs.Datum.{Datum, Text, of_list}
use Rattle.spec_value.specs.Literal.{literal, data_text, more_text}

-- behind an item of the innermost list: what is left of each list, the outermost first, and then this
abbrev pub closed_before : List (Bor (List Datum)) → Text → Text
closed_before [] t = t
closed_before (r ∷ rs) t = closed_before rs (more_text (of_list r.now) ++ (125 ∷ t))

abbrev pub closed : List (Bor (List Datum)) → Text
closed rs = closed_before rs []

-- a value, and what is behind it
abbrev pub to_come : Datum → List (Bor (List Datum)) → Text
to_come x rs = literal x ++ closed rs

-- the same where a value may come
abbrev pub still_to_come : Option (Bor Datum) → List (Bor (List Datum)) → Text
still_to_come None rs = closed rs
still_to_come (Some x) rs = to_come x.now rs

-- a whole list from its front, and what is behind it
abbrev pub first_to_last : List Datum → List (Bor (List Datum)) → Text
first_to_last xs rs = 123 ∷ (data_text (of_list xs) ++ (125 ∷ closed rs))

-- a list of which this is left, and what is behind it
abbrev pub more_to_last : List Datum → List (Bor (List Datum)) → Text
more_to_last xs rs = more_text (of_list xs) ++ (125 ∷ closed rs)
