-- The name that a word is, in lower case.
use Rattle.std.specs.Prelude.{ℕ, Option, Some, None}
use Rattle.spec_value.specs.Datum.{Text, fold_case}

abbrev pub name_taken : Option (Text × ℕ) → Option Text
name_taken None = None
name_taken (Some w) = Some (fold_case w.0)
