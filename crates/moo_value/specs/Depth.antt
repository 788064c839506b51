-- How deep a value nests.
use Rattle.std.specs.Prelude.{ℕ, suc, max}
use Rattle.spec_value.specs.Datum.{Datum, integer, object, text, error, list, Data, no_data, item}

abbrev mutual
  pub depth : Datum → ℕ
  depth (integer _) = 0
  depth (object _) = 0
  depth (text _) = 0
  depth (error _) = 0
  depth (list xs) = suc (data_depth xs)

  pub data_depth : Data → ℕ
  data_depth no_data = 0
  data_depth (item x xs) = max (depth x) (data_depth xs)
