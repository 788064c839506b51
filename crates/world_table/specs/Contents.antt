-- What callers see of a table.
use Rattle.std.specs.Prelude.{ℕ, List, refl}
use Rattle.std.specs.Coded.{Coded, code_by, coded×, coded_ℕ, coded_list}

-- the entries in rising order of keys, and how many blocks were built to make the table of the one that it came from
pub record Contents (V : Type 0) : Type 0 where
  pub entries : List (ℕ × V)
  pub blocks : ℕ

abbrev pub contents_code : {V : Type 0} → Coded V → Coded (Contents V)
contents_code {V} v =
    code_by (List (ℕ × V) × ℕ) (coded× (coded_list (coded× coded_ℕ v)) coded_ℕ) (λ c. (c.entries, c.blocks)) (λ p. record { entries = p.0; blocks = p.1 }) (λ _. refl)
