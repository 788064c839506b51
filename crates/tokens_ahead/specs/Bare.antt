-- The tokens of a text, on whatever lines they stand.
use Rattle.std.specs.Prelude.{List, map}
use Rattle.spec_value.specs.Datum.{Text}
use Rattle.spec_program.specs.Tokens.{Token, Placed, tokens_of}

abbrev pub tokens_in : List Placed → List Token
tokens_in ts = map (λ p. p.token) ts

unfoldable pub bare : Text → List Token
bare t = tokens_in (tokens_of t)
