-- Which tokens begin a step behind an operand.
use Rattle.std.specs.Prelude.{Bool, true, false, List, [], ◌∷◌}
use Rattle.spec_program.specs.Tokens as t
use Rattle.spec_program.specs.Tokens.{Token, Placed}

abbrev pub is_step : Token → Bool
is_step (t.sign t.dot) = true
is_step (t.sign t.colon) = true
is_step (t.sign t.open_bracket) = true
is_step x = false

abbrev pub begins_step : List Placed → Bool
begins_step [] = false
begins_step (p ∷ ts) = is_step p.token
