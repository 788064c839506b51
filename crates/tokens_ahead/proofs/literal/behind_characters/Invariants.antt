use Rattle.std.proofs.Common.{◌≡◌, ◌++◌, List, ℕ, drop}
use Rattle.spec_value.specs.Literal.{escaped}
use Rattle.tokens_ahead.proofs.literal.behind_characters.Given as goal

abbrev pub invariant-loop-byte : goal.invariant-loop-byte
invariant-loop-byte l = (r : List ℕ) → l.rest ≡ escaped (drop l.byte-index l.fn.characters) ++ r → l.fn.text ≡ escaped l.fn.characters ++ r
