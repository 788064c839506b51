use Rattle.std.proofs.Common.{◌≡◌}
use Rattle.tokens_ahead.specs.Bare.{bare}
use Rattle.tokens_ahead.proofs.front.behind_blanks.Given as goal

abbrev pub invariant-loop : goal.invariant-loop
invariant-loop l = bare l.rest ≡ bare l.fn.text
