use Rattle.std.proofs.Common.{ap, rules}
use Rattle.std.proofs.lemmas.Int.{wraps}
use Rattle.spec_value.specs.Datum.{integer}
use Rattle.spec_value.specs.Answer.{gives}
use Rattle.moo_arith.proofs.arithmetic.negate.Goals as goal

pub returns-in-Integer : goal.returns-in-Integer
returns-in-Integer c = rw (c.integer.ensures, ← c.in-Integer.ensures) (ap (λ z. gives (integer z)) (search (rules, wraps)))
