use Rattle.std.proofs.Common.{ap, rules}
use Rattle.std.proofs.lemmas.Int.{wraps}
use Rattle.spec_value.specs.Datum.{integer}
use Rattle.spec_value.specs.Answer.{gives}
use Rattle.moo_arith.proofs.arithmetic.difference.Goals as goal

pub returns : goal.returns
returns c = rw c.integer.ensures (ap (λ z. gives (integer z)) (search (rules, wraps)))
