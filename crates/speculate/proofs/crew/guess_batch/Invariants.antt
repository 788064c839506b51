use Rattle.std.proofs.Common.{◌≡◌, All}
use Rattle.speculate.proofs.crew.guess_batch.Given as goal

abbrev pub invariant-at : goal.invariant-at
invariant-at g l = All (λ f. f.1.before ≡ l.snapshot) l.found.items
