use Rattle.std.proofs.Common.{ℤ, arith}
use Rattle.speculate.specs.Tables.{IsThere}
use Rattle.speculate.proofs.Tables.{first_more, first_all}
use Rattle.speculate.proofs.fence.are_free.Goals as goal

pub at-init : goal.at-init
at-init c k o below = absurd (omega (arith, below))

pub at-preserved : goal.at-preserved
at-preserved c = first_more (λ (o : ℤ). IsThere c.args.table.now o → ⊥) c.args.objects.now c.at.at (c.is_free.ensures c.if-not-is_free.false) c.at.invariant

pub returns : goal.returns
returns c done = first_all (λ (o : ℤ). IsThere c.args.table.now o → ⊥) c.args.objects.now c.at.at (omega arith) c.at.invariant
