use Rattle.speculate.specs.Lanes.{Each, HasRun}
use Rattle.std.proofs.Common.{vec_len}
use Rattle.speculate.proofs.bench.taken.Given as goal

abbrev pub invariant-ran : goal.invariant-ran
invariant-ran g l = Each (HasRun g.J.Run.base.plain g.J.Run.steps) l.lanes.items

abbrev pub decreases-ran : goal.decreases-ran
decreases-ran g l = vec_len l.ran
