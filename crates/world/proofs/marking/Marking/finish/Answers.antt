use Rattle.std.proofs.Common.{subst}
use Rattle.world.specs.Marked.{AreOnThese}
use Rattle.world.specs.Trace.{Trace}
use Rattle.world.proofs.marking.Marking.finish.Goals as goal

pub returns-clause-objects : goal.returns-clause-objects
returns-clause-objects c = subst (λ (t : Trace). AreOnThese t.home t.reads c.self.inside.objects.items) c.self.view_is c.self.invariant.1
