use Rattle.std.proofs.Common.{IsTrue, subst}
use Rattle.spec_program.specs.Place.{walks_list}
use Rattle.spec_world.specs.WellFormed.{held_fits}
use Rattle.held_values.proofs.Telling.{walk_two}
use Rattle.held_values.proofs.ValueKinds.{two_apart}
use Rattle.held_values.proofs.walk.list_walk_fits.Goals as goal

pub returns-then-held-eq2-clause-tells : goal.returns-then-held-eq2-clause-tells
returns-then-held-eq2-clause-tells c t around =
    rw (two_apart c.args.held.now c.index-held-0.result c.index-held-1.result c.if-held-eq2.true c.index-held-0.is c.index-held-1.is) (c.turns_fit.ensures.tells t around)

pub returns-then-held-eq2-clause-finds : goal.returns-then-held-eq2-clause-finds
returns-then-held-eq2-clause-finds c around h =
    c.turns_fit.ensures.finds around
    (subst (λ vs. IsTrue (held_fits around walks_list vs))
    (two_apart c.args.held.now c.index-held-0.result c.index-held-1.result c.if-held-eq2.true c.index-held-0.is c.index-held-1.is) h)

pub returns-else-held-eq2-clause-finds : goal.returns-else-held-eq2-clause-finds
returns-else-held-eq2-clause-finds c around h = absurd (c.if-held-eq2.false (walk_two around c.args.held.now h))
