use Rattle.std.proofs.Common.{IsTrue, subst}
use Rattle.spec_program.specs.Place.{why_left}
use Rattle.spec_world.specs.WellFormed.{held_fits}
use Rattle.held_values.proofs.Telling.{left_one}
use Rattle.held_values.proofs.ValueKinds.{one_apart}
use Rattle.held_values.proofs.leaving.leaving_fits.Goals as goal

pub returns-then-held-eq1-clause-finds : goal.returns-then-held-eq1-clause-finds
returns-then-held-eq1-clause-finds c h =
    c.tells_leaving.ensures.finds
    (subst (λ vs. IsTrue (held_fits c.args.around why_left vs)) (one_apart c.args.held.now c.index-held-0.result c.if-held-eq1.true c.index-held-0.is) h)

pub returns-else-held-eq1-clause-finds : goal.returns-else-held-eq1-clause-finds
returns-else-held-eq1-clause-finds c h = absurd (c.if-held-eq1.false (left_one c.args.around c.args.held.now h))
