use Rattle.held_values.proofs.Telling.{failed_so}
use Rattle.held_values.proofs.leaving.error_fits.Goals as goal

pub returns-then-rest-ne4-clause-finds : goal.returns-then-rest-ne4-clause-finds
returns-then-rest-ne4-clause-finds c around h = absurd (c.if-rest-ne4.true (failed_so around c.args.rest.now h))
