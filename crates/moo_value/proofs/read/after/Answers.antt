use Rattle.std.proofs.Common.{sym, ◌∙◌}
use Rattle.moo_value.proofs.Names.{nothing_after}
use Rattle.moo_value.proofs.read.after.Goals as goal

pub returns-in_default-clause-value : goal.returns-in_default-clause-value
returns-in_default-clause-value c =
    sym (nothing_after c.args.name.now c.loop-c.c-index c.loop-c.rest.now c.loop-c-test.true c.in_default.ensures) ∙ c.loop-c.invariant.1
