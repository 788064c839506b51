use Rattle.spec_program.specs.Place.{codes_kind}
use Rattle.moo_tree.specs.ExpressionView.{codes_of}
use Rattle.std.proofs.Common.{◌∷◌, []}
use Rattle.held_values.proofs.Telling.{as_many, only_kind}
use Rattle.held_values.proofs.held.is_codes.Goals as goal

pub returns-then-held-eq1-clause-finds : goal.returns-then-held-eq1-clause-finds
returns-then-held-eq1-clause-finds c h =
    c.code_fits.ensures.finds (only_kind (codes_kind (codes_of c.args.codes.now)) c.args.held.now c.index-held-0.result h c.index-held-0.is)

pub returns-else-held-eq1-clause-finds : goal.returns-else-held-eq1-clause-finds
returns-else-held-eq1-clause-finds c h = absurd (c.if-held-eq1.false (as_many (codes_kind (codes_of c.args.codes.now) ∷ []) c.args.held.now h))
