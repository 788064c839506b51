use Rattle.std.proofs.lemmas.Result.{IfOk-weaker}
use Rattle.world_checks.proofs.task_checks.outers.outer_fits.Goals as goal

pub returns-in-Verb-clause-finds : goal.returns-in-Verb-clause-finds
returns-in-Verb-clause-finds c =
    rw c.in-Verb.is
    (IfOk-weaker c.frame_fits.result _ _ (λ b h found. h found.frame found.waits found.stands found.fits) c.frame_fits.ensures.finds)
