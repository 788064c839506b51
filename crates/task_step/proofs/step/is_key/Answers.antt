use Rattle.std.proofs.Common.{sym}
use Rattle.task_step.proofs.Bytes.{key_fits}
use Rattle.task_step.proofs.step.is_key.Goals as goal

pub returns : goal.returns
returns c = sym (key_fits _ c.told-key c.fits-key)
