use Rattle.moo_code.proofs.Out.{steps_follow}
use Rattle.moo_code.proofs.Rows.Every.{every_construct_fits}
use Rattle.moo_code.proofs.machine.steps.Goals as goal

pub returns : goal.returns
returns c = steps_follow every_construct_fits
