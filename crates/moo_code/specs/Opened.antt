-- For proofs that compute: to unfold `machine_opened` is to unfold each definition that a run of instructions goes through.
use Rattle.moo_code.specs.Performing.{performed}
use Rattle.moo_code.specs.Machine.{natively_does, does}
use Rattle.moo_code.specs.Runs.{ran}

unfoldable pub machine_opened : Unit {0}
unfolding performed natively_does does ran
machine_opened = tt
