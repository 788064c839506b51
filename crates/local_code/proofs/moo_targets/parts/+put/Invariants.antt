use Rattle.std.proofs.Common.{length}
use Rattle.local_code.proofs.moo_targets.parts.+put.Given as goal

abbrev pub decreases-put : goal.decreases-put
decreases-put l = length l.brackets.now
