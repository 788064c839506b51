use Rattle.std.proofs.Common.{length}
use Rattle.local_code.proofs.moo_targets.parts.+part.Given as goal

abbrev pub decreases-part : goal.decreases-part
decreases-part l = length l.brackets.now
