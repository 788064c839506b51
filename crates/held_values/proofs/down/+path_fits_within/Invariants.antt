use Rattle.std.proofs.Common.{length}
use Rattle.held_values.proofs.down.+path_fits_within.Given as goal

abbrev pub decreases-path_fits_within : goal.decreases-path_fits_within
decreases-path_fits_within l = length l.path.now
