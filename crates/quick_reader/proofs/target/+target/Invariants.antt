use Rattle.std.proofs.Common.{◌+◌, ◌*◌}
use Rattle.quick_reader.proofs.target.+target.Given as goal

abbrev pub decreases-target_of : goal.decreases-target_of
decreases-target_of l = 2 * l.room + 1

abbrev pub decreases-base_of : goal.decreases-base_of
decreases-base_of l = 2 * l.room
