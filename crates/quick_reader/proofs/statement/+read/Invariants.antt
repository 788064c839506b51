use Rattle.std.proofs.Common.{◌+◌, ◌-◌, ◌*◌}
use Rattle.quick_reader.proofs.statement.+read.Given as goal

-- how many statements may stand within one at this depth

abbrev pub decreases-read_block : goal.decreases-read_block
decreases-read_block l = 8 * (100 - l.depth) + 6

abbrev pub decreases-read_statement : goal.decreases-read_statement
decreases-read_statement l = 8 * (100 - l.depth) + 5

abbrev pub decreases-read_body : goal.decreases-read_body
decreases-read_body l = 8 * (100 - l.depth) + 1

abbrev pub decreases-read_loop : goal.decreases-read_loop
decreases-read_loop l = 8 * (100 - l.depth) + 2

abbrev pub decreases-read_if : goal.decreases-read_if
decreases-read_if l = 8 * (100 - l.depth) + 4

abbrev pub decreases-read_branches : goal.decreases-read_branches
decreases-read_branches l = 8 * (100 - l.depth) + 2

abbrev pub decreases-read_else : goal.decreases-read_else
decreases-read_else l = 8 * (100 - l.depth) + 3

abbrev pub decreases-read_for : goal.decreases-read_for
decreases-read_for l = 8 * (100 - l.depth) + 3

abbrev pub decreases-read_while : goal.decreases-read_while
decreases-read_while l = 8 * (100 - l.depth) + 3

abbrev pub decreases-read_fork : goal.decreases-read_fork
decreases-read_fork l = 8 * (100 - l.depth) + 3

abbrev pub decreases-read_try : goal.decreases-read_try
decreases-read_try l = 8 * (100 - l.depth) + 4

abbrev pub decreases-read_arms : goal.decreases-read_arms
decreases-read_arms l = 8 * (100 - l.depth) + 3

abbrev pub decreases-read_arm : goal.decreases-read_arm
decreases-read_arm l = 8 * (100 - l.depth) + 2
