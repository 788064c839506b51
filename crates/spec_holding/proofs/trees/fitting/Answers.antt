-- Trees under way and their loops.
use Rattle.spec_holding.proofs.TreesFit.{linked_fits, all_in_bodies, loops_are_left}
use Rattle.spec_holding.proofs.trees.fitting.Goals as goal

pub returns-clause-fits : goal.returns-clause-fits
returns-clause-fits c = linked_fits

pub returns-clause-bodies : goal.returns-clause-bodies
returns-clause-bodies c = all_in_bodies

pub returns-clause-left : goal.returns-clause-left
returns-clause-left c = loops_are_left
