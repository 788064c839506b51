use Rattle.held_values.proofs.held.held_fits.Goals as goal

pub returns-in-ListWalk-clause-tells : goal.returns-in-ListWalk-clause-tells
returns-in-ListWalk-clause-tells c t = rw c.in-ListWalk.is (c.list_walk_fits.ensures.tells t c.args.around)

pub returns-in-ListWalk-clause-finds : goal.returns-in-ListWalk-clause-finds
returns-in-ListWalk-clause-finds c h = c.list_walk_fits.ensures.finds c.args.around (rw c.in-ListWalk.is at h)

pub returns-in-RangeWalk-clause-tells : goal.returns-in-RangeWalk-clause-tells
returns-in-RangeWalk-clause-tells c t = rw c.in-RangeWalk.is (c.range_walk_fits.ensures.tells t c.args.around)

pub returns-in-RangeWalk-clause-finds : goal.returns-in-RangeWalk-clause-finds
returns-in-RangeWalk-clause-finds c h = c.range_walk_fits.ensures.finds c.args.around (rw c.in-RangeWalk.is at h)
