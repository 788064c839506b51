use Rattle.world_checks.proofs.object_checks.guess.guess_along.Goals as goal

pub returns-clause-ranks : goal.returns-clause-ranks
returns-clause-ranks c may all depth deep = c.in_ok-ranks.ensures may all depth deep

pub returns-clause-places : goal.returns-clause-places
returns-clause-places c may all agree = c.in_ok-places.ensures may all agree
