use Rattle.world_table.proofs.place.Place.+with.Given as goal

abbrev pub decreases-with : goal.decreases-with
decreases-with g l = l.levels
