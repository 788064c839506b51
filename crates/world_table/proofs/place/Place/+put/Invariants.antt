use Rattle.world_table.proofs.place.Place.+put.Given as goal

abbrev pub decreases-put : goal.decreases-put
decreases-put g l = l.levels
