use Rattle.speculate.proofs.bench.run_lanes.Goals as goal

pub returns : goal.returns
returns g c = rw (c.requires.base, c.requires.list) c.taken.ensures
