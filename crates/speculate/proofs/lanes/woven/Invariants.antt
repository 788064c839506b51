use Rattle.speculate.proofs.lanes.woven.Given as goal

-- the steps, from the world on
abbrev pub ghosts-run_lanes : goal.ghosts-run_lanes
ghosts-run_lanes g a = record { base = record { plain = a.home.now; opened = 0 }; steps = a.steps.now }
