-- A step of the world, and a list of steps (Programmer's Manual, "Server Commands and Database Assumptions" and "Tasks").
pub mod Outcomes
pub mod Running
pub mod Programming
pub mod Events
pub mod Printing
use Rattle.std.specs.Prelude.{ℕ, suc, max, List, [], ◌∷◌, if◌then◌else◌}
use Rattle.spec_world.specs.World.{World}
use Rattle.spec_world.specs.Step.{Step}
use Rattle.spec_world.specs.Outcome.{Outcome, ended}
use Rattle.spec_moo.specs.Steps.Outcomes.{idle_with}
use Rattle.spec_moo.specs.Steps.Events.{event}

-- the next number is raised first: it is the greater of n + 1 and the one before
abbrev pub numbered : ℕ → World → World
numbered n w = record w { next = max (suc n) w.next }

-- the world after the step, and its outcome; a world that is ending runs nothing
unfoldable pub play1 : World → Step → World × Outcome
play1 w s = if w.ending then (numbered s.number w, idle_with ended) else event (numbered s.number w) s

-- steps one after another
unfoldable pub play : World → List Step → World × List Outcome
play w [] = (w, [])
play w (s ∷ ss) = let r : World × Outcome = play1 w s in let t : World × List Outcome = play (r.0) ss in (t.0, r.1 ∷ t.1)
