use Rattle.std.proofs.Common.{take}
use Rattle.moo_program.specs.Names.{HasPlaces}
use Rattle.task_lines.proofs.names.places_of.Given as goal

abbrev pub invariant-loop-place : goal.invariant-loop-place
invariant-loop-place l = HasPlaces (take l.place l.own) l.places
