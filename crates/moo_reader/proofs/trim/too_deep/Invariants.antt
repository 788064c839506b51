use Rattle.std.proofs.Common.{◌≡◌, drop}
use Rattle.spec_program.specs.ReadPrograms.{too_deep}
use Rattle.moo_reader.proofs.trim.too_deep.Given as goal

abbrev pub invariant-loop-place : goal.invariant-loop-place
invariant-loop-place l = too_deep (drop l.place l.nodes) ≡ too_deep l.nodes
