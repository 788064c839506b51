use Rattle.std.proofs.Common.{◌≡◌, ◌++◌, drop}
use Rattle.spec_program.specs.KeptNodes.{kept, kept_behind}
use Rattle.moo_reader.proofs.node.kept.Given as goal

abbrev pub invariant-loop-place : goal.invariant-loop-place
invariant-loop-place l = l.few ++ kept_behind l.deepest (drop l.place l.nodes) ≡ kept l.nodes
