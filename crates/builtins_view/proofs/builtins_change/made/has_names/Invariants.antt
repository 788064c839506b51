use Rattle.std.proofs.Common.{◌≡◌, drop}
use Rattle.spec_world.specs.VerbNames.{names_in}
use Rattle.builtins_view.proofs.builtins_change.made.has_names.Given as goal

abbrev pub invariant-loop-byte : goal.invariant-loop-byte
invariant-loop-byte l = names_in (drop l.byte-index l.names) ≡ names_in l.names
