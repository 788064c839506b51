use Rattle.std.proofs.Common.{◌≡◌, ◌++◌, drop}
use Rattle.spec_moo.specs.Natives.Properties.{as_texts}
use Rattle.builtins.proofs.builtins_code.reading.lines_value.Given as goal

abbrev pub invariant-loop-line : goal.invariant-loop-line
invariant-loop-line l = l.items.items ++ as_texts (drop l.line-index l.lines) ≡ as_texts l.lines
