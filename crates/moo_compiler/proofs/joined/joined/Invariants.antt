use Rattle.std.proofs.Common.{◌≡◌, ◌++◌, drop}
use Rattle.std.specs.Prelude.{string_bytes}
use Rattle.spec_program.specs.ReadPrograms.{joined_lines}
use Rattle.moo_compiler.proofs.joined.joined.Given as goal

abbrev pub invariant-loop-line : goal.invariant-loop-line
invariant-loop-line l = string_bytes l.text ++ joined_lines (drop l.line-index l.lines) ≡ joined_lines l.lines
