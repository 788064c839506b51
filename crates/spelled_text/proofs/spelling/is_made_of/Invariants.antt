use Rattle.std.proofs.Common.{◌≡◌, ◌↔◌, drop}
use Rattle.spec_program.specs.ReadPrograms.{joined_lines}
use Rattle.spelled_text.proofs.spelling.is_made_of.Given as goal

abbrev pub invariant-loop-line : goal.invariant-loop-line
invariant-loop-line l = l.fn.text ≡ joined_lines l.fn.lines ↔ l.rest ≡ joined_lines (drop l.line-index l.fn.lines)
