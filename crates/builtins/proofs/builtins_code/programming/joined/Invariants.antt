use Rattle.std.proofs.Common.{◌≡◌, ◌++◌, drop}
use Rattle.std.specs.Prelude.{string_bytes}
use Rattle.spec_value.specs.Datum.{of_list}
use Rattle.spec_program.specs.ReadPrograms.{joined_lines}
use Rattle.spec_moo.specs.Natives.Verbs.{texts_of}
use Rattle.builtins.proofs.builtins_code.programming.joined.Given as goal

abbrev pub invariant-loop-line : goal.invariant-loop-line
invariant-loop-line l = string_bytes l.text ++ joined_lines (texts_of (of_list (drop l.line-index l.lines))) ≡ joined_lines (texts_of (of_list l.lines))
