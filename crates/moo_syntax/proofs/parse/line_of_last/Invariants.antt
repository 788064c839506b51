use Rattle.std.proofs.Common.{◌≡◌, drop, map}
use Rattle.spec_program.specs.ReadPrograms.{last_line}
use Rattle.moo_token.specs.Views.{places}
use Rattle.moo_token.specs.Meaning.{place_meant}
use Rattle.moo_syntax.proofs.Lines.{last_from}
use Rattle.moo_syntax.proofs.parse.line_of_last.Given as goal

abbrev pub invariant-loop-placed : goal.invariant-loop-placed
invariant-loop-placed l = last_from l.line (drop l.placed-index l.tokens) ≡ last_line (map place_meant (places l.tokens))
