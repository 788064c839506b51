use Rattle.std.proofs.Common.{◌≡◌, drop}
use Rattle.moo_reader.specs.BlockViews.{strays_of}
use Rattle.moo_syntax.specs.Answer.{first_line}
use Rattle.moo_syntax.proofs.Lines.{first_from}
use Rattle.moo_syntax.proofs.answer.first_stray.Given as goal

abbrev pub invariant-loop-stray : goal.invariant-loop-stray
invariant-loop-stray l = first_from l.first (drop l.stray-index l.strays) ≡ first_line (strays_of l.strays)
