use Rattle.std.proofs.Common.{◌≡◌, ◌++◌, drop, map}
use Rattle.spec_program.specs.ReadPrograms.{cut}
use Rattle.moo_reader.specs.BlockViews.{strays_of}
use Rattle.reader_blocks.proofs.strays.out_of_fork.Given as goal

abbrev pub invariant-loop-stray : goal.invariant-loop-stray
invariant-loop-stray l = map cut (strays_of (drop l.stray-index l.strays)) ++ strays_of l.others.items ≡ map cut (strays_of l.strays)
