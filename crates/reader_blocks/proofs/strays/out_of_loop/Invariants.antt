use Rattle.std.proofs.Common.{◌≡◌, ◌++◌, drop}
use Rattle.spec_program.specs.ReadPrograms.{out_of_loop}
use Rattle.moo_reader.specs.BlockViews.{strays_of}
use Rattle.reader_blocks.proofs.strays.out_of_loop.Given as goal

abbrev pub invariant-loop-stray : goal.invariant-loop-stray
invariant-loop-stray l =
    out_of_loop l.own (strays_of (drop l.stray-index l.strays)) ++ strays_of l.others.items ≡ out_of_loop l.own (strays_of l.strays)
