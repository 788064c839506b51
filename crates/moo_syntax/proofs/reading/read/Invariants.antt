use Rattle.spec_reader.specs.Work.{work}
use Rattle.reader_frames.specs.StateView.{state_of}
use Rattle.moo_syntax.specs.Given.{given}
use Rattle.moo_syntax.proofs.Going.{Going}
use Rattle.moo_syntax.proofs.reading.read.Given as goal

abbrev pub invariant-steps : goal.invariant-steps
invariant-steps l = Going (given l.fn.tokens) (state_of l.state)

abbrev pub decreases-steps : goal.decreases-steps
decreases-steps l = work (state_of l.state)
