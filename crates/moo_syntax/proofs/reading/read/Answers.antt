use Rattle.std.proofs.Common.{sym, ◌∙◌}
use Rattle.reader_frames.specs.StateView.{state_of}
use Rattle.moo_syntax.specs.Given.{given}
use Rattle.moo_syntax.proofs.Going.{going_instead, going_less, going_over}
use Rattle.moo_syntax.proofs.reading.read.Goals as goal

pub steps-preserved : goal.steps-preserved
steps-preserved c = going_instead (given c.args.tokens) (state_of c.steps.state) (state_of c.in_ok-state.state) c.steps.invariant c.in_ok-state.ensures

pub steps-smaller : goal.steps-smaller
steps-smaller c =
    going_less (state_of c.steps.state) (state_of c.in_ok-state.state) (sym c.is_over.ensures ∙ c.steps-test.true) c.in_ok-state.ensures

pub returns : goal.returns
returns c = going_over (given c.args.tokens) (state_of c.steps.state) c.steps.invariant (sym c.is_over.ensures ∙ c.steps-test.false)
