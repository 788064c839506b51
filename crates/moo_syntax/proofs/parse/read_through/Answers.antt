use Rattle.reader_frames.specs.StateView.{state_of}
use Rattle.moo_syntax.specs.Given.{given}
use Rattle.moo_syntax.proofs.Answered.{answer_is}
use Rattle.moo_syntax.proofs.parse.read_through.Goals as goal

pub returns : goal.returns
returns c =
    answer_is c.args.text.now (given c.in_ok-tokens.tokens) c.answer.result (state_of c.in_ok-state.state) c.last_line-last.result
    c.in_ok-tokens.ensures.meaning c.in_ok-state.ensures c.answer.ensures c.last_line-last.ensures
