use Rattle.spec_program.specs.Similar.{SimilarOperand}
use Rattle.moo_reader.specs.Views.{whole_of}
use Rattle.moo_reader.proofs.Boxes.{boxed_again}
use Rattle.reader_trim.proofs.operand.trimmed_operand.Goals as goal

pub returns : goal.returns
returns c =
    boxed_again (λ w v. SimilarOperand (whole_of w) (whole_of v)) c.args.operand.whole c.in_ok-whole.whole _ _ c.into_inner.ensures c.in_ok-whole.ensures.ok
    c.in_ok-few.ensures
