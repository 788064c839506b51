use Rattle.spec_program.specs.Frames.{an_expression}
use Rattle.moo_reader.specs.Views.{found_of}
use Rattle.reader_frames.specs.FrameViews.{all_begun}
use Rattle.reader_frames.specs.LeftView.{left_of}
use Rattle.moo_syntax.proofs.TermsJoined.{term_advances}
use Rattle.moo_syntax.proofs.terms.past_operators.Goals as goal

pub returns-in_ok-found-in-Some : goal.returns-in_ok-found-in-Some
returns-in_ok-found-in-Some c =
    term_advances c.args.before.brackets c.args.before.level (found_of c.args.before.left) (found_of c.in_ok-found-in-Some.found) c.in-Some.term
    (all_begun c.args.begun.value an_expression) (left_of c.args.left) (left_of c.take_term.new.left) c.in-Some.ensures c.in_ok-found-in-Some.ensures
