use Rattle.std.proofs.Common.{rules}
use Rattle.spelled_text.proofs.Behind.{one_on}
use Rattle.spelled_text.proofs.spelling.is_made_of.Goals as goal

pub loop-line-preserved : goal.loop-line-preserved
loop-line-preserved c =
    one_on c.args.text.now c.loop-line.rest.now c.in-Some.behind.now c.args.lines.now c.loop-line.line-index c.line-item.result c.loop-line-test.true c.line-item.is
    (search rules) c.loop-line.invariant
