use Rattle.std.proofs.Common.{arith}
use Rattle.tree_parts.proofs.Nth.{arguments_counted}
use Rattle.tree_parts.proofs.expression_parts.code_count.Goals as goal

pub returns-in-Listed : goal.returns-in-Listed
returns-in-Listed c = λ kinds. rw c.in-Listed.is (omega (arith, arguments_counted kinds c.in-Listed.codes.items))
