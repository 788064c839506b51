use Rattle.std.proofs.Common.{rules}
use Rattle.checkpoint_text.proofs.Nested.{taken_up}
use Rattle.checkpoint_text.proofs.checkpoint_fields.page.Page.put_nested.Goals as goal
use Rattle.checkpoint_text.proofs.checkpoint_fields.page.Page.put_nested.Goals.{in-Some+in_ok-next-in-Some, in-None+in-Some-pop+in_ok-next-in-Some-pop}

pub loop-preserved : goal.loop-preserved
loop-preserved c = elim c.match-next.branch [ in-Some+in_ok-next-in-Some w ↦ search rules | in-None+in-Some-pop+in_ok-next-in-Some-pop w ↦ search (rules, taken_up) ]
