use Rattle.std.proofs.Common.{◌≡◌, ◌++◌, take}
use Rattle.task_step.specs.OutcomeView.{lines_of}
use Rattle.moo_session.specs.Sessions.{told_to}
use Rattle.moo_session.proofs.telling.put_lines.Given as goal

abbrev pub invariant-line : goal.invariant-line
invariant-line l = l.text.items ≡ l.fn.text.items ++ told_to l.fn.connection (lines_of (take l.line-index l.lines))
