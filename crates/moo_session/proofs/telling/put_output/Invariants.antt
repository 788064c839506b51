use Rattle.std.proofs.Common.{◌≡◌, ◌++◌, take}
use Rattle.moo_session.specs.Sessions.{output_of}
use Rattle.moo_session.proofs.telling.put_output.Given as goal

abbrev pub invariant-outcome : goal.invariant-outcome
invariant-outcome l = l.text.items ≡ l.fn.text.items ++ output_of l.fn.connection (take l.outcome-index l.outcomes)
