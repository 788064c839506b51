use Rattle.std.proofs.Common.{◌≡◌, ◌++◌, drop}
use Rattle.world_checks.specs.DraftChecksTasks.{all_read}
use Rattle.world_checks.proofs.draft_checks.tasks.connections_read.Given as goal

abbrev pub invariant-loop-id : goal.invariant-loop-id
invariant-loop-id l = l.connections.items ++ all_read l.draft (drop l.id-index l.ids) ≡ all_read l.draft l.ids
