use Rattle.std.proofs.Common.{All, take}
use Rattle.world_checks.specs.DraftChecksTasks.{TaskFitsAt}
use Rattle.world_checks.proofs.draft_checks.tasks.all_fit.Given as goal

abbrev pub invariant-loop-id : goal.invariant-loop-id
invariant-loop-id l = All (TaskFitsAt l.draft) (take l.id-index l.ids)
