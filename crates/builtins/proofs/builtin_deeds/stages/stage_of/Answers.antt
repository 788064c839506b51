use Rattle.builtins.proofs.Staged.{turn_recycled}
use Rattle.builtins.proofs.builtin_deeds.stages.stage_of.Goals as goal

pub returns-in-Recycle : goal.returns-in-Recycle
returns-in-Recycle c = turn_recycled c.args.native.now c.recycle_stage.result c.in-Recycle.is (rw c.as_slice-arguments.ensures.value at c.recycle_stage.ensures)
