use Rattle.std.proofs.Common.{◌++◌, refl}
use Rattle.std.specs.List.{flat_map}
use Rattle.spec_world.specs.Checkpoint.{with_line_ends}
use Rattle.tree_parts.specs.Telling.{outer_lines}
use Rattle.moo_task.specs.Effects.{waiting_of}
use Rattle.moo_task.specs.Frames.{outer_of}
use Rattle.checkpoint_text.proofs.Turns.{next_lines}
use Rattle.checkpoint_text.proofs.checkpoint_tasks.outer.put_outers.Goals as goal

pub loop-outer-preserved : goal.loop-outer-preserved
loop-outer-preserved c =
    let why = waiting_of c.args.waiting.now in
    next_lines (λ o. outer_lines why (outer_of o)) (flat_map (λ o. outer_lines why (outer_of o))) (λ o os. refl) c.args.outers.now c.loop-outer.outer-index c.outer-item.result
    c.loop-outer.page c.put_outer.new.page (c.args.page.now ++ with_line_ends (flat_map (λ o. outer_lines why (outer_of o)) c.args.outers.now))
    c.loop-outer-test.true c.outer-item.is c.in_ok-put_outer.ensures c.loop-outer.invariant
