use Rattle.std.proofs.Common.{◌≡◌, ◌++◌, drop}
use Rattle.std.specs.List.{flat_map}
use Rattle.spec_world.specs.Checkpoint.{with_line_ends}
use Rattle.tree_parts.specs.Telling.{outer_lines}
use Rattle.moo_task.specs.Effects.{waiting_of}
use Rattle.moo_task.specs.Frames.{outer_of}
use Rattle.checkpoint_text.proofs.checkpoint_tasks.outer.put_outers.Given as goal

abbrev pub invariant-loop-outer : goal.invariant-loop-outer
invariant-loop-outer l =
    l.page ++ with_line_ends (flat_map (λ o. outer_lines (waiting_of l.waiting) (outer_of o)) (drop l.outer-index l.outers))
    ≡ l.fn.page ++ with_line_ends (flat_map (λ o. outer_lines (waiting_of l.waiting) (outer_of o)) l.outers)
