use Rattle.std.proofs.Common.{◌≡◌, ◌++◌, drop}
use Rattle.spec_world.specs.Checkpoint.{with_line_ends}
use Rattle.checkpoint_text.specs.Each.{of_each}
use Rattle.checkpoint_text.specs.CheckpointObjectsLines.{link_line}
use Rattle.checkpoint_text.proofs.checkpoint_objects.link.put_links.Given as goal

abbrev pub invariant-loop-number : goal.invariant-loop-number
invariant-loop-number l =
    l.page ++ with_line_ends (of_each link_line l.draft.links (drop l.number-index l.numbers))
    ≡ l.fn.page ++ with_line_ends (of_each link_line l.draft.links l.numbers)
