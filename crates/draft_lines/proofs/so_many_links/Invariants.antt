use Rattle.std.proofs.Common.{◌≡◌, ◌++◌, List, [], length, take, drop, IsTrue}
use Rattle.std.specs.List.{list_all}
use Rattle.spec_value.specs.Datum.{Text}
use Rattle.spec_world.specs.World.{World}
use Rattle.spec_world.specs.WellFormed.{IsWellFormed}
use Rattle.spec_world.specs.Checkpoint.{link_lines}
use Rattle.checkpoint_lines.specs.Rows.{Left}
use Rattle.object_lines.specs.Readable.{is_link_read}
use Rattle.draft_lines.proofs.so_many_links.Given as goal
use Rattle.spec_faults.specs.Awaited as awaited
use Rattle.checkpoint_lines.proofs.Going.{Counts}

abbrev pub invariant-reading : goal.invariant-reading
invariant-reading l =
    ((w : World) (rest : List Text) → IsWellFormed w → IsTrue (list_all is_link_read w.links) → l.fn.draft.links ≡ [] → l.fn.count ≡ length w.links → Left l.fn.lines (link_lines w.links ++ rest)
    → Left l.lines (link_lines (drop l._link w.links) ++ rest) × (l.draft ≡ record l.fn.draft { links = take l._link w.links }))
    × Counts l.fn.lines l.lines l.fn.count l._link awaited.each_link
