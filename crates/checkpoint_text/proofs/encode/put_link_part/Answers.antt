use Rattle.std.proofs.Common.{length, refl, ◌∙◌}
use Rattle.std.specs.Prelude.{codes}
use Rattle.spec_world.specs.Checkpoint.{link_lines}
use Rattle.checkpoint_text.specs.CheckpointObjectsLines.{link_line}
use Rattle.checkpoint_text.proofs.Parts.{all_links, part_written}
use Rattle.checkpoint_text.proofs.encode.put_link_part.Goals as goal

pub returns : goal.returns
returns c =
    let w = c.args.draft.now in
    part_written link_line (codes "links") w.links c.as_slice.result.now c.as_slice-2.result.now (link_lines w.links) (length c.as_slice.result.now)
    c.args.page.now c.put_count.new.self c.put_links.new.page c.requires (c.as_slice.ensures ∙ c.in_ok-numbers.ensures) (c.as_slice-2.ensures ∙ c.in_ok-numbers.ensures)
    refl (all_links w.links) c.in_ok-put_count.ensures c.in_ok-put_links.ensures
