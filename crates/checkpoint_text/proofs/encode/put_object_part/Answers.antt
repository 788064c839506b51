use Rattle.std.proofs.Common.{length, refl, ◌∙◌}
use Rattle.std.specs.Prelude.{codes}
use Rattle.spec_world.specs.Checkpoint.{object_lines, each_object}
use Rattle.checkpoint_text.proofs.Parts.{all_objects, part_written}
use Rattle.checkpoint_text.proofs.encode.put_object_part.Goals as goal

pub returns : goal.returns
returns c =
    let w = c.args.draft.now in
    part_written (object_lines w) (codes "objects") w.objects c.as_slice-2.result.now c.as_slice-3.result.now (each_object w w.objects) (length c.as_slice-2.result.now)
    c.args.page.now c.put_count.new.self c.put_objects.new.page c.requires (c.as_slice-2.ensures ∙ c.in_ok-numbers.ensures) (c.as_slice-3.ensures ∙ c.in_ok-numbers.ensures)
    refl (all_objects w w.objects) c.in_ok-put_count.ensures c.in_ok-put_objects.ensures
