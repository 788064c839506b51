use Rattle.std.proofs.Common.{length, refl, sym, ap, ◌++◌, ◌∙◌}
use Rattle.std.specs.Prelude.{codes}
use Rattle.spec_world.specs.World.{World}
use Rattle.spec_world.specs.Checkpoint.{object_lines, each_object}
use Rattle.checkpoint_text.specs.Parts.{objects_text}
use Rattle.checkpoint_text.proofs.Parts.{all_objects, part_written}
use Rattle.checkpoint_text.proofs.by_threads.put_object_part.Goals as goal

pub returns : goal.returns
unfolding objects_text
returns g c =
    let w = c.args.draft.now in
    let counts = c.put_count.new.self in
    let ks = c.as_slice-3.result.now in
    let written = c.in_ok-put_parts.ensures ∙ ap (λ (v : World). counts ++ objects_text v ks) (sym c.requires.same) in
    part_written (object_lines w) (codes "objects") w.objects c.as_slice-2.result.now ks (each_object w w.objects) (length c.as_slice-2.result.now)
    c.args.page.now counts c.put_parts.new.page c.requires.objects (c.as_slice-2.ensures ∙ c.in_ok-numbers.ensures) (c.as_slice-3.ensures ∙ c.in_ok-numbers.ensures)
    refl (all_objects w w.objects) c.in_ok-put_count.ensures written
