use Rattle.std.proofs.Common.{◌≡◌, [], ◌∷◌, ◌++◌, length, refl, ◌∙◌}
use Rattle.std.specs.Prelude.{codes}
use Rattle.spec_world.specs.Checkpoint.{counted, object_lines, each_object, with_line_ends}
use Rattle.checkpoint_text.specs.Each.{of_each}
use Rattle.checkpoint_text.specs.Parts.{object_part}
use Rattle.checkpoint_text.proofs.Behind.{match_second, otherwise_first}
use Rattle.checkpoint_text.proofs.Parts.{all_objects, part_written}
use Rattle.checkpoint_text.proofs.compare.behind_objects.Goals as goal

pub returns-in-Some : goal.returns-in-Some
returns-in-Some c =
    let w = c.args.draft.now in
    let ks = c.as_slice-2.result.now in
    let js = c.as_slice-in-Some.result.now in
    let count = with_line_ends (counted (codes "objects") (length ks) ∷ []) in
    let each = with_line_ends (of_each (object_lines w) w.objects js) in
    let whole : count ++ each ≡ with_line_ends (object_part w) =
    part_written (object_lines w) (codes "objects") w.objects ks js (each_object w w.objects) (length ks) [] count (count ++ each) c.requires
    (c.as_slice-2.ensures ∙ c.in_ok-numbers.ensures) (c.as_slice-in-Some.ensures ∙ c.in_ok-numbers.ensures) refl (all_objects w w.objects) refl refl in
    match_second count each (with_line_ends (object_part w)) c.args.bytes.now c.in-Some.rest.now c.in_ok-left-in-Some.left whole
    (rw c.in-Some.is at c.in_ok-found.ensures) c.in_ok-left-in-Some.ensures

pub returns : goal.returns
returns c =
    let w = c.args.draft.now in
    let ks = c.as_slice-2.result.now in
    let count = with_line_ends (counted (codes "objects") (length ks) ∷ []) in
    let each = with_line_ends (of_each (object_lines w) w.objects ks) in
    let whole : count ++ each ≡ with_line_ends (object_part w) =
    part_written (object_lines w) (codes "objects") w.objects ks ks (each_object w w.objects) (length ks) [] count (count ++ each) c.requires
    (c.as_slice-2.ensures ∙ c.in_ok-numbers.ensures) (c.as_slice-2.ensures ∙ c.in_ok-numbers.ensures) refl (all_objects w w.objects) refl refl in
    otherwise_first count each (with_line_ends (object_part w)) c.args.bytes.now whole (rw c.in-None.is at c.in_ok-found.ensures)
