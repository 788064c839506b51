-- The parts of a world's text, record by record.
use Rattle.std.proofs.Common.{◌≡◌, ℕ, ℤ, List, [], ◌∷◌, ◌++◌, length, map, IsTrue, refl, ap, ◌∙◌}
use Rattle.std.specs.Prelude.{codes}
use Rattle.std.proofs.lemmas.List.{length-map}
use Rattle.spec_value.specs.Datum.{Text}
use Rattle.spec_value.specs.Table.{Numbered, is_numbered}
use Rattle.spec_world.specs.World.{World, Object, Task, Link}
use Rattle.spec_world.specs.Checkpoint.{counted, link_lines, object_lines, each_object, task_lines, each_task, with_line_ends, checkpoint_text}
use Rattle.checkpoint_text.specs.Each.{of_each, of_all}
use Rattle.checkpoint_text.proofs.Each.{each_is_all}
use Rattle.checkpoint_text.proofs.Joined.{lines_more}
use Rattle.checkpoint_text.specs.CheckpointObjectsLines.{link_line}
use Rattle.checkpoint_text.specs.Parts.{head_lines, state_lines, link_part, object_part, task_part, front, back}

pub all_links : (es : Numbered Link) → of_all link_line es ≡ link_lines es
all_links [] = refl
all_links (e ∷ es) = ap (λ ts. link_line e.0 e.1 ++ ts) (all_links es)

pub all_objects : (w : World) (es : Numbered Object) → of_all (object_lines w) es ≡ each_object w es
all_objects w [] = refl
all_objects w (e ∷ es) = ap (λ ts. object_lines w e.0 e.1 ++ ts) (all_objects w es)

pub all_tasks : (es : Numbered Task) → of_all task_lines es ≡ each_task es
all_tasks [] = refl
all_tasks (e ∷ es) = ap (λ ts. task_lines e.0 e.1 ++ ts) (all_tasks es)

-- how many records there are, and what is written of each
pub part_written : {X : Type 0} (f : ℤ → X → List Text) (word : Text) (m : Numbered X) (ks js : List ℤ) (lines : List Text) (n : ℕ) (old counts new : Text) → IsTrue (is_numbered m)
    → ks ≡ map (λ e. e.0) m → js ≡ map (λ e. e.0) m → n ≡ length ks → of_all f m ≡ lines → counts ≡ old ++ with_line_ends (counted word n ∷ [])
    → new ≡ counts ++ with_line_ends (of_each f m js) → new ≡ old ++ with_line_ends (counted word (length m) ∷ lines)
part_written {X} f word m ks js lines n old counts new sorted keys again count all counting writing =
    let written : of_each f m js ≡ lines = ap (of_each f m) again ∙ each_is_all f m sorted ∙ all in
    let number : n ≡ length m = count ∙ ap length keys ∙ length-map m (λ (e : ℤ × X). e.0) in
    lines_more old counts new (counted word n ∷ []) (of_each f m js) counting writing
    ∙ (λ i. old ++ with_line_ends (counted word (number i) ∷ written i))

pub front_written : (w : World) (p0 p1 p2 p3 : Text) → p1 ≡ p0 ++ with_line_ends (head_lines w) → p2 ≡ p1 ++ with_line_ends (state_lines w)
    → p3 ≡ p2 ++ with_line_ends (link_part w) → p3 ≡ p0 ++ with_line_ends (front w)
front_written w p0 p1 p2 p3 e1 e2 e3 = lines_more p0 p1 p3 (head_lines w) (state_lines w ++ link_part w) e1 (lines_more p1 p2 p3 (state_lines w) (link_part w) e2 e3)

pub back_written : (w : World) (p0 p1 p2 : Text) → p1 ≡ p0 ++ with_line_ends (task_part w) → p2 ≡ p1 ++ with_line_ends (codes "end" ∷ []) → p2 ≡ p0 ++ with_line_ends (back w)
back_written w p0 p1 p2 e1 e2 = lines_more p0 p1 p2 (task_part w) (codes "end" ∷ []) e1 e2

pub whole_written : (w : World) (p0 p1 p2 p3 : Text) → p0 ≡ [] → p1 ≡ p0 ++ with_line_ends (front w) → p2 ≡ p1 ++ with_line_ends (object_part w)
    → p3 ≡ p2 ++ with_line_ends (back w) → p3 ≡ checkpoint_text w
unfolding checkpoint_text
whole_written w p0 p1 p2 p3 e0 e1 e2 e3 =
    lines_more p0 p1 p3 (front w) (object_part w ++ back w) e1 (lines_more p1 p2 p3 (object_part w) (back w) e2 e3)
    ∙ ap (λ t. t ++ with_line_ends (front w ++ (object_part w ++ back w))) e0
