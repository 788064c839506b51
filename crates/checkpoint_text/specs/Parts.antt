-- The text of a world in parts.
use Rattle.std.specs.Prelude.{ℤ, List, [], ◌∷◌, ◌++◌, length, codes}
use Rattle.std.specs.Fmt.{signed_decimal}
use Rattle.spec_value.specs.Datum.{Text}
use Rattle.spec_world.specs.World.{World}
use Rattle.spec_world.specs.Checkpoint.{fields, flag, counted, link_lines, object_lines, each_object, each_task, with_line_ends}
use Rattle.checkpoint_text.specs.Each.{of_each}

abbrev pub head_lines : World → List Text
head_lines w = codes "MOO-CHECKPOINT 1" ∷ counted (codes "next") w.next ∷ []

abbrev pub state_lines : World → List Text
state_lines w = fields (codes "greatest" ∷ signed_decimal w.greatest ∷ []) ∷ fields (codes "ending" ∷ flag w.ending ∷ []) ∷ []

abbrev pub link_part : World → List Text
link_part w = counted (codes "links") (length w.links) ∷ link_lines w.links

abbrev pub object_part : World → List Text
object_part w = counted (codes "objects") (length w.objects) ∷ each_object w w.objects

abbrev pub task_part : World → List Text
task_part w = counted (codes "tasks") (length w.tasks) ∷ each_task w.tasks

-- what stands before the objects
abbrev pub front : World → List Text
front w = head_lines w ++ (state_lines w ++ link_part w)

-- what stands behind them
abbrev pub back : World → List Text
back w = task_part w ++ codes "end" ∷ []

-- what is written of the objects of these numbers
unfoldable pub objects_text : World → List ℤ → Text
objects_text w ks = with_line_ends (of_each (object_lines w) w.objects ks)
