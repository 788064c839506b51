-- Tasks that are listed, one id after the other.
use Rattle.std.specs.Prelude.{ℤ, List, [], ◌∷◌, ◌++◌, Bool, ◌||◌, Option, Some, None, if◌then◌else◌}
use Rattle.std.specs.Ordering.{int_eq}
use Rattle.spec_value.specs.Datum.{Datum}
use Rattle.spec_value.specs.Table.{Numbered, at}
use Rattle.spec_world.specs.World.{Task}
use Rattle.spec_moo.specs.Natives.Tasks.{innermost, task_programmer, task_value}

-- one's own, or any for who sees all
abbrev pub seen_task : Bool → ℤ → ℤ → Task → List Datum
seen_task all who i t = if all || int_eq (task_programmer t) who then task_value i t.waiting (innermost t.entries) ∷ [] else []

abbrev pub seen_at : Bool → ℤ → ℤ → Option Task → List Datum
seen_at all who i None = []
seen_at all who i (Some t) = seen_task all who i t

-- those of these ids
abbrev pub seen_of : Bool → ℤ → Numbered Task → List ℤ → List Datum
seen_of all who ts [] = []
seen_of all who ts (i ∷ is) = seen_at all who i (at ts i) ++ seen_of all who ts is
