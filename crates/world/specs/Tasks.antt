-- Tasks that wait, as tables keep them.
use Rattle.std.specs.Prelude.{◌≡◌, ◌<◌, ℕ, ℤ, List}
use Rattle.std.specs.List.{AllByRecursion}
use Rattle.spec_world.specs.World.{Task}
use Rattle.moo_task.specs.Waits.{read_on}
use Rattle.world.specs.Picked.{picked}
use Rattle.world.specs.Due.{by_moment}

-- the keys of ids, which have 32 bits
abbrev pub AreIds : {X : Type 0} → List (ℕ × X) → Type 0
AreIds es = AllByRecursion (λ e. e.0 < 4294967296) es

-- the connections on which tasks read, by the keys of those tasks
abbrev pub reading : List (ℕ × Task) → List (ℕ × ℤ)
reading es = picked (λ t. read_on t.waiting) es

pub record AreTasks (tasks : List (ℕ × Task)) (known : List (ℕ × ℤ)) (due : List (ℕ × ℕ)) : Type 0 where
  pub ids : AreIds tasks
  pub readers : known ≡ reading tasks
  pub moments : due ≡ by_moment tasks
