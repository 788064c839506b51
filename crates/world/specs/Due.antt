-- Which tasks are due, and in what order.
use Rattle.std.specs.Prelude.{ℕ, ℤ, nat_le, List, map, filter, Option}
use Rattle.std.specs.Ordering.{int_cmp}
use Rattle.spec_world.specs.World.{Task}
use Rattle.moo_task.specs.Waits.{due_at}
use Rattle.due_table.specs.Order.{first_item_from}
use Rattle.due_table.specs.Pairs.{pair_cmp}
use Rattle.world.specs.Paired.{paired}

-- the tasks that wait for a moment, with it: by their moments, and those of one moment in the order in which they stand
abbrev pub by_moment : {K : Type 0} → List (K × Task) → List (ℕ × K)
by_moment ts = paired (λ t. due_at t.waiting) ts

-- those whose moment has come
abbrev pub due_of : {K : Type 0} → ℕ → List (ℕ × K) → List K
due_of now ds = map (λ d. d.1) (filter (λ d. nat_le d.0 now) ds)

abbrev pub due_ids : {K : Type 0} → ℕ → List (K × Task) → List K
due_ids now ts = due_of now (by_moment ts)

-- the first of this moment and this id, or after it
abbrev pub first_due_from : ℕ → ℤ → List (ℕ × ℤ) → Option (ℕ × ℤ)
first_due_from m i = first_item_from (pair_cmp int_cmp) (m, i)
