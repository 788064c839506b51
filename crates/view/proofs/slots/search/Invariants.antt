use Rattle.std.proofs.Common.{◌≡◌, ◌≤◌, ◌++◌, ◌∷◌, ◌-◌, length, take, drop, None}
use Rattle.spec_value.specs.Datum.{fold_case}
use Rattle.spec_value.specs.Table.{named, with_name}
use Rattle.spec_world.specs.World.{Slot}
use Rattle.view.proofs.slots.search.Given as goal

abbrev pub invariant-loop-low : goal.invariant-loop-low
invariant-loop-low l = (l.low ≤ l.high) × (l.high ≤ length l.entries)
    × (named (drop l.low l.entries) (fold_case l.name) ≡ named l.entries (fold_case l.name))
    × (named (drop l.high l.entries) (fold_case l.name) ≡ None)
    × ((s : Slot) → with_name l.entries (fold_case l.name) s ≡ take l.low l.entries ++ with_name (drop l.low l.entries) (fold_case l.name) s)
    × ((s : Slot) → with_name (drop l.high l.entries) (fold_case l.name) s ≡ (fold_case l.name, s) ∷ drop l.high l.entries)

abbrev pub decreases-loop-low : goal.decreases-loop-low
decreases-loop-low l = l.high - l.low
