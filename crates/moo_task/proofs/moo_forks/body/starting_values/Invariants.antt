use Rattle.std.proofs.Common.{◌≡◌, ℕ, List, map, take, Bor}
use Rattle.spec_value.specs.Table.{named}
use Rattle.moo_task.specs.Frames.{kept_of}
use Rattle.moo_task.proofs.moo_forks.body.starting_values.Given as goal

abbrev pub invariant-loop-name : goal.invariant-loop-name
invariant-loop-name l =
    l.slots.items ≡ map (named (kept_of l.variables.frame.now).variables) (map (λ (s : Bor (List ℕ)). s.now) (take l.name-index l.names))
