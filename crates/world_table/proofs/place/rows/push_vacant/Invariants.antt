use Rattle.std.proofs.Common.{◌≡◌, ◌+◌, ◌++◌, replicate, vec_len, vec_capacity}
use Rattle.world_table.specs.Branch.{nowhere}
use Rattle.world_table.proofs.place.rows.push_vacant.Given as goal

abbrev pub invariant-loop-place : goal.invariant-loop-place
invariant-loop-place g l = (l.places.items ≡ l.fn.places.items ++ replicate l._place nowhere) × (vec_len l.places ≡ vec_len l.fn.places + l._place) × (vec_capacity l.places ≡ vec_capacity l.fn.places)
