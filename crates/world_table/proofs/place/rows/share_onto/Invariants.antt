use Rattle.std.proofs.Common.{◌≡◌, ◌+◌, ◌++◌, take, vec_len, vec_capacity}
use Rattle.world_table.proofs.place.rows.share_onto.Given as goal

abbrev pub invariant-loop-place : goal.invariant-loop-place
invariant-loop-place g l = (l.copies.items ≡ l.fn.copies.items ++ take l.place-index l.places) × (vec_len l.copies ≡ vec_len l.fn.copies + l.place-index) × (vec_capacity l.copies ≡ vec_capacity l.fn.copies)
