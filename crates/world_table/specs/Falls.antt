-- The branches of a block are lower than the block.
use Rattle.std.specs.Prelude.{ℕ, ◌+◌, ◌≤◌, max, List, [], ◌∷◌}
use Rattle.std.proofs.Common.{arith}
use Rattle.std.specs.Arc.{arc_value}
use denote.Param.Weighed.{most}
use Rattle.world_table.specs.Branch.{Branch, AreBranches}
use Rattle.world_table.specs.Held.{branch_of, IsSound}
use Rattle.world_table.specs.declared.place.Held.{Held}
use Rattle.world_table.specs.declared.place.Held.TheVariants.{Nothing, Record, Block}
use Rattle.world_table.specs.declared.place.Place.TheDeep.{deep-Held}

most_le : {V : Type 0} (levels : ℕ) (bs : List (Branch V)) → AreBranches levels bs → most (λ b. b.height + 1) bs ≤ levels + 1
most_le levels [] h = omega arith
most_le levels (b ∷ bs) h = let rest = most_le levels bs h.1 in let own = h.0.within in omega arith

pub height_falls : {V : Type 0} (held : Held V) → IsSound held → max (deep-Held V held) 0 ≤ (branch_of held).height
height_falls Nothing h = omega arith
height_falls (Record r) h = omega arith
height_falls (Block below places) h = omega (arith, most_le below ((arc_value places).items) h.1.branches)
