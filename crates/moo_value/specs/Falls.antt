-- The items of a list nest less deep than the list.
use Rattle.std.specs.Prelude.{suc, ◌+◌, ◌≤◌, max, List, [], ◌∷◌}
use Rattle.std.proofs.Common.{arith}
use Rattle.std.specs.Arc.{arc_value}
use denote.Param.Weighed.{most}
use Rattle.spec_value.specs.Datum.{Datum, of_list}
use Rattle.moo_value.specs.Depth.{depth, data_depth}
use Rattle.moo_value.specs.View.{node_datum}
use Rattle.moo_value.specs.declared.value.Node.{Node}
use Rattle.moo_value.specs.declared.value.Node.TheVariants.{Integer, Object, Text, Error, List as Many, Empty}
use Rattle.moo_value.specs.declared.value.Value.TheDeep.{deep-Node}

most_le : (ds : List Datum) → most (λ d. depth d + 1) ds ≤ suc (data_depth (of_list ds))
most_le [] = omega arith
most_le (d ∷ ds) = omega (arith, most_le ds)

pub depth_falls : (n : Node) → max (deep-Node n) 0 ≤ depth (node_datum n)
depth_falls (Integer n) = omega arith
depth_falls (Object n) = omega arith
depth_falls (Text t) = omega arith
depth_falls (Error e) = omega arith
depth_falls (Many w s) = omega (arith, most_le ((arc_value s).items))
depth_falls (Empty a) = omega arith
