use Rattle.std.proofs.Common.{◌≡◌, ℕ, suc, ◌+◌, ◌*◌, ◌<◌, ◌≤◌, List, [], ◌∷◌, ap, sym, ◌∙◌, arith}
use denote.Param.Weighed.{most}
use mathlib.Core.List.{not-mem-nil}
use Rattle.spec_value.specs.Datum.{Datum, list, of_list}
use Rattle.moo_value.specs.Depth.{depth, data_depth}
use Rattle.moo_value.specs.View.{node_datum}
use Rattle.moo_value.specs.declared.value.Value.TheDeep.{size-Value}
use Rattle.moo_value.proofs.value.Value.+drop.Goals as goal

size_here : (d : Datum) → size-Value d ≤ 2 * depth d + 2
size_here d = omega arith

deepest : (ds : List Datum) → most size-Value ds ≤ 2 * data_depth (of_list ds) + 2
deepest [] = omega arith
deepest (d ∷ ds) = omega (arith, deepest ds, size_here d)

less : {m d e t : ℕ} → m ≤ 2 * d + 2 → suc d ≡ e → 2 * e < t → m < t
less h s k = omega (arith, h, s, k)

pub let_go-requires-in-List : goal.let_go-requires-in-List
let_go-requires-in-List t c κs =
    let is : list (of_list c.in-List.items.value.items) ≡ c.args.self = sym (ap node_datum c.in-List.is) ∙ c.self.view_is in
    (((less (deepest c.in-List.items.value.items) (ap depth is) (omega (arith, c.decreases)), tt), tt), λ a h. absurd (not-mem-nil h))
