use Rattle.std.proofs.Common.{◌≡◌, ℕ, ◌+◌, ◌-◌, take, refl, subst, arith}
use Rattle.world_table.specs.Branch.{IsAlike}
use Rattle.world_table.proofs.Rows.{alike_less}
use Rattle.world_table.proofs.place.rows.used.Goals as goal

pub loop-count-preserved : goal.loop-count-preserved
loop-count-preserved g c =
    let up : c.loop-count.count ≡ c.loop-count.count - 1 + 1 = omega arith in
    let before = subst (λ (n : ℕ). IsAlike c.args.places.now (take n c.args.places.now)) up c.loop-count.invariant.1 in
    (omega arith, alike_less _ _ _ c.index-places-count.result (omega arith) c.index-places-count.is (c.if-is_nothing.ensures refl) before)
