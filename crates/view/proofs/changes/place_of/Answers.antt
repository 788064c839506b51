use Rattle.std.proofs.Common.{rules, ◌≡◌, ◌==◌, ◌+◌, ◌-◌, ℤ, ℕ, suc, true, false, map, drop, length, subst, arith, w32, to_z, of_z}
use Rattle.spec_world.specs.Questions.{new_part}
use Rattle.view.specs.Facets.{facet, is_of_facet, is_beside_facet, StandsBefore, TakesPlace}
use Rattle.view.specs.Meanings.{change_of, part_of}
use Rattle.view.proofs.Facets.{later_change, beside, before_more, takes_place}
use Rattle.view.proofs.changes.place_of.Goals as goal

pub returns-then-is_of-clause-takes : goal.returns-then-is_of-clause-takes
returns-then-is_of-clause-takes c =
    let a = part_of c.args.part.now in
    let number : to_z w32 (of_z w32 c.args.object) ≡ c.args.object = search rules in
    let whole : (facet a == 5) ≡ false = search rules in
    let met : is_of_facet (to_z w32 (of_z w32 c.args.object)) (facet a) (change_of c.index-changes-place.result) ≡ true = search rules in
    let n : ℕ = length c.args.changes.now - 1 - c.loop-back.back in
    let after : length c.args.changes.now - c.loop-back.back ≡ suc n = omega arith in
    subst (λ (o : ℤ). TakesPlace (new_part o a) n (map change_of c.args.changes.now)) number
    (takes_place change_of (new_part (to_z w32 (of_z w32 c.args.object)) a) c.args.changes.now n c.index-changes-place.result (omega arith) c.index-changes-place.is
    (later_change (to_z w32 (of_z w32 c.args.object)) a whole (change_of c.index-changes-place.result) met)
    (subst (λ (k : ℕ). StandsBefore (new_part (to_z w32 (of_z w32 c.args.object)) a) (map change_of (drop k c.args.changes.now))) after c.loop-back.invariant))

pub loop-back-preserved : goal.loop-back-preserved
loop-back-preserved c =
    let a = part_of c.args.part.now in
    let whole : (facet a == 5) ≡ false = search rules in
    let met : is_beside_facet (to_z w32 (of_z w32 c.args.object)) (facet a) (change_of c.index-changes-place.result) ≡ true = search rules in
    let n : ℕ = length c.args.changes.now - 1 - c.loop-back.back in
    let after : length c.args.changes.now - c.loop-back.back ≡ n + 1 = omega arith in
    let here : n ≡ length c.args.changes.now - (c.loop-back.back + 1) = omega arith in
    subst (λ (k : ℕ). StandsBefore (new_part (to_z w32 (of_z w32 c.args.object)) a) (map change_of (drop k c.args.changes.now))) here
    (before_more change_of (new_part (to_z w32 (of_z w32 c.args.object)) a) c.args.changes.now n c.index-changes-place.result (omega arith) c.index-changes-place.is
    (beside (to_z w32 (of_z w32 c.args.object)) a whole (change_of c.index-changes-place.result) met)
    (subst (λ (k : ℕ). StandsBefore (new_part (to_z w32 (of_z w32 c.args.object)) a) (map change_of (drop k c.args.changes.now))) after c.loop-back.invariant))
