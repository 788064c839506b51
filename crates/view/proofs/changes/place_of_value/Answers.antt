use Rattle.std.proofs.Common.{rules, ◌≡◌, ◌+◌, ◌-◌, ℤ, ℕ, suc, map, drop, length, subst, arith, w32, to_z, of_z}
use Rattle.spec_value.specs.Datum.{Datum}
use Rattle.spec_world.specs.Questions.{new_value}
use Rattle.view.specs.Facets.{IsBesideValue, StandsBefore, TakesPlace}
use Rattle.view.specs.Meanings.{change_of}
use Rattle.view.specs.Writing.{Gives}
use Rattle.view.proofs.Facets.{later_value, beside_value, before_more, takes_place}
use Rattle.view.proofs.changes.place_of_value.Goals as goal

pub returns-then-gives-clause-takes : goal.returns-then-gives-clause-takes
returns-then-gives-clause-takes c =
    let number : to_z w32 (of_z w32 c.args.object) ≡ c.args.object = search rules in
    let met : Gives (to_z w32 (of_z w32 c.args.object)) c.args.name.now (change_of c.index-changes-place.result) = search rules in
    let n : ℕ = length c.args.changes.now - 1 - c.loop-back.back in
    let after : length c.args.changes.now - c.loop-back.back ≡ suc n = omega arith in
    subst (λ (o : ℤ). (v : Datum) → TakesPlace (new_value o c.args.name.now v) n (map change_of c.args.changes.now)) number
    (λ v. takes_place change_of (new_value (to_z w32 (of_z w32 c.args.object)) c.args.name.now v) c.args.changes.now n c.index-changes-place.result (omega arith) c.index-changes-place.is
    (later_value (to_z w32 (of_z w32 c.args.object)) c.args.name.now (change_of c.index-changes-place.result) met v)
    (subst (λ (k : ℕ). StandsBefore (new_value (to_z w32 (of_z w32 c.args.object)) c.args.name.now v) (map change_of (drop k c.args.changes.now))) after (c.loop-back.invariant v)))

pub loop-back-preserved : goal.loop-back-preserved
loop-back-preserved c =
    let met : IsBesideValue (to_z w32 (of_z w32 c.args.object)) c.args.name.now (change_of c.index-changes-place.result) = search rules in
    let n : ℕ = length c.args.changes.now - 1 - c.loop-back.back in
    let after : length c.args.changes.now - c.loop-back.back ≡ n + 1 = omega arith in
    let here : n ≡ length c.args.changes.now - (c.loop-back.back + 1) = omega arith in
    λ v. subst (λ (k : ℕ). StandsBefore (new_value (to_z w32 (of_z w32 c.args.object)) c.args.name.now v) (map change_of (drop k c.args.changes.now))) here
    (before_more change_of (new_value (to_z w32 (of_z w32 c.args.object)) c.args.name.now v) c.args.changes.now n c.index-changes-place.result (omega arith) c.index-changes-place.is
    (beside_value (to_z w32 (of_z w32 c.args.object)) c.args.name.now v (change_of c.index-changes-place.result) met)
    (subst (λ (k : ℕ). StandsBefore (new_value (to_z w32 (of_z w32 c.args.object)) c.args.name.now v) (map change_of (drop k c.args.changes.now))) after (c.loop-back.invariant v)))
