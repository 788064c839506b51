use Rattle.std.proofs.Common.{ℤ, Some, ap, ◌∙◌, arith, rules, cond, is_eq, w32, SFits}
use Rattle.std.specs.BTreeMap.{get}
use Rattle.std.specs.Ordering.{int_cmp}
use Rattle.std.proofs.lemmas.Int.{to_z-of_z}
use Rattle.named_objects.proofs.PropertyNames.{places_next}
use Rattle.named_objects.proofs.names.places.Goals as goal

pub loop-place-preserved : goal.loop-place-preserved
loop-place-preserved c =
    let number : ℤ = c.index-records-place.result.number in
    let fits : SFits w32 c.index-records-place.result.number = search rules in
    places_next c.args.records.now c.loop-place.place c.index-records-place.result (λ n. get int_cmp c.loop-place.places n) (λ n. get int_cmp c.insert.new.self n) (omega arith) c.index-records-place.is c.loop-place.invariant
    (λ q. c.in_ok-insert.ensures.updates.0 q ∙ ap (λ (k : ℤ). cond (is_eq (int_cmp k q)) (Some c.loop-place.place) (get int_cmp c.loop-place.places q)) (to_z-of_z w32 number fits))
