use Rattle.std.proofs.Common.{◌≡◌, [], ◌∷◌, length, sym, ap, subst, ◌∙◌, arith, rules, w32, SFits}
use Rattle.std.proofs.lemmas.List.{length-append}
use Rattle.std.proofs.lemmas.Int.{to_z-of_z}
use Rattle.std.specs.BTreeMap.{get}
use Rattle.std.specs.Ordering.{int_cmp}
use Rattle.named_objects.specs.Ways.{IsPlace, numbers_of}
use Rattle.named_objects.proofs.PropertyNames.{parents_next, get_within, found_place}
use Rattle.named_objects.proofs.names.parents.Goals as goal

pub loop-record-preserved : goal.loop-record-preserved
loop-record-preserved c =
    let l = c.loop-record in
    let e = ap length c.in_ok-push.ensures.items in
    let f = length-append l.parents.items (c.copied.result ∷ []) in
    let fits : SFits w32 c.parent_of-parent.result = search rules in
    let found : c.copied.result ≡ get int_cmp c.in_ok-places.places c.record-item.result.header.parent =
    found_place c.in_ok-places.places c.record-item.result.header.parent _ c.copied.result (c.copied.ensures ∙ c.get.ensures.value) (cc (to_z-of_z w32 c.parent_of-parent.result fits)) in
    let here = subst (IsPlace (numbers_of c.args.records.now) c.record-item.result.header.parent) (sym found) (c.in_ok-places.ensures c.record-item.result.header.parent) in (
      omega (arith, e, f, l.invariant.0),
      parents_next c.args.records.now l.parents.items c.push.new.self.items l.record-index c.record-item.result c.copied.result l.invariant.0 c.in_ok-push.ensures.items c.record-item.is here l.invariant.1,
    )

pub returns : goal.returns
returns c = record {
  count = omega (arith, c.loop-record.invariant.0);
  each = λ k r e. let lt = get_within c.args.records.now k r e in c.loop-record.invariant.1 k r (omega arith) e;
}
