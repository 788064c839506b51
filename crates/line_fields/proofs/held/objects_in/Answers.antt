use Rattle.std.proofs.Common.{◌≡◌, suc, ◌+◌, ◌<◌, [], ◌∷◌, ◌++◌, length, take, get_or, IsTrue, ap, sym, subst, ◌∙◌, arith, w32}
use Rattle.std.proofs.Math.Seq.{take-suc, take-length}
use Rattle.std.proofs.lemmas.Int.{to_z-of_z}
use Rattle.spec_value.specs.Datum.{is_value}
use Rattle.spec_world.specs.Checkpoint.{object_list}
use Rattle.moo_value.proofs.Numbers.{fits_number}
use Rattle.line_fields.proofs.Lists.{items_same, objects_more, objects_same, object_there}
use Rattle.spec_faults.specs.Literals.{is_object_value}
use Rattle.line_fields.proofs.KindsTold.{not_all, no_object, objects_told}
use Rattle.line_fields.proofs.held.objects_in.Goals as goal

pub returns-in-None : goal.returns-in-None
returns-in-None c = record {
  reads = λ os e.
      let same = items_same c.in-Some.items.now (object_list os) (sym c.in-Some.ensures.reads ∙ e) in
      let l : c.loop-item.item-index < length (object_list os) = subst (λ vs. c.loop-item.item-index < length vs) same c.loop-item-test.true in
      let there = object_there os c.loop-item.item-index c.item-item.result l in
      c.in-None.ensures.reads there.0 (c.item-item.is ∙ ap (λ vs. get_or vs c.loop-item.item-index c.item-item.result) same ∙ there.1);
  fault = sym (not_all is_object_value c.args.value.now c.in-Some.items.now c.loop-item.item-index c.item-item.result c.item-item.result c.in-Some.ensures.reads c.loop-item-test.true c.item-item.is (no_object c.item-item.result c.in-None.ensures.reads));
}

pub loop-item-preserved : goal.loop-item-preserved
loop-item-preserved c =
    let range = fits_number c.in-Some-object_in.object (subst (λ v. IsTrue (is_value v)) c.in-Some-object_in.ensures.reads c.know.ensures) in
    let exact = to_z-of_z w32 c.in-Some-object_in.object range in
    let pushed : c.push.new.self.items ≡ c.loop-item.objects.items ++ c.in-Some-object_in.object ∷ [] = cc (exact, c.in_ok-push-in-Some-object_in.ensures.items) in
    let next : suc c.loop-item.item-index ≡ c.loop-item.item-index + 1 = omega arith in
    ap object_list pushed
    ∙ objects_more c.loop-item.objects.items c.in-Some-object_in.object
    ∙ (λ i. c.loop-item.invariant i ++ (sym c.in-Some-object_in.ensures.reads ∙ c.item-item.is) i ∷ [])
    ∙ sym (take-suc c.in-Some.items.now c.loop-item.item-index c.item-item.result c.loop-item-test.true)
    ∙ ap (λ n. take n c.in-Some.items.now) next

pub returns : goal.returns
returns c = record {
  reads = λ os e.
      let same = items_same c.in-Some.items.now (object_list os) (sym c.in-Some.ensures.reads ∙ e) in
      let all : c.loop-item.item-index ≡ length c.in-Some.items.now = omega arith in
      objects_same c.loop-item.objects.items os (c.loop-item.invariant ∙ ap (λ n. take n c.in-Some.items.now) all ∙ take-length c.in-Some.items.now ∙ same);
  fault =
      let all : c.loop-item.item-index ≡ length c.in-Some.items.now = omega arith in
      sym (objects_told c.args.value.now c.in-Some.items.now c.loop-item.objects.items c.in-Some.ensures.reads (c.loop-item.invariant ∙ ap (λ n. take n c.in-Some.items.now) all ∙ take-length c.in-Some.items.now));
}
