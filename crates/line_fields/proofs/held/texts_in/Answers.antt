use Rattle.std.proofs.Common.{◌≡◌, suc, ◌+◌, ◌<◌, [], ◌∷◌, ◌++◌, length, take, get_or, ap, sym, subst, ◌∙◌, arith}
use Rattle.std.proofs.Math.Seq.{take-suc, take-length}
use Rattle.spec_world.specs.Checkpoint.{text_list}
use Rattle.line_fields.proofs.Lists.{items_same, texts_more, texts_same, text_there}
use Rattle.spec_faults.specs.Literals.{is_string}
use Rattle.line_fields.proofs.KindsTold.{not_all, no_text, texts_told}
use Rattle.line_fields.proofs.held.texts_in.Goals as goal

pub returns-in-None : goal.returns-in-None
returns-in-None c = record {
  reads = λ ts e.
      let same = items_same c.in-Some.items.now (text_list ts) (sym c.in-Some.ensures.reads ∙ e) in
      let l : c.loop-item.item-index < length (text_list ts) = subst (λ vs. c.loop-item.item-index < length vs) same c.loop-item-test.true in
      let there = text_there ts c.loop-item.item-index c.item-item.result l in
      let none = rw c.in-None.is at c.in_ok-text.ensures.reads in
      none there.0 (c.item-item.is ∙ ap (λ vs. get_or vs c.loop-item.item-index c.item-item.result) same ∙ there.1);
  fault =
      let none = rw c.in-None.is at c.in_ok-text.ensures.reads in
      sym (not_all is_string c.args.value.now c.in-Some.items.now c.loop-item.item-index c.item-item.result c.item-item.result c.in-Some.ensures.reads c.loop-item-test.true c.item-item.is (no_text c.item-item.result none));
}

pub loop-item-preserved : goal.loop-item-preserved
loop-item-preserved c =
    let some = rw c.in-Some-2.is at c.in_ok-text.ensures.reads in
    let next : suc c.loop-item.item-index ≡ c.loop-item.item-index + 1 = omega arith in
    ap text_list c.in_ok-push-in-Some-2.ensures.items
    ∙ texts_more c.loop-item.texts.items c.in-Some-2.text
    ∙ (λ i. c.loop-item.invariant i ++ (sym some ∙ c.item-item.is) i ∷ [])
    ∙ sym (take-suc c.in-Some.items.now c.loop-item.item-index c.item-item.result c.loop-item-test.true)
    ∙ ap (λ n. take n c.in-Some.items.now) next

pub returns : goal.returns
returns c = record {
  reads = λ ts e.
      let same = items_same c.in-Some.items.now (text_list ts) (sym c.in-Some.ensures.reads ∙ e) in
      let all : c.loop-item.item-index ≡ length c.in-Some.items.now = omega arith in
      texts_same c.loop-item.texts.items ts (c.loop-item.invariant ∙ ap (λ n. take n c.in-Some.items.now) all ∙ take-length c.in-Some.items.now ∙ same);
  fault =
      let all : c.loop-item.item-index ≡ length c.in-Some.items.now = omega arith in
      sym (texts_told c.args.value.now c.in-Some.items.now c.loop-item.texts.items c.in-Some.ensures.reads (c.loop-item.invariant ∙ ap (λ n. take n c.in-Some.items.now) all ∙ take-length c.in-Some.items.now));
}
