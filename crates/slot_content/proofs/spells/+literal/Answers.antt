use Rattle.std.proofs.Common.{◌≡◌, ◌+◌, ◌≤◌, [], ◌∷◌, ◌++◌, Some, drop, subst, ap, sym, ◌∙◌, arith}
use Rattle.spec_value.specs.Datum.{of_list}
use Rattle.spec_value.specs.Literal.{literal, data_text, more_text}
use Rattle.moo_value.specs.Depth.{depth, data_depth}
use Rattle.moo_value.proofs.Listing.{depth_item}
use Rattle.slot_content.specs.Spells.{IsBehind}
use Rattle.slot_content.proofs.Behind.{behind_both, more_items, no_more_items}
use Rattle.slot_content.proofs.spells.+literal.Goals as goal

pub behind_items-loop-item-init : goal.behind_items-loop-item-init
behind_items-loop-item-init t c = λ o h.
    subst (λ ds. IsBehind c.args.text.now (data_text (of_list ds)) o) (sym c.in-Some.ensures.cases.0)
    (behind_both _ (literal c.in-Some.first.now) (more_text (of_list c.in-Some.others.now)) _ o c.in_ok-rest.ensures h)

pub behind_items-behind_value-requires-in-loop-item : goal.behind_items-behind_value-requires-in-loop-item
behind_items-behind_value-requires-in-loop-item t c =
    let h : depth c.item-item.result ≤ data_depth (of_list c.in-Some.others.now) = rw c.item-item.is (depth_item _ _ _ c.loop-item-test.true) in
    let e = ap (λ ds. data_depth (of_list ds)) c.in-Some.ensures.cases.0 in
    (omega (arith, h, e), tt)

pub behind_items-loop-item-preserved : goal.behind_items-loop-item-preserved
behind_items-loop-item-preserved t c =
    let others = c.in-Some.others.now in
    let i = c.loop-item.item-index in
    let e : more_text (of_list (drop i others)) ≡ (44 ∷ 32 ∷ literal c.item-item.result) ++ more_text (of_list (drop (i + 1) others)) = rw c.item-item.is (more_items _ _ _ c.loop-item-test.true) in
    let front = c.in_ok-behind.ensures ∙ ap (λ s. 44 ∷ 32 ∷ s) c.in_ok-rest-2.ensures in
    λ o h. c.loop-item.invariant o (subst (λ s. IsBehind c.loop-item.rest.now s o) (sym e) (behind_both _ (44 ∷ 32 ∷ literal c.item-item.result) (more_text (of_list (drop (i + 1) others))) _ o front h))

pub behind_items-returns : goal.behind_items-returns
behind_items-returns t c = c.loop-item.invariant (Some c.loop-item.rest) (no_more_items c.in-Some.others.now c.loop-item.item-index c.loop-item.rest.now (omega (arith, c.loop-item-test.false)))

pub behind_value-returns-in_ok-behind_items-in-List : goal.behind_value-returns-in_ok-behind_items-in-List
behind_value-returns-in_ok-behind_items-in-List t c =
    let inner = data_text (of_list c.in-List.items.now) in
    subst (λ v. IsBehind c.args.text.now (literal v) c.behind-in-List-2.result) c.in-List.ensures
    (behind_both _ (123 ∷ []) (inner ++ 125 ∷ []) _ _ c.in_ok-behind-in-List.ensures (behind_both _ inner (125 ∷ []) _ _ c.in_ok-behind_items-in-List.ensures c.behind-in-List-2.ensures))
