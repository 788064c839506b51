use Rattle.std.proofs.Common.{◌∙◌, ◌<◌, ap, sym, arith, length}
use Rattle.spec_moo.specs.Effects.Scatter.{missing}
use Rattle.moo_task.proofs.Next.{next_place}
use Rattle.local_code.specs.Giving.{items_meant, next_part}
use Rattle.local_code.proofs.Sharing.{missing_later, missing_here, none_missing}
use Rattle.local_code.proofs.moo_stores.shares.next_default.Goals as goal

pub returns-then-lacks_value : goal.returns-then-lacks_value
returns-then-lacks_value c names =
    let in_items : c.loop-i.i < length c.args.items.now = omega arith in
    let in_shares : c.loop-i.i < length c.args.shares.now = omega arith in
    next_place c.loop-i.i
    ∙ sym
    (ap (λ o. next_part o)
    (c.loop-i.invariant names
    ∙ missing_here names c.args.items.now c.args.shares.now c.loop-i.i _ c.index-shares-i.result in_items in_shares c.index-shares-i.is
    (sym c.lacks_value.ensures ∙ c.if-lacks_value.true)))

pub loop-i-preserved : goal.loop-i-preserved
loop-i-preserved c names =
    let in_items : c.loop-i.i < length c.args.items.now = omega arith in
    let in_shares : c.loop-i.i < length c.args.shares.now = omega arith in
    c.loop-i.invariant names
    ∙ missing_later names c.args.items.now c.args.shares.now c.loop-i.i _ c.index-shares-i.result in_items in_shares c.index-shares-i.is
    (sym c.lacks_value.ensures ∙ c.if-lacks_value.false)
    ∙ ap (λ n. missing n (items_meant names c.args.items.now) c.args.shares.now) (sym (next_place c.loop-i.i))

pub returns : goal.returns
returns c names = sym (ap (λ o. next_part o) (c.loop-i.invariant names ∙ none_missing names c.args.items.now c.args.shares.now c.loop-i.i (omega arith)))
