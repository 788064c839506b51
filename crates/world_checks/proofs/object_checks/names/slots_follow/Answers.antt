use Rattle.std.proofs.Common.{◌≡◌, rules}
use Rattle.std.proofs.lemmas.Result.{IfOk-weaker}
use Rattle.world_checks.proofs.Follow.{follows, merges}
use Rattle.world_checks.proofs.object_checks.names.slots_follow.Goals as goal

pub returns-clause-tells : goal.returns-clause-tells
returns-clause-tells c =
    let defined : c.as_slice-names.result.now ≡ c.args.object.now.defines = first_of (cc, search rules) in
    IfOk-weaker c.is_merge.result _ _
    (λ b h yes. follows c.args.draft.now c.args.number c.args.object.now c.as_slice-names.result.now c.inherited-others.result.now c.own_slots-slots.result.now defined c.own_slots-slots.ensures.slots
    c.own_slots-slots.ensures.once c.inherited-others.ensures.names (h yes)) c.is_merge.ensures.tells

pub returns-clause-finds : goal.returns-clause-finds
returns-clause-finds c =
    let defined : c.as_slice-names.result.now ≡ c.args.object.now.defines = first_of (cc, search rules) in
    IfOk-weaker c.is_merge.result _ _
    (λ b h yes. h c.inherited-others.ensures.order c.own_slots-slots.ensures.order
    (merges c.args.draft.now c.args.number c.args.object.now c.as_slice-names.result.now c.inherited-others.result.now c.own_slots-slots.result.now defined c.own_slots-slots.ensures.slots
    c.own_slots-slots.ensures.once c.inherited-others.ensures.once c.inherited-others.ensures.names yes)) c.is_merge.ensures.finds
