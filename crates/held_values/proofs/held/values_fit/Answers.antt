use Rattle.std.proofs.Common.{suc, length, ◌≡◌, sym, ap, take, replicate, arith, ◌∙◌}
use Rattle.std.proofs.lemmas.Bool.{eqb-true, eq-eqb}
use Rattle.std.proofs.lemmas.List.{length-replicate}
use Rattle.held_values.proofs.Telling.{none_more, as_many_arms}
use Rattle.spec_program.specs.Place.{arity, any_value}
use Rattle.held_values.proofs.ValueKinds.{any_fit, length_before}
use Rattle.held_values.proofs.held.values_fit.Goals as goal

pub returns-in-Any-clause-tells : goal.returns-in-Any-clause-tells
returns-in-Any-clause-tells c t = rw c.in-Any.is (any_fit c.in-Any.count c.args.held.now (omega (arith, eqb-true (length c.args.held.now) c.from.result t, c.from.ensures)))

pub returns-in-AnyAndList-clause-tells : goal.returns-in-AnyAndList-clause-tells
returns-in-AnyAndList-clause-tells c t =
    let vs = c.args.held.now in
    let n = c.in-AnyAndList.count in
    let m = c.from-count.result in
    let count : length (take m vs) ≡ n = length_before vs m (c.ends_in_list.ensures.length t) ∙ c.from-count.ensures in
    rw c.in-AnyAndList.is (c.ends_in_list.ensures.kinds t (replicate n any_value) (any_fit n (take m vs) count))

pub returns-in_ok-count-in-Target-clause-tells : goal.returns-in_ok-count-in-Target-clause-tells
returns-in_ok-count-in-Target-clause-tells c t =
    let target = c.in-Target.target.now in
    rw c.in-Target.is (any_fit (arity target) c.args.held.now (omega (arith, eqb-true (length c.args.held.now) c.in_ok-count-in-Target.count t, c.in_ok-count-in-Target.ensures)))

pub returns-in_ok-count-in-TargetAndOne-clause-tells : goal.returns-in_ok-count-in-TargetAndOne-clause-tells
returns-in_ok-count-in-TargetAndOne-clause-tells c t =
    let target = c.in-TargetAndOne.target.now in
    rw c.in-TargetAndOne.is (any_fit (suc (arity target)) c.args.held.now (omega (arith, c.is_one_more.ensures.tells t, c.in_ok-count-in-TargetAndOne.ensures)))

pub returns-in-Any-clause-finds : goal.returns-in-Any-clause-finds
returns-in-Any-clause-finds c h =
    let fits = rw c.in-Any.is at h in
    eq-eqb (length c.args.held.now) c.from.result (none_more c.in-Any.count c.args.held.now fits ∙ sym c.from.ensures)

pub returns-in-AnyAndList-clause-finds : goal.returns-in-AnyAndList-clause-finds
returns-in-AnyAndList-clause-finds c h =
    let fits = rw c.in-AnyAndList.is at h in
    c.ends_in_list.ensures.finds (replicate c.in-AnyAndList.count any_value) (length-replicate c.in-AnyAndList.count any_value ∙ sym c.from-count.ensures) fits

pub returns-in_ok-count-in-Target-clause-finds : goal.returns-in_ok-count-in-Target-clause-finds
returns-in_ok-count-in-Target-clause-finds c h =
    let fits = rw c.in-Target.is at h in
    eq-eqb (length c.args.held.now) c.in_ok-count-in-Target.count (none_more (arity c.in-Target.target.now) c.args.held.now fits ∙ sym c.in_ok-count-in-Target.ensures)

pub returns-in_ok-count-in-TargetAndOne-clause-finds : goal.returns-in_ok-count-in-TargetAndOne-clause-finds
returns-in_ok-count-in-TargetAndOne-clause-finds c h =
    let fits = rw c.in-TargetAndOne.is at h in
    c.is_one_more.ensures.finds (none_more (suc (arity c.in-TargetAndOne.target.now)) c.args.held.now fits ∙ ap suc (sym c.in_ok-count-in-TargetAndOne.ensures))

pub returns-else-held-arms-clause-finds : goal.returns-else-held-arms-clause-finds
returns-else-held-arms-clause-finds c h =
    let fits = rw c.in-Arms.is at h in
    absurd (c.if-held-arms.false (as_many_arms c.in-Arms.arms.now c.args.held.now fits))
