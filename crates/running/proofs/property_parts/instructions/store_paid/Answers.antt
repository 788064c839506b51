use Rattle.std.proofs.Common.{◌≡◌, ◌∙◌, ◌<◌, ap, sym, suc, ◌+◌, ◌-◌, arith, rules, w32, to_z, of_z, length, drop, take, reverse, get_or}
use Rattle.std.proofs.lemmas.List.{length-reverse, length-take}
use Rattle.spec_world.specs.World.{Call}
use Rattle.moo_code.specs.Instruction as code
use Rattle.moo_task.specs.Shown.{answered_of}
use Rattle.local_code.specs.Targets.{count_in}
use Rattle.running.specs.Worlds.{answer_stored}
use Rattle.running.proofs.Asking.{stored_so}
use Rattle.running.specs.Parts.{part_written}
use Rattle.running.proofs.PropertyPartsStoring.{shape, stores}
use Rattle.running.proofs.property_parts.instructions.store_paid.Goals as goal

pub returns-clause-left : goal.returns-clause-left
returns-clause-left g c =
    let s = c.args.state.now in
    let bs = c.args.brackets.now in
    let vs = c.in-Some.values.now in
    let v = c.index-values-count.result in
    let u = s.ticks - 1 in
    let count : c.args.count ≡ suc (suc (count_in bs)) = omega (arith, c.requires.count) in
    let next : c.args.count + 1 ≡ suc (suc (suc (count_in bs))) = omega (arith, count) in
    let some : suc (suc (count_in bs)) < length s.operands = omega (arith, count, c.requires.operands) in
    let is : vs ≡ reverse (take (suc (suc (suc (count_in bs)))) s.operands) = c.in-Some.ensures.1 ∙ ap (λ n. reverse (take n s.operands)) next in
    let all : length vs ≡ suc (suc (suc (count_in bs))) =
    omega (arith, ap (λ xs. length xs) is, length-reverse (take (suc (suc (suc (count_in bs)))) s.operands), length-take (suc (suc (suc (count_in bs)))) s.operands, some) in
    let last : v ≡ get_or vs (suc (suc (count_in bs))) v = c.index-values-count.is ∙ ap (λ n. get_or vs n v) count in
    let paid : s.ticks ≡ suc u = omega (arith, c.requires.ticks) in
    let whole : to_z w32 (of_z w32 c.call.inside.programmer) ≡ c.call.inside.programmer = search rules in
    let programmer : to_z w32 (of_z w32 c.call.inside.programmer) ≡ c.args.call.now.programmer = whole ∙ ap (λ (k : Call). k.programmer) c.call.view_is in
    let value : c.in_ok-value.value ≡ v = c.in_ok-value.ensures.cases in
    let stays : c.in_ok-stays.stays ≡ v = c.in_ok-stays.ensures.cases ∙ value in
    let operands : drop (suc (suc (suc (count_in bs)))) s.operands ≡ c.forget.new.self = ap (λ n. drop n s.operands) (sym next) ∙ sym c.forget.ensures in
    stored_so g.V.View.holds g.V.View.now c.args.view.now c.write_part.new.view (code.store (shape bs)) c.args.call.now s (record s { operands = drop (suc (suc (suc (count_in bs)))) s.operands; ticks = u }) _ _
    (λ w. part_written w c.args.call.now.programmer bs vs v) v c.in_ok-written.written
    (λ r. stores r c.args.call.now s bs vs v u some is all last paid)
    (rw (programmer, value) at c.in_ok-written.ensures.left)
    (λ r. ap (λ st. answered_of r c.args.call.now (answer_stored c.in_ok-written.written v) (record s { operands = st; ticks = u })) operands
    ∙ ap (λ x. answered_of r c.args.call.now x (record s { operands = c.forget.new.self; ticks = u }))
    (sym (c.assigned.ensures ∙ ap (answer_stored c.in_ok-written.written) stays)) ∙ c.in_ok-did.ensures r)
