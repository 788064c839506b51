use Rattle.std.proofs.Common.{◌≡◌, ◌∙◌, ◌<◌, ap, sym, subst, suc, ◌+◌, ◌-◌, arith, length, drop, take, reverse, get_or}
use Rattle.std.proofs.lemmas.List.{length-reverse, length-take}
use Rattle.spec_value.specs.Answer.{gives, raises}
use Rattle.moo_value.specs.Errors.{code_of}
use Rattle.moo_task.specs.Shown.{answered_of}
use Rattle.local_code.specs.Targets.{count_in, whole_answer}
use Rattle.local_code.specs.Putting.{held_in, IsPut}
use Rattle.local_code.proofs.MooStoresStoring.{store_lacks, store_unpaid, part_stored, part_refused}
use Rattle.local_code.proofs.moo_stores.parts.store_part.Goals as goal

pub returns-then-len-count : goal.returns-then-len-count
returns-then-len-count c a x h =
    store_lacks a c.args.call.now c.args.state.now c.args.slot x c.args.brackets.now h c.count_in-count.result (omega arith) (omega arith)

pub returns-then-state-eq0 : goal.returns-then-state-eq0
returns-then-state-eq0 c a x h = store_unpaid a c.args.call.now c.args.state.now c.args.slot x c.args.brackets.now h (omega arith) (omega arith)

pub returns-in_ok-did-in-Ok : goal.returns-in_ok-did-in-Ok
returns-in_ok-did-in-Ok c a x h =
    let s = c.args.state.now in
    let bs = c.args.brackets.now in
    let vs = c.in-Some.values.now in
    let v = c.index-values-count.result in
    let u = s.ticks - 1 in
    let count : c.count_in-count.result ≡ count_in bs = omega arith in
    let next : c.count_in-count.result + 1 ≡ suc (count_in bs) = omega (arith, count) in
    let some : count_in bs < length s.operands = omega (arith, count) in
    let is : vs ≡ reverse (take (suc (count_in bs)) s.operands) = c.in-Some.ensures.1 ∙ ap (λ n. reverse (take n s.operands)) next in
    let all : length vs ≡ suc (count_in bs) =
    omega (arith, ap (λ xs. length xs) is, length-reverse (take (suc (count_in bs)) s.operands), length-take (suc (count_in bs)) s.operands, some) in
    let last : v ≡ get_or vs (count_in bs) v = c.index-values-count.is ∙ ap (λ n. get_or vs n v) count in
    let paid : s.ticks ≡ suc u = omega arith in
    let put = subst (λ r. IsPut r s.slots.items c.put_in_slot.new.slots.items c.args.slot (whole_answer (held_in s.slots.items c.args.slot) bs vs c.in_ok-value.value)) c.in-Ok.is
    c.in_ok-put_in_slot.ensures in
    part_stored a c.args.call.now s c.args.slot x bs h vs v u some is all last paid put.0 c.put_in_slot.new.slots c.requires.slot
    (ap (λ y. whole_answer (held_in s.slots.items c.args.slot) bs vs y) (sym c.in_ok-value.ensures.cases) ∙ put.1) put.2
    ∙ ap (λ n. answered_of a c.args.call.now (gives v) (record s { operands = drop n s.operands; slots = c.put_in_slot.new.slots; ticks = u })) (sym next)
    ∙ ap (λ st. answered_of a c.args.call.now (gives v) (record s { operands = st; slots = c.put_in_slot.new.slots; ticks = u })) (sym c.forget.ensures)
    ∙ ap (λ y. answered_of a c.args.call.now (gives y) (record s { operands = c.forget.new.self; slots = c.put_in_slot.new.slots; ticks = u }))
    (sym (c.in_ok-stays.ensures.cases ∙ c.in_ok-value.ensures.cases))
    ∙ c.in_ok-did-in-Ok.ensures a c.args.call.now

pub returns-in_ok-did-in-Err : goal.returns-in_ok-did-in-Err
returns-in_ok-did-in-Err c a x h =
    let s = c.args.state.now in
    let bs = c.args.brackets.now in
    let vs = c.in-Some.values.now in
    let v = c.index-values-count.result in
    let u = s.ticks - 1 in
    let count : c.count_in-count.result ≡ count_in bs = omega arith in
    let next : c.count_in-count.result + 1 ≡ suc (count_in bs) = omega (arith, count) in
    let some : count_in bs < length s.operands = omega (arith, count) in
    let is : vs ≡ reverse (take (suc (count_in bs)) s.operands) = c.in-Some.ensures.1 ∙ ap (λ n. reverse (take n s.operands)) next in
    let all : length vs ≡ suc (count_in bs) =
    omega (arith, ap (λ xs. length xs) is, length-reverse (take (suc (count_in bs)) s.operands), length-take (suc (count_in bs)) s.operands, some) in
    let last : v ≡ get_or vs (count_in bs) v = c.index-values-count.is ∙ ap (λ n. get_or vs n v) count in
    let paid : s.ticks ≡ suc u = omega arith in
    let put = subst (λ r. IsPut r s.slots.items c.put_in_slot.new.slots.items c.args.slot (whole_answer (held_in s.slots.items c.args.slot) bs vs c.in_ok-value.value)) c.in-Err.is
    c.in_ok-put_in_slot.ensures in
    part_refused a c.args.call.now s c.args.slot x bs h vs v u some is all last paid (code_of c.in-Err.error) c.put_in_slot.new.slots
    (ap (λ y. whole_answer (held_in s.slots.items c.args.slot) bs vs y) (sym c.in_ok-value.ensures.cases) ∙ put.0) put.1
    ∙ ap (λ n. answered_of a c.args.call.now (raises (code_of c.in-Err.error)) (record s { operands = drop n s.operands; slots = c.put_in_slot.new.slots; ticks = u })) (sym next)
    ∙ ap (λ st. answered_of a c.args.call.now (raises (code_of c.in-Err.error)) (record s { operands = st; slots = c.put_in_slot.new.slots; ticks = u })) (sym c.forget-in-Err.ensures)
    ∙ c.in_ok-did-in-Err.ensures a
