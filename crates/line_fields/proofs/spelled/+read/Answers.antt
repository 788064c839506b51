use Rattle.std.proofs.Common.{◌≡◌, ◌∙◌, arith, None, Some, w32}
use Rattle.std.proofs.Common.{rules, to_z, of_z, sym, ⊎_elim}
use Rattle.moo_value.specs.Errors.{code_of}
use Rattle.moo_value.proofs.Reading.{arm_list, arm_text, arm_object, arm_error, arm_number, begins, some_bytes, item_none, item_some, mark_none, mark_true, mark_false, list_ends, list_goes, rest_values, rest_depth, arm_deep}
use Rattle.line_fields.proofs.ValuesTold.{list_told, none_told, text_told, object_told, error_told, integer_told, led_begun, led_on, led_ends, closing_mark, comma_mark}
use Rattle.line_fields.proofs.spelled.+read.Goals as goal

pub front_value-returns-in-Some-3-clause-finds : goal.front_value-returns-in-Some-3-clause-finds
front_value-returns-in-Some-3-clause-finds t c =
    let f = rw c.in-Some-3.is at c.in_ok-text.ensures.finds in
    rw c.text.ensures (arm_text c.args.bytes.now c.in-Some.rest.now c.in-Some.first c.in-Some.ensures c.args.room (Some (c.in-Some-3.text, c.in-Some-3.rest)) c.if-first-eq34.true f)

pub front_value-returns-in-None-2-clause-finds : goal.front_value-returns-in-None-2-clause-finds
front_value-returns-in-None-2-clause-finds t c =
    let f = rw c.in-None-2.is at c.in_ok-text.ensures.finds in
    arm_text c.args.bytes.now c.in-Some.rest.now c.in-Some.first c.in-Some.ensures c.args.room None c.if-first-eq34.true f

pub front_value-returns-in-None-front_integer-clause-finds : goal.front_value-returns-in-None-front_integer-clause-finds
front_value-returns-in-None-front_integer-clause-finds t c =
    arm_object c.args.bytes.now c.in-Some.rest.now c.in-Some.first c.in-Some.ensures c.args.room None c.if-first-eq35.true c.in-None-front_integer.ensures.finds

pub front_value-returns-in-Some-front_error-clause-finds : goal.front_value-returns-in-Some-front_error-clause-finds
front_value-returns-in-Some-front_error-clause-finds t c =
    rw c.error.ensures (arm_error c.args.bytes.now c.in-Some.rest.now c.in-Some.first c.in-Some.ensures c.args.room (Some (code_of c.in-Some-front_error.e, c.in-Some-front_error.rest)) c.if-first-eq69.true c.in-Some-front_error.ensures.finds)

pub front_value-returns-in-None-front_error-clause-finds : goal.front_value-returns-in-None-front_error-clause-finds
front_value-returns-in-None-front_error-clause-finds t c =
    arm_error c.args.bytes.now c.in-Some.rest.now c.in-Some.first c.in-Some.ensures c.args.room None c.if-first-eq69.true c.in-None-front_error.ensures.finds

pub front_value-returns-in_default-clause-finds : goal.front_value-returns-in_default-clause-finds
front_value-returns-in_default-clause-finds t c d r h w e split =
    let none = rw c.in_default.is at c.byte_at_front.ensures in
    absurd (some_bytes d r h (sym split ∙ none))

pub front_value-returns-in_ok-list-in-Some-2-clause-finds : goal.front_value-returns-in_ok-list-in-Some-2-clause-finds
front_value-returns-in_ok-list-in-Some-2-clause-finds t c =
    let f = rw c.in-Some-2.is at c.in_ok-items.ensures.finds in
    rw c.in_ok-list-in-Some-2.ensures (arm_list c.args.bytes.now c.in-Some.rest.now c.in-Some.first c.in-Some.ensures c.args.room (Some (c.in-Some-2.items.items, c.in-Some-2.rest)) (omega arith) c.if-first-eq123.true f)

pub front_value-returns-in-None-clause-finds : goal.front_value-returns-in-None-clause-finds
front_value-returns-in-None-clause-finds t c =
    let f = rw c.in-None.is at c.in_ok-items.ensures.finds in
    arm_list c.args.bytes.now c.in-Some.rest.now c.in-Some.first c.in-Some.ensures c.args.room None (omega arith) c.if-first-eq123.true f

pub front_value-returns-in-Some-front_integer-clause-finds : goal.front_value-returns-in-Some-front_integer-clause-finds
front_value-returns-in-Some-front_integer-clause-finds t c =
    let n = c.in-Some-front_integer.n in
    let back : to_z w32 (of_z w32 n) ≡ n = search rules in
    rw (c.object.ensures, back) (arm_object c.args.bytes.now c.in-Some.rest.now c.in-Some.first c.in-Some.ensures c.args.room (Some (n, c.in-Some-front_integer.rest)) c.if-first-eq35.true c.in-Some-front_integer.ensures.finds)

pub front_value-returns-in-Some-front_integer-2-clause-finds : goal.front_value-returns-in-Some-front_integer-2-clause-finds
front_value-returns-in-Some-front_integer-2-clause-finds t c =
    let n = c.in-Some-front_integer-2.n in
    let back : to_z w32 (of_z w32 n) ≡ n = search rules in
    rw (c.integer.ensures, back) (arm_number c.args.bytes.now c.in-Some.rest.now c.in-Some.first c.in-Some.ensures c.args.room (Some (n, c.in-Some-front_integer-2.rest)) c.if-first-eq123.false c.if-first-eq34.false c.if-first-eq35.false c.if-first-eq69.false c.in-Some-front_integer-2.ensures.finds)

pub front_value-returns-in-None-front_integer-2-clause-finds : goal.front_value-returns-in-None-front_integer-2-clause-finds
front_value-returns-in-None-front_integer-2-clause-finds t c =
    arm_number c.args.bytes.now c.in-Some.rest.now c.in-Some.first c.in-Some.ensures c.args.room None c.if-first-eq123.false c.if-first-eq34.false c.if-first-eq35.false c.if-first-eq69.false c.in-None-front_integer-2.ensures.finds

pub front_items-returns-then-first-eq125-clause-finds : goal.front_items-returns-then-first-eq125-clause-finds
front_items-returns-then-first-eq125-clause-finds t c ds r h w e =
    ⊎_elim
    (λ v. rw (c.new-items.ensures.items, v.1, v.2))
    (λ v. absurd (v.0 c.if-first-eq125.true))
    (begins ds r c.in-Some.first c.in-Some.rest.now h (sym e ∙ c.in-Some.ensures))

pub front_items-all-init : goal.front_items-all-init
front_items-all-init t c = record {
  shorter = omega arith;
  left = λ ds r h w e.
      ⊎_elim
      (λ v. absurd (c.if-first-eq125.false v.0))
      (λ v. (v.1.0, v.1.1, rw v.1.2 at h, rw (c.new-items.ensures.items) v.1.2, rw v.1.2 at e, rw v.1.2 at w))
      (begins ds r c.in-Some.first c.in-Some.rest.now h (sym e ∙ c.in-Some.ensures));
  told = led_begun c.args.room c.args.bytes.now c.new-items.result.items c.new-items.ensures.items;
}

pub front_items-returns-in-None-2-clause-finds : goal.front_items-returns-in-None-2-clause-finds
front_items-returns-in-None-2-clause-finds t c ds r h w e =
    let left = c.all.invariant.left ds r h w e in
    let f = rw c.in-None-2.is at c.in_ok-front_value.ensures.finds in
    absurd (item_none c.all.rest.now left.0 left.1 r left.2 c.args.room left.5 left.4 f)

pub front_items-returns-in-None-front_mark-clause-finds : goal.front_items-returns-in-None-front_mark-clause-finds
front_items-returns-in-None-front_mark-clause-finds t c ds r h w e =
    let left = c.all.invariant.left ds r h w e in
    let f = rw c.in-Some-2.is at c.in_ok-front_value.ensures.finds in
    let item = item_some c.all.rest.now left.0 left.1 r left.2 c.args.room left.5 left.4 c.in-Some-2.item c.in-Some-2.after f in
    absurd (mark_none left.1 r c.in-Some-2.after.now item.1 c.in-None-front_mark.ensures.finds)

pub front_items-returns-then-ends-clause-finds : goal.front_items-returns-then-ends-clause-finds
front_items-returns-then-ends-clause-finds t c ds r h w e =
    let left = c.all.invariant.left ds r h w e in
    let f = rw c.in-Some-2.is at c.in_ok-front_value.ensures.finds in
    let item = item_some c.all.rest.now left.0 left.1 r left.2 c.args.room left.5 left.4 c.in-Some-2.item c.in-Some-2.after f in
    let end = mark_true left.1 r c.in-Some-2.after.now c.in-Some-front_mark.more.now item.1 (rw c.if-ends.true at c.in-Some-front_mark.ensures.finds) in
    let all = list_ends c.all.items.items ds left.1 c.shrink_to_fit.new.self.items left.0 c.in-Some-2.item left.3 end.0 item.0 (c.shrink_to_fit.ensures.items ∙ c.in_ok-push-in-Some-2.ensures.items) in
    rw (all, end.1)

pub front_items-all-preserved : goal.front_items-all-preserved
front_items-all-preserved t c = record {
  shorter = let a = rw c.in-Some-2.is at c.in_ok-front_value.ensures.shorter in omega (arith, a, c.in-Some-front_mark.ensures.shorter, c.all.invariant.shorter);
  left = λ ds r h w e.
      let left = c.all.invariant.left ds r h w e in
      let f = rw c.in-Some-2.is at c.in_ok-front_value.ensures.finds in
      let item = item_some c.all.rest.now left.0 left.1 r left.2 c.args.room left.5 left.4 c.in-Some-2.item c.in-Some-2.after f in
      let on = mark_false left.1 r c.in-Some-2.after.now c.in-Some-front_mark.more.now item.1 (rw c.if-ends.false at c.in-Some-front_mark.ensures.finds) in
      let all = list_goes c.all.items.items ds left.1 c.push.new.self.items left.0 c.in-Some-2.item on.0 on.1 left.3 on.2 item.0 c.in_ok-push-in-Some-2.ensures.items in
      (on.0, on.1, rw on.2 at (rest_values left.0 left.1 left.2), all, on.3, rw on.2 at (rest_depth left.0 left.1 c.args.room left.5));
  told =
      let item = rw c.in-Some-2.is at c.in_ok-front_value.ensures.tells in
      led_on c.args.room c.args.bytes.now c.all.rest.now c.in-Some-2.after.now c.in-Some-front_mark.more.now c.all.items.items c.push.new.self.items c.in-Some-2.item c.all.invariant.told item
      (comma_mark c.in-Some-2.after.now c.in-Some-front_mark.more.now (sym (rw c.if-ends.false at c.in-Some-front_mark.ensures.finds))) c.in_ok-push-in-Some-2.ensures.items;
}

pub front_value-returns-then-room-eq0-clause-finds : goal.front_value-returns-then-room-eq0-clause-finds
front_value-returns-then-room-eq0-clause-finds t c =
    arm_deep c.args.bytes.now c.in-Some.rest.now c.in-Some.first c.in-Some.ensures c.args.room c.if-room-eq0.true c.if-first-eq123.true

pub front_value-returns-in_ok-list-in-Some-2-clause-tells : goal.front_value-returns-in_ok-list-in-Some-2-clause-tells
front_value-returns-in_ok-list-in-Some-2-clause-tells t c =
    let f = rw c.in-Some-2.is at c.in_ok-items.ensures.tells in
    rw c.in_ok-list-in-Some-2.ensures (list_told c.args.room c.in-Some.first c.args.bytes.now c.in-Some.rest.now c.in-Some-2.rest.now c.in-Some-2.items.items c.in-Some.ensures c.if-first-eq123.true (omega arith) f)

pub front_value-returns-in-Some-3-clause-tells : goal.front_value-returns-in-Some-3-clause-tells
front_value-returns-in-Some-3-clause-tells t c =
    let f = rw c.in-Some-3.is at c.in_ok-text.ensures.tells in
    rw c.text.ensures (text_told c.args.room c.in-Some.first c.args.bytes.now c.in-Some.rest.now c.in-Some-3.rest.now c.in-Some-3.text c.in-Some.ensures c.if-first-eq34.true f)

pub front_value-returns-in-Some-front_integer-clause-tells : goal.front_value-returns-in-Some-front_integer-clause-tells
front_value-returns-in-Some-front_integer-clause-tells t c =
    let n = c.in-Some-front_integer.n in
    let back : to_z w32 (of_z w32 n) ≡ n = search rules in
    rw (c.object.ensures, back) (object_told c.args.room c.in-Some.first c.args.bytes.now c.in-Some.rest.now c.in-Some-front_integer.rest.now n c.in-Some.ensures c.if-first-eq35.true c.in-Some-front_integer.ensures.tells.0)

pub front_value-returns-in-Some-front_error-clause-tells : goal.front_value-returns-in-Some-front_error-clause-tells
front_value-returns-in-Some-front_error-clause-tells t c =
    rw c.error.ensures (error_told c.args.room c.args.bytes.now c.in-Some-front_error.rest.now (code_of c.in-Some-front_error.e) c.in-Some-front_error.ensures.tells)

pub front_value-returns-in-Some-front_integer-2-clause-tells : goal.front_value-returns-in-Some-front_integer-2-clause-tells
front_value-returns-in-Some-front_integer-2-clause-tells t c =
    let n = c.in-Some-front_integer-2.n in
    let back : to_z w32 (of_z w32 n) ≡ n = search rules in
    rw (c.integer.ensures, back) (integer_told c.args.room c.args.bytes.now c.in-Some-front_integer-2.rest.now n c.in-Some-front_integer-2.ensures.tells.0)

pub front_items-returns-then-first-eq125-clause-tells : goal.front_items-returns-then-first-eq125-clause-tells
front_items-returns-then-first-eq125-clause-tells t c =
    none_told c.args.room c.in-Some.first c.args.bytes.now c.in-Some.rest.now c.new-items.result.items c.in-Some.ensures c.if-first-eq125.true c.new-items.ensures.items

pub front_items-returns-then-ends-clause-tells : goal.front_items-returns-then-ends-clause-tells
front_items-returns-then-ends-clause-tells t c =
    let item = rw c.in-Some-2.is at c.in_ok-front_value.ensures.tells in
    led_ends c.args.room c.args.bytes.now c.all.rest.now c.in-Some-2.after.now c.in-Some-front_mark.more.now c.all.items.items c.shrink_to_fit.new.self.items c.in-Some-2.item c.all.invariant.told item
    (closing_mark c.in-Some-2.after.now c.in-Some-front_mark.more.now (sym (rw c.if-ends.true at c.in-Some-front_mark.ensures.finds))) (c.shrink_to_fit.ensures.items ∙ c.in_ok-push-in-Some-2.ensures.items)
