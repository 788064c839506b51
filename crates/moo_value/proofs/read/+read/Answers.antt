use Rattle.std.proofs.Common.{◌≡◌, ◌∙◌, arith, None, Some, w32}
use Rattle.std.proofs.Common.{rules, to_z, of_z, sym, ⊎_elim}
use Rattle.moo_value.specs.Errors.{code_of}
use Rattle.moo_value.proofs.Reading.{arm_list, arm_text, arm_object, arm_error, arm_number, begins, some_bytes, item_none, item_some, mark_none, mark_true, mark_false, list_ends, list_goes, rest_values, rest_depth, arm_deep}
use Rattle.moo_value.proofs.read.+read.Goals as goal

pub read_value-returns-in-Some-3-clause-finds : goal.read_value-returns-in-Some-3-clause-finds
read_value-returns-in-Some-3-clause-finds t c =
    let f = rw c.in-Some-3.is at c.in_ok-text.ensures.finds in
    rw c.text.ensures (arm_text c.args.bytes.now c.in-Some.rest.now c.in-Some.first c.in-Some.ensures c.args.room (Some (c.in-Some-3.text, c.in-Some-3.rest)) c.if-first-eq34.true f)

pub read_value-returns-in-None-2-clause-finds : goal.read_value-returns-in-None-2-clause-finds
read_value-returns-in-None-2-clause-finds t c =
    let f = rw c.in-None-2.is at c.in_ok-text.ensures.finds in
    arm_text c.args.bytes.now c.in-Some.rest.now c.in-Some.first c.in-Some.ensures c.args.room None c.if-first-eq34.true f

pub read_value-returns-in-None-read_number-clause-finds : goal.read_value-returns-in-None-read_number-clause-finds
read_value-returns-in-None-read_number-clause-finds t c =
    arm_object c.args.bytes.now c.in-Some.rest.now c.in-Some.first c.in-Some.ensures c.args.room None c.if-first-eq35.true c.in-None-read_number.ensures.finds

pub read_value-returns-in-Some-read_error-clause-finds : goal.read_value-returns-in-Some-read_error-clause-finds
read_value-returns-in-Some-read_error-clause-finds t c =
    rw c.error.ensures (arm_error c.args.bytes.now c.in-Some.rest.now c.in-Some.first c.in-Some.ensures c.args.room (Some (code_of c.in-Some-read_error.e, c.in-Some-read_error.rest)) c.if-first-eq69.true c.in-Some-read_error.ensures.finds)

pub read_value-returns-in-None-read_error-clause-finds : goal.read_value-returns-in-None-read_error-clause-finds
read_value-returns-in-None-read_error-clause-finds t c =
    arm_error c.args.bytes.now c.in-Some.rest.now c.in-Some.first c.in-Some.ensures c.args.room None c.if-first-eq69.true c.in-None-read_error.ensures.finds

pub read_value-returns-in_default-clause-finds : goal.read_value-returns-in_default-clause-finds
read_value-returns-in_default-clause-finds t c d r h w e split =
    let none = rw c.in_default.is at c.byte_at_front.ensures in
    absurd (some_bytes d r h (sym split ∙ none))

pub read_value-returns-in_ok-list-in-Some-2-clause-finds : goal.read_value-returns-in_ok-list-in-Some-2-clause-finds
read_value-returns-in_ok-list-in-Some-2-clause-finds t c =
    let f = rw c.in-Some-2.is at c.in_ok-items.ensures.finds in
    rw c.in_ok-list-in-Some-2.ensures (arm_list c.args.bytes.now c.in-Some.rest.now c.in-Some.first c.in-Some.ensures c.args.room (Some (c.in-Some-2.items.items, c.in-Some-2.rest)) (omega arith) c.if-first-eq123.true f)

pub read_value-returns-in-None-clause-finds : goal.read_value-returns-in-None-clause-finds
read_value-returns-in-None-clause-finds t c =
    let f = rw c.in-None.is at c.in_ok-items.ensures.finds in
    arm_list c.args.bytes.now c.in-Some.rest.now c.in-Some.first c.in-Some.ensures c.args.room None (omega arith) c.if-first-eq123.true f

pub read_value-returns-in-Some-read_number-clause-finds : goal.read_value-returns-in-Some-read_number-clause-finds
read_value-returns-in-Some-read_number-clause-finds t c =
    let n = c.in-Some-read_number.n in
    let back : to_z w32 (of_z w32 n) ≡ n = search rules in
    rw (c.object.ensures, back) (arm_object c.args.bytes.now c.in-Some.rest.now c.in-Some.first c.in-Some.ensures c.args.room (Some (n, c.in-Some-read_number.rest)) c.if-first-eq35.true c.in-Some-read_number.ensures.finds)

pub read_value-returns-in-Some-read_number-2-clause-finds : goal.read_value-returns-in-Some-read_number-2-clause-finds
read_value-returns-in-Some-read_number-2-clause-finds t c =
    let n = c.in-Some-read_number-2.n in
    let back : to_z w32 (of_z w32 n) ≡ n = search rules in
    rw (c.integer.ensures, back) (arm_number c.args.bytes.now c.in-Some.rest.now c.in-Some.first c.in-Some.ensures c.args.room (Some (n, c.in-Some-read_number-2.rest)) c.if-first-eq123.false c.if-first-eq34.false c.if-first-eq35.false c.if-first-eq69.false c.in-Some-read_number-2.ensures.finds)

pub read_value-returns-in-None-read_number-2-clause-finds : goal.read_value-returns-in-None-read_number-2-clause-finds
read_value-returns-in-None-read_number-2-clause-finds t c =
    arm_number c.args.bytes.now c.in-Some.rest.now c.in-Some.first c.in-Some.ensures c.args.room None c.if-first-eq123.false c.if-first-eq34.false c.if-first-eq35.false c.if-first-eq69.false c.in-None-read_number-2.ensures.finds

pub read_items-returns-then-first-eq125-clause-finds : goal.read_items-returns-then-first-eq125-clause-finds
read_items-returns-then-first-eq125-clause-finds t c ds r h w e =
    ⊎_elim
    (λ v. rw (c.new-items.ensures.items, v.1, v.2))
    (λ v. absurd (v.0 c.if-first-eq125.true))
    (begins ds r c.in-Some.first c.in-Some.rest.now h (sym e ∙ c.in-Some.ensures))

pub read_items-all-init : goal.read_items-all-init
read_items-all-init t c = record {
  shorter = omega arith;
  left = λ ds r h w e.
      ⊎_elim
      (λ v. absurd (c.if-first-eq125.false v.0))
      (λ v. (v.1.0, v.1.1, rw v.1.2 at h, rw (c.new-items.ensures.items) v.1.2, rw v.1.2 at e, rw v.1.2 at w))
      (begins ds r c.in-Some.first c.in-Some.rest.now h (sym e ∙ c.in-Some.ensures));
}

pub read_items-returns-in-None-2-clause-finds : goal.read_items-returns-in-None-2-clause-finds
read_items-returns-in-None-2-clause-finds t c ds r h w e =
    let left = c.all.invariant.left ds r h w e in
    let f = rw c.in-None-2.is at c.in_ok-read_value.ensures.finds in
    absurd (item_none c.all.rest.now left.0 left.1 r left.2 c.args.room left.5 left.4 f)

pub read_items-returns-in-None-read_mark-clause-finds : goal.read_items-returns-in-None-read_mark-clause-finds
read_items-returns-in-None-read_mark-clause-finds t c ds r h w e =
    let left = c.all.invariant.left ds r h w e in
    let f = rw c.in-Some-2.is at c.in_ok-read_value.ensures.finds in
    let item = item_some c.all.rest.now left.0 left.1 r left.2 c.args.room left.5 left.4 c.in-Some-2.item c.in-Some-2.after f in
    absurd (mark_none left.1 r c.in-Some-2.after.now item.1 c.in-None-read_mark.ensures.finds)

pub read_items-returns-then-ends-clause-finds : goal.read_items-returns-then-ends-clause-finds
read_items-returns-then-ends-clause-finds t c ds r h w e =
    let left = c.all.invariant.left ds r h w e in
    let f = rw c.in-Some-2.is at c.in_ok-read_value.ensures.finds in
    let item = item_some c.all.rest.now left.0 left.1 r left.2 c.args.room left.5 left.4 c.in-Some-2.item c.in-Some-2.after f in
    let end = mark_true left.1 r c.in-Some-2.after.now c.in-Some-read_mark.more.now item.1 (rw c.if-ends.true at c.in-Some-read_mark.ensures.finds) in
    let all = list_ends c.all.items.items ds left.1 c.push.new.self.items left.0 c.in-Some-2.item left.3 end.0 item.0 c.in_ok-push-in-Some-2.ensures.items in
    rw (all, end.1)

pub read_items-all-preserved : goal.read_items-all-preserved
read_items-all-preserved t c = record {
  shorter = let a = rw c.in-Some-2.is at c.in_ok-read_value.ensures.shorter in omega (arith, a, c.in-Some-read_mark.ensures.shorter, c.all.invariant.shorter);
  left = λ ds r h w e.
      let left = c.all.invariant.left ds r h w e in
      let f = rw c.in-Some-2.is at c.in_ok-read_value.ensures.finds in
      let item = item_some c.all.rest.now left.0 left.1 r left.2 c.args.room left.5 left.4 c.in-Some-2.item c.in-Some-2.after f in
      let on = mark_false left.1 r c.in-Some-2.after.now c.in-Some-read_mark.more.now item.1 (rw c.if-ends.false at c.in-Some-read_mark.ensures.finds) in
      let all = list_goes c.all.items.items ds left.1 c.push.new.self.items left.0 c.in-Some-2.item on.0 on.1 left.3 on.2 item.0 c.in_ok-push-in-Some-2.ensures.items in
      (on.0, on.1, rw on.2 at (rest_values left.0 left.1 left.2), all, on.3, rw on.2 at (rest_depth left.0 left.1 c.args.room left.5));
}

pub read_value-returns-then-room-eq0-clause-finds : goal.read_value-returns-then-room-eq0-clause-finds
read_value-returns-then-room-eq0-clause-finds t c =
    arm_deep c.args.bytes.now c.in-Some.rest.now c.in-Some.first c.in-Some.ensures c.args.room c.if-room-eq0.true c.if-first-eq123.true
