use Rattle.std.proofs.Common.{◌≡◌, ◌≤◌, ◌<◌, suc, ◌+◌, List, ◌++◌, length, drop, ap, subst, arith, ◌∷◌, []}
use Rattle.std.proofs.Math.ListN.{drop_of_length-le}
use Rattle.std.proofs.lemmas.Result.{err_from_is_err_and}
use Rattle.spec_world.specs.World.{Slot}
use Rattle.checkpoint_lines.specs.Rows.{Left}
use Rattle.checkpoint_lines.proofs.Giving.{gives_passed}
use Rattle.object_lines.specs.Readable.{is_slot_read}
use Rattle.object_lines.specs.Parts.{each_slot}
use Rattle.object_lines.proofs.Lists.{next_at, holds_at, one_read, all_read}
use Rattle.checkpoint_lines.proofs.Going.{no_memory, passed_on, none_yet, one_fails, one_of_them, all_of_them}
use Rattle.spec_faults.specs.Awaited.{again}
use Rattle.spec_faults.specs.Awaited as awaited
use Rattle.object_lines.proofs.slot.so_many_slots.Goals as goal

pub reading-init : goal.reading-init
reading-init c = (
  λ xs rest h n l. (l, ap (λ ys. ys ++ xs) c.in_ok-slots.ensures.items),
  none_yet c.args.lines.now c.args.count awaited.each_slot,
)

pub returns-in_err-slot : goal.returns-in_err-slot
returns-in_err-slot c = record {
  reads = λ xs rest h n l.
      let within : c.reading._slot < length xs = omega arith in
      let at = next_at xs c.reading._slot within in
      let later : List Slot = drop (suc c.reading._slot) xs in
      let inv = c.reading.invariant.0 xs rest h n l in
      let here = subst (λ us. Left c.reading.lines (each_slot us ++ rest)) at.2 inv.0 in
      let memory = c.in_err-slot.ensures.reads at.0 (each_slot later ++ rest) (holds_at is_slot_read xs c.reading._slot at.0 at.1 h) here in
      let passed = err_from_is_err_and c.from_residual-in_err-slot.result c.from_residual-in_err-slot.ensures.1 in
      gives_passed c.from_residual-in_err-slot.result passed.0 _ passed.1 (cc (passed.2, memory));
  tells = let passed = err_from_is_err_and c.from_residual-in_err-slot.result c.from_residual-in_err-slot.ensures.1 in passed_on c.from_residual-in_err-slot.result passed.0 _ c.args.lines.now _ (again c.args.count awaited.each_slot ∷ []) (λ _. []) passed.1 passed.2 (one_fails _ c.args.lines.now c.reading.lines c.args.count c.reading._slot awaited.each_slot (omega arith) c.reading.invariant.1 c.in_err-slot.ensures.tells);
}

pub reading-preserved : goal.reading-preserved
reading-preserved c = (
  λ xs rest h n l.
      let within : c.reading._slot < length xs = omega arith in
      let at = next_at xs c.reading._slot within in
      let later : List Slot = drop (suc c.reading._slot) xs in
      let inv = c.reading.invariant.0 xs rest h n l in
      let here = subst (λ us. Left c.reading.lines (each_slot us ++ rest)) at.2 inv.0 in
      let one = c.in_ok-slot.ensures.reads at.0 (each_slot later ++ rest) (holds_at is_slot_read xs c.reading._slot at.0 at.1 h) here in
      let next : suc c.reading._slot ≡ c.reading._slot + 1 = omega arith in
      let all = one_read c.reading.slots.items c.push.new.self.items c.in_ok-slot.slot at.0 (drop c.reading._slot xs) later xs c.in_ok-push.ensures.items one.0 at.2 inv.1 in
      (subst (λ i. Left c.next_slot.new.lines (each_slot (drop i xs) ++ rest)) next one.1, subst (λ i. c.push.new.self.items ++ drop i xs ≡ xs) next all),
  one_of_them c.args.lines.now c.reading.lines c.next_slot.new.lines c.args.count c.reading._slot awaited.each_slot (omega arith) c.reading.invariant.1 c.in_ok-slot.ensures.tells,
)

pub returns : goal.returns
returns c = record {
  reads = λ xs rest h n l.
      let inv = c.reading.invariant.0 xs rest h n l in
      let past : length xs ≤ c.reading._slot = omega arith in
      let left : Left c.reading.lines rest = subst (λ us. Left c.reading.lines (each_slot us ++ rest)) (drop_of_length-le xs past) inv.0 in
      (all_read c.reading.slots.items xs xs c.reading._slot past inv.1, left);
  tells = all_of_them c.args.lines.now c.reading.lines c.args.count c.reading._slot awaited.each_slot (omega arith) c.reading.invariant.1;
}

pub returns-in_err-push-clause-tells : goal.returns-in_err-push-clause-tells
returns-in_err-push-clause-tells c = let passed = err_from_is_err_and c.from_residual-in_err-push.result c.from_residual-in_err-push.ensures.1 in no_memory c.from_residual-in_err-push.result passed.0 c.args.lines.now _ (again c.args.count awaited.each_slot ∷ []) (λ _. []) passed.1 passed.2
