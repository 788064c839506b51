use Rattle.std.proofs.Common.{length, ◌++◌, refl, ◌∷◌, [], codes}
use Rattle.object_lines.proofs.ObjectParts.{slots_counted}
use Rattle.object_lines.specs.Parts.{each_slot}
use Rattle.std.proofs.lemmas.Result.{err_from_is_err_and}
use Rattle.checkpoint_lines.proofs.Giving.{gives_passed}
use Rattle.checkpoint_lines.proofs.Going.{passed_on, count_row, tells_then}
use Rattle.spec_faults.specs.Awaited.{again, counted}
use Rattle.spec_faults.specs.Awaited as awaited
use Rattle.object_lines.proofs.slot.slots_read.Goals as goal

pub returns-in_err-count : goal.returns-in_err-count
returns-in_err-count c = record {
  reads = λ xs rest h l.
      let memory = c.in_err-count.ensures.reads (length xs) (each_slot xs ++ rest) refl (slots_counted xs rest) l in
      let passed = err_from_is_err_and c.from_residual.result c.from_residual.ensures.1 in
      gives_passed c.from_residual.result passed.0 _ passed.1 (cc (passed.2, memory));
  tells = let passed = err_from_is_err_and c.from_residual.result c.from_residual.ensures.1 in passed_on c.from_residual.result passed.0 _ c.args.lines.now _ (counted (codes "slots") awaited.each_slot ∷ []) (λ _. []) passed.1 passed.2 (c.in_err-count.ensures.tells (counted (codes "slots") awaited.each_slot) (λ n. again n awaited.each_slot ∷ []) (count_row (codes "slots") awaited.each_slot));
}

pub returns : goal.returns
returns c = record {
  reads = λ xs rest h l.
      let count = c.in_ok-count.ensures.reads (length xs) (each_slot xs ++ rest) refl (slots_counted xs rest) l in
      c.so_many_slots.ensures.reads xs rest h count.0 count.1;
  tells = tells_then c.so_many_slots.result c.args.lines.now c.next_count.new.self c.so_many_slots.new.lines (counted (codes "slots") awaited.each_slot ∷ []) (again c.in_ok-count.count awaited.each_slot ∷ []) [] (λ _. []) (c.in_ok-count.ensures.tells (counted (codes "slots") awaited.each_slot) (λ n. again n awaited.each_slot ∷ []) (count_row (codes "slots") awaited.each_slot)) c.so_many_slots.ensures.tells;
}
