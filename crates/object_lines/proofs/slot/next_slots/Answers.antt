use Rattle.std.proofs.Common.{◌∙◌, [], ◌∷◌, codes}
use Rattle.std.proofs.lemmas.Result.{err_from_is_err_and}
use Rattle.checkpoint_lines.proofs.Giving.{gives_passed}
use Rattle.checkpoint_lines.proofs.Going.{no_memory, passed_on}
use Rattle.spec_faults.specs.Awaited.{counted}
use Rattle.spec_faults.specs.Awaited as awaited
use Rattle.object_lines.proofs.slot.next_slots.Goals as goal

pub returns-in_err-slots : goal.returns-in_err-slots
returns-in_err-slots c = record {
  reads = λ xs rest h l.
      let memory = c.in_err-slots.ensures.reads xs rest h l in
      let passed = err_from_is_err_and c.from_residual.result c.from_residual.ensures.1 in
      gives_passed c.from_residual.result passed.0 _ passed.1 (cc (passed.2, memory));
  tells = let passed = err_from_is_err_and c.from_residual.result c.from_residual.ensures.1 in passed_on c.from_residual.result passed.0 _ c.args.lines.now _ (counted (codes "slots") awaited.each_slot ∷ []) (λ _. []) passed.1 passed.2 c.in_err-slots.ensures.tells;
}

pub returns-in_err-keep_values-clause-tells : goal.returns-in_err-keep_values-clause-tells
returns-in_err-keep_values-clause-tells c = let passed = err_from_is_err_and c.from_residual-in_err-keep_values.result c.from_residual-in_err-keep_values.ensures.1 in no_memory c.from_residual-in_err-keep_values.result passed.0 c.args.lines.now _ (counted (codes "slots") awaited.each_slot ∷ []) (λ _. []) passed.1 passed.2

pub returns : goal.returns
returns c = record {
  reads = λ xs rest h l.
      let all = c.in_ok-slots.ensures.reads xs rest h l in
      (c.in_ok-keep_values.ensures ∙ all.0, all.1);
  tells = c.in_ok-slots.ensures.tells;
}
