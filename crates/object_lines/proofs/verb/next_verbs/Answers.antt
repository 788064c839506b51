use Rattle.std.proofs.Common.{length, ◌++◌, refl, ◌∷◌, [], codes}
use Rattle.object_lines.proofs.ObjectParts.{verbs_counted}
use Rattle.spec_world.specs.Checkpoint.{each_verb}
use Rattle.std.proofs.lemmas.Result.{err_from_is_err_and}
use Rattle.checkpoint_lines.proofs.Giving.{gives_passed}
use Rattle.checkpoint_lines.proofs.Going.{passed_on, count_row, tells_then}
use Rattle.spec_faults.specs.Awaited.{again, counted}
use Rattle.spec_faults.specs.Awaited as awaited
use Rattle.object_lines.proofs.verb.next_verbs.Goals as goal

pub returns-in_err-count : goal.returns-in_err-count
returns-in_err-count c = record {
  reads = λ xs rest h l.
      let memory = c.in_err-count.ensures.reads (length xs) (each_verb xs ++ rest) refl (verbs_counted xs rest) l in
      let passed = err_from_is_err_and c.from_residual.result c.from_residual.ensures.1 in
      gives_passed c.from_residual.result passed.0 _ passed.1 (cc (passed.2, memory));
  tells = let passed = err_from_is_err_and c.from_residual.result c.from_residual.ensures.1 in passed_on c.from_residual.result passed.0 _ c.args.lines.now _ (counted (codes "verbs") awaited.each_verb ∷ []) (λ _. []) passed.1 passed.2 (c.in_err-count.ensures.tells (counted (codes "verbs") awaited.each_verb) (λ n. again n awaited.each_verb ∷ []) (count_row (codes "verbs") awaited.each_verb));
}

pub returns : goal.returns
returns c = record {
  reads = λ xs rest h l.
      let count = c.in_ok-count.ensures.reads (length xs) (each_verb xs ++ rest) refl (verbs_counted xs rest) l in
      c.so_many_verbs.ensures.reads xs rest h count.0 count.1;
  tells = tells_then c.so_many_verbs.result c.args.lines.now c.next_count.new.self c.so_many_verbs.new.lines (counted (codes "verbs") awaited.each_verb ∷ []) (again c.in_ok-count.count awaited.each_verb ∷ []) [] (λ _. []) (c.in_ok-count.ensures.tells (counted (codes "verbs") awaited.each_verb) (λ n. again n awaited.each_verb ∷ []) (count_row (codes "verbs") awaited.each_verb)) c.so_many_verbs.ensures.tells;
}
