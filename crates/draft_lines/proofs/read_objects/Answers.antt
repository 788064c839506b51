use Rattle.std.proofs.Common.{length, ◌++◌, refl, ◌∷◌, [], codes}
use Rattle.spec_world.specs.Checkpoint.{each_object}
use Rattle.draft_lines.proofs.Fronts.{objects_counted}
use Rattle.std.proofs.lemmas.Result.{err_from_is_err_and}
use Rattle.checkpoint_lines.proofs.Giving.{gives_passed}
use Rattle.checkpoint_lines.proofs.Going.{no_memory, passed_on, count_row, then_fails, then_goes}
use Rattle.spec_faults.specs.Awaited.{again}
use Rattle.spec_faults.specs.Awaited as awaited
use Rattle.draft_lines.proofs.read_objects.Goals as goal

pub returns-in_err-count : goal.returns-in_err-count
returns-in_err-count c = record {
  reads = λ w rest f h none l.
      let memory = c.in_err-count.ensures.reads (length w.objects) (each_object w w.objects ++ rest) refl (objects_counted w w.objects rest) l in
      let passed = err_from_is_err_and c.from_residual.result c.from_residual.ensures.1 in
      gives_passed c.from_residual.result passed.0 _ passed.1 (cc (passed.2, memory));
  tells = let passed = err_from_is_err_and c.from_residual.result c.from_residual.ensures.1 in passed_on c.from_residual.result passed.0 c.in_err-count.field-0.0 c.args.lines.now _ (awaited.counted (codes "objects") awaited.each_object ∷ []) (λ _. []) passed.1 passed.2 (c.in_err-count.ensures.tells (awaited.counted (codes "objects") awaited.each_object) (λ n. again n awaited.each_object ∷ []) (count_row (codes "objects") awaited.each_object));
}

pub returns-in_err-records : goal.returns-in_err-records
returns-in_err-records c = record {
  reads = λ w rest f h none l.
      let count = c.in_ok-count.ensures.reads (length w.objects) (each_object w w.objects ++ rest) refl (objects_counted w w.objects rest) l in
      let memory = c.in_err-records.ensures.reads w rest f h count.0 count.1 in
      let passed = err_from_is_err_and c.from_residual-in_err-records.result c.from_residual-in_err-records.ensures.1 in
      gives_passed c.from_residual-in_err-records.result passed.0 _ passed.1 (cc (passed.2, memory));
  tells = let passed = err_from_is_err_and c.from_residual-in_err-records.result c.from_residual-in_err-records.ensures.1 in passed_on c.from_residual-in_err-records.result passed.0 c.in_err-records.field-0.0 c.args.lines.now _ (awaited.counted (codes "objects") awaited.each_object ∷ []) (λ _. []) passed.1 passed.2 (then_fails c.in_err-records.field-0.0 (awaited.counted (codes "objects") awaited.each_object ∷ []) (again c.in_ok-count.count awaited.each_object ∷ []) [] (c.in_ok-count.ensures.tells (awaited.counted (codes "objects") awaited.each_object) (λ n. again n awaited.each_object ∷ []) (count_row (codes "objects") awaited.each_object)) c.in_err-records.ensures.tells);
}

pub returns : goal.returns
returns c = record {
  reads = λ w rest f h none l.
      let count = c.in_ok-count.ensures.reads (length w.objects) (each_object w w.objects ++ rest) refl (objects_counted w w.objects rest) l in
      let records = c.in_ok-records.ensures.reads w rest f h count.0 count.1 in
      let done = c.in_ok-done.ensures.reads w records.0 none in
      (done, records.1);
  tells = then_goes (awaited.counted (codes "objects") awaited.each_object ∷ []) (again c.in_ok-count.count awaited.each_object ∷ []) [] [] (c.in_ok-count.ensures.tells (awaited.counted (codes "objects") awaited.each_object) (λ n. again n awaited.each_object ∷ []) (count_row (codes "objects") awaited.each_object)) c.in_ok-records.ensures.tells;
}

pub returns-in_err-done-clause-tells : goal.returns-in_err-done-clause-tells
returns-in_err-done-clause-tells c = let passed = err_from_is_err_and c.from_residual-in_err-done.result c.from_residual-in_err-done.ensures.1 in no_memory c.from_residual-in_err-done.result passed.0 c.args.lines.now _ (awaited.counted (codes "objects") awaited.each_object ∷ []) (λ _. []) passed.1 passed.2
