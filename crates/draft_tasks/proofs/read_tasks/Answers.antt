use Rattle.std.proofs.Common.{length, [], ◌∷◌, ◌++◌, refl, codes}
use Rattle.std.proofs.lemmas.Result.{err_from_is_err_and}
use Rattle.spec_world.specs.Checkpoint.{each_task}
use Rattle.spec_faults.specs.Awaited.{again, counted, each_task as each_task_of}
use Rattle.checkpoint_lines.proofs.Giving.{gives_passed}
use Rattle.checkpoint_lines.proofs.Going.{passed_on, tells_then, count_row}
use Rattle.draft_tasks.proofs.Counting.{tasks_counted}
use Rattle.draft_tasks.proofs.read_tasks.Goals as goal

pub returns-in_err-count-clause-reads : goal.returns-in_err-count-clause-reads
returns-in_err-count-clause-reads c = λ w rest f h none l.
    let memory = c.in_err-count.ensures.reads (length w.tasks) (each_task w.tasks ++ rest) refl (tasks_counted w.tasks rest) l in
    let passed = err_from_is_err_and c.from_residual.result c.from_residual.ensures.1 in
    gives_passed c.from_residual.result passed.0 _ passed.1 (cc (passed.2, memory))

pub returns-in_err-count-clause-tells : goal.returns-in_err-count-clause-tells
returns-in_err-count-clause-tells c =
    let passed = err_from_is_err_and c.from_residual.result c.from_residual.ensures.1 in
    passed_on c.from_residual.result passed.0 c.in_err-count.field-0.0 c.args.lines.now _ (counted (codes "tasks") each_task_of ∷ []) (λ _. []) passed.1 (cc (passed.2))
    (c.in_err-count.ensures.tells (counted (codes "tasks") each_task_of) (λ n. again n each_task_of ∷ []) (count_row (codes "tasks") each_task_of))

pub returns-clause-reads : goal.returns-clause-reads
returns-clause-reads c = λ w rest f h none l.
    let count = c.in_ok-count.ensures.reads (length w.tasks) (each_task w.tasks ++ rest) refl (tasks_counted w.tasks rest) l in
    c.so_many_tasks.ensures.reads w rest f h none count.0 count.1

pub returns-clause-tells : goal.returns-clause-tells
returns-clause-tells c =
    tells_then c.so_many_tasks.result c.args.lines.now c.next_count.new.self c.so_many_tasks.new.lines (counted (codes "tasks") each_task_of ∷ []) (again c.in_ok-count.count each_task_of ∷ []) [] (λ _. [])
    (c.in_ok-count.ensures.tells (counted (codes "tasks") each_task_of) (λ n. again n each_task_of ∷ []) (count_row (codes "tasks") each_task_of)) c.so_many_tasks.ensures.tells
