use Rattle.std.proofs.Common.{[], ◌∷◌, ◌≡◌, ◌<◌, ℤ, suc, ◌+◌, List, ◌++◌, length, take, drop, IsTrue, ap, subst, ◌∙◌, arith, is_some}
use Rattle.std.proofs.lemmas.Result.{err_from_is_err_and}
use Rattle.spec_value.specs.Datum.{in_number_range}
use Rattle.spec_value.proofs.Entries.{first_holds, second_holds}
use Rattle.spec_world.specs.World.{Task}
use Rattle.spec_world.specs.Questions.{put_task}
use Rattle.spec_world.specs.Checkpoint.{each_task}
use Rattle.spec_checkpoint.specs.Holding.{numbered_task_holds, task_holds}
use Rattle.checkpoint_lines.specs.Rows.{Left}
use Rattle.checkpoint_lines.proofs.Giving.{gives_passed}
use Rattle.spec_faults.specs.Awaited.{again, each_task as each_task_of}
use Rattle.checkpoint_lines.proofs.Going.{passed_on, one_fails, one_of_them, all_of_them}
use Rattle.named_objects.proofs.Tables.{found_at}
use Rattle.object_lines.proofs.Lists.{next_at, holds_at}
use Rattle.draft_objects.proofs.Puts.{next_put}
use Rattle.task_lines.specs.Tasks.{task_nests}
use Rattle.task_lines.specs.Readable.{is_task_read}
use Rattle.task_lines.proofs.WorldTasks.{tasks_are_read}
use Rattle.draft_tasks.proofs.Counting.{tasks_on}
use Rattle.draft_tasks.proofs.so_many_tasks.Goals as goal
use Rattle.draft_tasks.proofs.so_many_tasks.Goals.{then-all, else-all}

pub returns-in_err-entry-clause-reads : goal.returns-in_err-entry-clause-reads
returns-in_err-entry-clause-reads c = λ w rest f h none n l.
    let within : c.reading._task < length w.tasks = omega arith in
    let at = next_at w.tasks c.reading._task within in
    let read = holds_at is_task_read w.tasks c.reading._task at.0 at.1 h in
    let holds = first_holds (numbered_task_holds at.0) (task_nests (at.0).1) read in
    let is = tasks_are_read w (at.0).0 (at.0).1 f (found_at w.tasks c.reading._task (at.0).0 (at.0).1 f.tasks_in_order at.1) holds (second_holds (numbered_task_holds at.0) (task_nests (at.0).1) read) in
    let later : List (ℤ × Task) = drop (suc c.reading._task) w.tasks in
    let inv = c.reading.invariant.0 w rest f h none n l in
    let here = subst (λ us. Left c.reading.lines us) (tasks_on at.0 later rest) (subst (λ us. Left c.reading.lines (each_task us ++ rest)) at.2 inv.0) in
    let memory = c.in_err-entry.ensures.reads (at.0).0 (at.0).1 (each_task later ++ rest) (first_holds (in_number_range (at.0).0) (task_holds (at.0).1) holds) is here in
    let passed = err_from_is_err_and c.from_residual.result c.from_residual.ensures.1 in
    gives_passed c.from_residual.result passed.0 _ passed.1 (cc (passed.2, memory))

pub returns-in_err-entry-clause-tells : goal.returns-in_err-entry-clause-tells
returns-in_err-entry-clause-tells c =
    let passed = err_from_is_err_and c.from_residual.result c.from_residual.ensures.1 in
    passed_on c.from_residual.result passed.0 c.in_err-entry.field-0.0 c.args.lines.now _ (again c.args.count each_task_of ∷ []) (λ _. []) passed.1 (cc (passed.2))
    (one_fails c.in_err-entry.field-0.0 c.args.lines.now c.reading.lines c.args.count c.reading._task each_task_of c.reading-test.true c.reading.invariant.1 c.in_err-entry.ensures.tells)

pub reading-preserved : goal.reading-preserved
reading-preserved c = (
  λ w rest f h none n l.
      let within : c.reading._task < length w.tasks = omega arith in
      let at = next_at w.tasks c.reading._task within in
      let read = holds_at is_task_read w.tasks c.reading._task at.0 at.1 h in
      let holds = first_holds (numbered_task_holds at.0) (task_nests (at.0).1) read in
      let is = tasks_are_read w (at.0).0 (at.0).1 f (found_at w.tasks c.reading._task (at.0).0 (at.0).1 f.tasks_in_order at.1) holds (second_holds (numbered_task_holds at.0) (task_nests (at.0).1) read) in
      let later : List (ℤ × Task) = drop (suc c.reading._task) w.tasks in
      let inv = c.reading.invariant.0 w rest f h none n l in
      let here = subst (λ us. Left c.reading.lines us) (tasks_on at.0 later rest) (subst (λ us. Left c.reading.lines (each_task us ++ rest)) at.2 inv.0) in
      let entry = c.in_ok-entry.ensures.reads (at.0).0 (at.0).1 (each_task later ++ rest) (first_holds (in_number_range (at.0).0) (task_holds (at.0).1) holds) is here in
      let next : suc c.reading._task ≡ c.reading._task + 1 = omega arith in
      let put = next_put w.tasks c.reading._task (at.0).0 (at.0).1 f.tasks_in_order at.1 in
      let drafted = c.in_ok-put_one.ensures ∙ (λ i. record (inv.2 i) { tasks = put_task (inv.2 i).tasks (entry.0.0 i) (entry.0.1 i) }) ∙ (λ i. record (c.args.draft.now) { tasks = put i }) in
      let all : IsTrue c.if-all.all = elim c.if-all.branch [ then-all v ↦ v.all-is ∙ v.is_some-all.ensures ∙ ap is_some entry.0.1 | else-all v ↦ absurd (cc (inv.1, v.if-all.false)) ] in (
        subst (λ i. Left c.next_task.new.lines (each_task (drop i w.tasks) ++ rest)) next entry.1,
        all,
        drafted ∙ (λ i. record (c.args.draft.now) { tasks = take (next i) w.tasks }),
      ),
  one_of_them c.args.lines.now c.reading.lines c.next_task.new.lines c.args.count c.reading._task each_task_of c.reading-test.true c.reading.invariant.1 c.in_ok-entry.ensures.tells,
)

pub returns-clause-tells : goal.returns-clause-tells
returns-clause-tells c = all_of_them c.args.lines.now c.reading.lines c.args.count c.reading._task each_task_of (omega (arith, c.reading-test.false)) c.reading.invariant.1
