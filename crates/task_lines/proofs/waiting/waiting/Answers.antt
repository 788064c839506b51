use Rattle.std.proofs.Common.{◌≡◌, true, None, sym, subst}
use Rattle.spec_faults.specs.Forms.{has_form, fault_of}
use Rattle.checkpoint_lines.specs.Rows.{row_fields}
use Rattle.checkpoint_lines.specs.Told.{line_fields, RowTells}
use Rattle.task_lines.specs.Awaiting.{form_of}
use Rattle.task_lines.proofs.WaitingTold.{fork_tells, idle_none, read_tells}
use Rattle.task_lines.proofs.waiting.waiting.Goals as goal

pub returns-in-Fork-clause-tells : goal.returns-in-Fork-clause-tells
returns-in-Fork-clause-tells c = λ w h id.
    subst (λ m. RowTells c.forked.result c.args.row.now (form_of m)) (sym c.in-Fork.is)
    (fork_tells c.forked.result c.args.row.now w id (subst (λ m. has_form (form_of m) (row_fields c.args.row.now) ≡ true) c.in-Fork.is h) c.forked.ensures.tells)

pub returns-in-Wait-clause-tells : goal.returns-in-Wait-clause-tells
returns-in-Wait-clause-tells c = λ w h id.
    subst (λ m. RowTells c.timed.result c.args.row.now (form_of m)) (sym c.in-Wait.is)
    (c.timed.ensures.tells w (subst (λ m. has_form (form_of m) (row_fields c.args.row.now) ≡ true) c.in-Wait.is h) id)

pub returns-in-Idle-clause-tells : goal.returns-in-Idle-clause-tells
returns-in-Idle-clause-tells c = λ w h id.
    subst (λ m. fault_of (form_of m) (line_fields c.args.row.now) ≡ None) (sym c.in-Idle.is)
    (idle_none c.args.row.now w id (subst (λ m. has_form (form_of m) (row_fields c.args.row.now) ≡ true) c.in-Idle.is h))

pub returns-in-Read-clause-tells : goal.returns-in-Read-clause-tells
returns-in-Read-clause-tells c = λ w h id.
    subst (λ m. RowTells c.reading.result c.args.row.now (form_of m)) (sym c.in-Read.is)
    (read_tells c.reading.result c.args.row.now w id (subst (λ m. has_form (form_of m) (row_fields c.args.row.now) ≡ true) c.in-Read.is h) c.reading.ensures.tells)
