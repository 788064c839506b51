use Rattle.std.proofs.Common.{List, codes, ap, sym, ◌∙◌}
use Rattle.spec_value.specs.Datum.{Text}
use Rattle.spec_faults.specs.Cutting.{field_at}
use Rattle.checkpoint_lines.specs.Rows.{row_fields}
use Rattle.task_lines.specs.Manners.{manner_in}
use Rattle.task_lines.proofs.EntryTold.{has_word}
use Rattle.task_lines.proofs.WaitingTold.{manner_is, manner_has, manner_form, no_manner_form, none_named, forks_so}
use Rattle.task_lines.proofs.waiting.manner_of.Goals as goal

pub returns-in_default-clause-tells : goal.returns-in_default-clause-tells
returns-in_default-clause-tells c = λ w. (none_named (row_fields c.args.row.now) (ap manner_in (sym c.field.ensures) ∙ sym c.manner_named.ensures ∙ c.in_default.is), c.fault.ensures)

pub returns-then-has-clause-tells : goal.returns-then-has-clause-tells
returns-then-has-clause-tells c = λ w.
    let ts : List Text = row_fields c.args.row.now in
    let is = manner_is (field_at ts 2) c.in-Some.manner (ap manner_in (sym c.field.ensures) ∙ sym c.manner_named.ensures ∙ c.in-Some.is) in
    let h = manner_has c.in-Some.manner ts is (ap (λ n. has_word (codes "task") n ts) (sym c.field_count.ensures) ∙ sym c.has.ensures ∙ c.if-has.true) w.filled in
    (manner_form c.in-Some.manner ts is h, h, forks_so c.in-Some.manner ts is)

pub returns-else-has-clause-tells : goal.returns-else-has-clause-tells
returns-else-has-clause-tells c = λ w.
    let ts : List Text = row_fields c.args.row.now in
    let is = manner_is (field_at ts 2) c.in-Some.manner (ap manner_in (sym c.field.ensures) ∙ sym c.manner_named.ensures ∙ c.in-Some.is) in
    (no_manner_form c.in-Some.manner ts is (ap (λ n. has_word (codes "task") n ts) (sym c.field_count.ensures) ∙ sym c.has.ensures ∙ c.if-has.false), c.fault-else-has.ensures)
