use Rattle.std.proofs.Common.{◌≡◌, sym}
use Rattle.spec_value.specs.Datum.{list, of_list}
use Rattle.spec_world.specs.Checkpoint.{object_list}
use Rattle.line_fields.proofs.Readable.{objects_readable}
use Rattle.std.proofs.lemmas.Result.{err_from_is_err_and}
use Rattle.checkpoint_lines.proofs.Giving.{gives_found, gives_passed}
use Rattle.spec_value.specs.Datum.{Text}
use Rattle.spec_faults.specs.Cutting.{field_at}
use Rattle.spec_faults.specs.Literals.{value_of, is_literal, any, is_list_of, is_object_value}
use Rattle.checkpoint_lines.specs.declared.fault.FaultKind.TheVariants as kind
use Rattle.checkpoint_lines.specs.Rows.{row_fields}
use Rattle.checkpoint_lines.proofs.Checking.{checks_less, none_passes}
use Rattle.checkpoint_lines.proofs.row.Row.objects.Goals as goal

pub returns-in_err-value-clause-reads : goal.returns-in_err-value-clause-reads
returns-in_err-value-clause-reads c = λ os h e.
    let memory = c.in_err-value.ensures.reads (list (of_list (object_list os))) (objects_readable os h) e in
    let passed = err_from_is_err_and c.from_residual.result c.from_residual.ensures.1 in
    gives_passed c.from_residual.result passed.0 _ passed.1 (cc (passed.2, memory))

pub returns-clause-reads : goal.returns-clause-reads
returns-clause-reads c = λ os h e.
    let is = c.in_ok-value.ensures.reads (list (of_list (object_list os))) (objects_readable os h) e in
    gives_found c.in_ok-found.found c.known.result _ (λ v. v.items ≡ os) c.known.ensures (c.in_ok-found.ensures.reads os is)

pub returns-in_err-value-clause-tells : goal.returns-in_err-value-clause-tells
returns-in_err-value-clause-tells c =
    let passed = err_from_is_err_and c.from_residual.result c.from_residual.ensures.1 in
    let t : Text = field_at (row_fields c.args.self.now) c.args.index in
    checks_less c.value.result c.from_residual.result c.in_err-value.field-0.0 passed.0 c.args.self.now kind.Value (is_literal any t) (is_literal (is_list_of is_object_value) t)
    (none_passes (is_list_of is_object_value) (value_of t)) c.in_err-value.was passed.1 (sym passed.2) c.value.ensures.tells
