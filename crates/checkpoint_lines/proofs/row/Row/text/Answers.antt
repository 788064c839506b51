use Rattle.std.proofs.Common.{◌≡◌, ◌∙◌, refl, ap, is_some}
use Rattle.checkpoint_lines.proofs.Giving.{gives_ok, found_ok}
use Rattle.spec_faults.specs.Cutting.{field_at}
use Rattle.spec_faults.specs.Literals.{value_of, is_literal, is_string}
use Rattle.checkpoint_lines.specs.declared.fault.FaultKind.TheVariants as kind
use Rattle.checkpoint_lines.specs.Rows.{row_fields}
use Rattle.checkpoint_lines.proofs.Checking.{checks_found, some_string}
use Rattle.checkpoint_lines.proofs.row.Row.text.Goals as goal

pub returns-clause-reads : goal.returns-clause-reads
returns-clause-reads c = λ t h e. gives_ok c.known.result t (λ x. x ≡ t) (found_ok c.in_ok-found.found t c.known.result _ (c.in_ok-found.ensures.reads t h (c.field.ensures ∙ e)) c.known.ensures) refl

pub returns-clause-tells : goal.returns-clause-tells
returns-clause-tells c =
    let found : is_some c.in_ok-found.found ≡ is_literal is_string (field_at (row_fields c.args.self.now) c.args.index) =
    ap is_some c.in_ok-found.ensures.fault ∙ some_string (value_of c.field.result.now) ∙ ap (is_literal is_string) c.field.ensures in
    checks_found c.in_ok-found.found c.known.result c.args.self.now kind.Value (is_literal is_string (field_at (row_fields c.args.self.now) c.args.index)) c.known.ensures found
