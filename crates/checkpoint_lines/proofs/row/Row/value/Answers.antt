use Rattle.std.proofs.Common.{◌≡◌, ◌∙◌, refl}
use Rattle.checkpoint_lines.proofs.Giving.{gives_ok, found_ok}
use Rattle.checkpoint_lines.proofs.row.Row.value.Goals as goal

pub returns-clause-reads : goal.returns-clause-reads
returns-clause-reads c = λ v h e. gives_ok c.known.result v (λ x. x ≡ v) (found_ok c.in_ok-found.found v c.known.result _ (c.in_ok-found.ensures.reads v h (c.field.ensures ∙ e)) c.known.ensures) refl
