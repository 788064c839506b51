use Rattle.std.proofs.Common.{◌≡◌, ◌∙◌}
use Rattle.checkpoint_lines.proofs.Giving.{gives_found}
use Rattle.checkpoint_lines.proofs.row.Row.path.Goals as goal

pub returns-clause-reads : goal.returns-clause-reads
returns-clause-reads c = λ ns h e. gives_found c.in_ok-found.found c.known.result _ (λ v. v.items ≡ ns) c.known.ensures (c.in_ok-found.ensures.reads ns h (c.field.ensures ∙ e))
