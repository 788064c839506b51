use Rattle.std.proofs.lemmas.Int.{to_z-of_z}
use Rattle.std.proofs.Common.{◌≤ℤ◌, w32, subst, sym, ◌∙◌}
use Rattle.checkpoint_lines.proofs.Giving.{found_ok}
use Rattle.checkpoint_lines.proofs.row.Row.integer.Goals as goal

pub returns-clause-reads : goal.returns-clause-reads
returns-clause-reads c = λ z h l m e. found_ok c.integer_between.result z c.known.result _ (c.integer_between.ensures.reads z h (subst (λ y. y ≤ℤ z) (sym (to_z-of_z w32 c.args.least c.ranges.least)) l) (subst (λ y. z ≤ℤ y) (sym (to_z-of_z w32 c.args.most c.ranges.most)) m) (c.field.ensures ∙ e)) c.known.ensures
