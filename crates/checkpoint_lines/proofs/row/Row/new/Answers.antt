use Rattle.std.proofs.Common.{◌≡◌, ◌==◌, true, false, not, length, map, refl, ap, sym, ◌∙◌}
use Rattle.std.specs.List.{list_all, list_any}
use Rattle.spec_faults.specs.Cutting.{is_filled}
use Rattle.checkpoint_lines.proofs.Filled.{none_empty, some_empty, not_not}
use Rattle.checkpoint_lines.proofs.row.Row.new.Goals as goal

pub returns-then-has_empty-clause-reads : goal.returns-then-has_empty-clause-reads
returns-then-has_empty-clause-reads c = λ h.
    let none : c.has_empty.result ≡ false = c.has_empty.ensures ∙ ap (list_any (λ b. length b.now == 0)) c.deref.ensures.value ∙ none_empty c.args.fields.items h in
    absurd (cc (none, c.if-has_empty.true))

pub returns-then-has_empty-clause-tells : goal.returns-then-has_empty-clause-tells
returns-then-has_empty-clause-tells c =
    let some : c.has_empty.result ≡ not (list_all is_filled (map (λ b. b.now) c.args.fields.items)) =
    c.has_empty.ensures ∙ ap (list_any (λ b. length b.now == 0)) c.deref.ensures.value ∙ some_empty c.args.fields.items in
    (refl, not_not (list_all is_filled (map (λ b. b.now) c.args.fields.items)) true (sym some ∙ c.if-has_empty.true))

pub returns-clause-tells : goal.returns-clause-tells
returns-clause-tells c =
    let some : c.has_empty.result ≡ not (list_all is_filled (map (λ b. b.now) c.args.fields.items)) =
    c.has_empty.ensures ∙ ap (list_any (λ b. length b.now == 0)) c.deref.ensures.value ∙ some_empty c.args.fields.items in
    (refl, refl, not_not (list_all is_filled (map (λ b. b.now) c.args.fields.items)) false (sym some ∙ c.if-has_empty.false))
