use Rattle.std.proofs.Common.{◌≡◌, ◌==◌, true, [], length, refl, ap, sym, ◌∙◌}
use Rattle.std.proofs.lemmas.Result.{err_from_is_err_and}
use Rattle.checkpoint_lines.proofs.TextEnd.{passed_end, ends, line_behind, text_behind}
use Rattle.checkpoint_lines.proofs.lines.Lines.end.Goals as goal

pub returns-then-is_empty-clause-reads : goal.returns-then-is_empty-clause-reads
returns-then-is_empty-clause-reads c = λ e. let row = c.in_ok-next_with.ensures.reads [] [] refl refl refl e in (tt, row.1)

pub returns-in-Some-clause-reads : goal.returns-in-Some-clause-reads
returns-in-Some-clause-reads c = λ e.
    let row = c.in_ok-next_with.ensures.reads [] [] refl refl refl e in
    let empty : c.is_empty.result ≡ true = c.is_empty.ensures ∙ ap (λ t. length t == 0) row.1.0 in
    absurd (cc (empty, c.if-is_empty.false))

pub returns-in_err-next_with-clause-tells : goal.returns-in_err-next_with-clause-tells
returns-in_err-next_with-clause-tells c =
    let passed = err_from_is_err_and c.from_residual.result c.from_residual.ensures.1 in
    passed_end c.from_residual.result c.in_err-next_with.field-0.0 passed.0 c.args.self.now c.next_with.new.self passed.1 passed.2 c.in_err-next_with.ensures.tells

pub returns-then-is_empty-clause-tells : goal.returns-then-is_empty-clause-tells
returns-then-is_empty-clause-tells c = λ room.
    ends c.args.self.now c.next_with.new.self c.in_ok-next_with.field-0 c.in_ok-next_with.ensures.tells (sym c.is_empty.ensures ∙ c.if-is_empty.true) room

pub returns-in-Some-clause-tells : goal.returns-in-Some-clause-tells
returns-in-Some-clause-tells c = λ room.
    line_behind c.args.self.now c.next_with.new.self c.in_ok-next_with.field-0 c.in-Some.field-0.0.now c.in-Some.field-0.1.now c.saturating_add-line.result c.in_ok-next_with.ensures.tells
    c.in-Some.ensures.cuts.0 c.in-Some.ensures.cuts.1 c.saturating_add-line.ensures room

pub returns-in-None-clause-tells : goal.returns-in-None-clause-tells
returns-in-None-clause-tells c = λ room.
    text_behind c.args.self.now c.next_with.new.self c.in_ok-next_with.field-0 c.saturating_add-line.result c.in_ok-next_with.ensures.tells
    c.in-None.ensures.cuts (sym c.is_empty.ensures ∙ c.if-is_empty.false) c.saturating_add-line.ensures room
