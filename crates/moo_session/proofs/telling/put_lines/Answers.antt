use Rattle.std.proofs.Common.{◌≡◌, ◌++◌, ◌∷◌, [], take, pos, string_bytes, subst}
use Rattle.std.proofs.lemmas.List.{map_more}
use Rattle.task_step.specs.OutcomeView.{lines_of}
use Rattle.moo_session.specs.Sessions.{told_to}
use Rattle.moo_session.proofs.Growing.{grows, told_append}
use Rattle.moo_session.proofs.telling.put_lines.Goals as goal

pub line-preserved : goal.line-preserved
line-preserved c =
    grows (told_to c.args.connection) (told_append c.args.connection) c.args.text.now.items c.line.text.items c.put_line.new.text.items (lines_of (take c.line.line-index c.args.lines.now)) _ _ (map_more (λ l. (pos l.connection, string_bytes l.text)) c.args.lines.now c.line.line-index c.line-item.result c.line-test.true) c.line.invariant (subst (λ x. c.put_line.new.text.items ≡ c.line.text.items ++ told_to c.args.connection (lines_of (x ∷ []))) c.line-item.is c.in_ok-put_line.ensures)
