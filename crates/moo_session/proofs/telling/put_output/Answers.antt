use Rattle.std.proofs.Common.{◌≡◌, ◌++◌, ◌∷◌, [], take, subst}
use Rattle.std.proofs.lemmas.List.{take_more}
use Rattle.moo_session.specs.Sessions.{output_of}
use Rattle.moo_session.proofs.Growing.{grows, output_append}
use Rattle.moo_session.proofs.telling.put_output.Goals as goal

pub outcome-preserved : goal.outcome-preserved
outcome-preserved c =
    grows (output_of c.args.connection) (output_append c.args.connection) c.args.text.now.items c.outcome.text.items c.put_outcome.new.text.items (take c.outcome.outcome-index c.args.outcomes.now) _ _ (take_more c.args.outcomes.now c.outcome.outcome-index c.outcome-item.result c.outcome-test.true) c.outcome.invariant (subst (λ x. c.put_outcome.new.text.items ≡ c.outcome.text.items ++ output_of c.args.connection (x ∷ [])) c.outcome-item.is c.in_ok-put_outcome.ensures)
