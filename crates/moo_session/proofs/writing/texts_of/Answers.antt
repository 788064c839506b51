use Rattle.std.proofs.Common.{arith, ◌++◌, ◌∷◌, [], ◌∙◌, take, length, length-append, ap, sym}
use Rattle.std.proofs.lemmas.Grind.{common_steps}
use Rattle.std.proofs.lemmas.List.{map_more, map_push}
use Rattle.telnet_line.specs.Events.{events_given}
use Rattle.streams.specs.Reads.{all_given}
use Rattle.moo_session.specs.Texts.{all_items}
use Rattle.moo_session.proofs.Growing.{texts_more}
use Rattle.moo_session.proofs.writing.texts_of.Goals as goal

pub connection-preserved : goal.connection-preserved
connection-preserved c = (
  texts_more c.connection.at (all_given (take c.connection.at c.args.all.now)) _ (events_given c.as_slice.result.now) c.args.outcomes.now (all_items c.connection.texts.items) _ c.in_ok-text.text.items (grind (arith, common_steps))
      (map_more (λ v. events_given v.items) c.args.all.now c.connection.at c.index-all-at.result c.connection-test.true ∙ ap (λ x. all_given (take c.connection.at c.args.all.now) ++ events_given x ∷ []) (sym (c.as_slice.ensures.value ∙ ap (λ v. v.items) c.index-all-at.is)))
      c.connection.invariant.0 c.in_ok-text.ensures (ap all_items c.in_ok-push.ensures.items ∙ map_push (λ v. v.items) c.connection.texts.items c.in_ok-text.text),
  omega (arith, ap length c.in_ok-push.ensures.items, length-append c.connection.texts.items (c.in_ok-text.text ∷ []), c.connection.invariant.1),
)
