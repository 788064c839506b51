use Rattle.std.proofs.Common.{arith, get_or, ◌++◌, ◌∙◌, ◌<◌, length-set, ap, refl, sym, subst}
use Rattle.streams.specs.Writes.{IsBeginning}
use Rattle.streams.proofs.Growing.{rest_stays, rises}
use Rattle.moo_session.proofs.Growing.{written_more, cut_at}
use Rattle.moo_session.proofs.writing.write_all.Goals as goal

pub sink-preserved : goal.sink-preserved
sink-preserved g c = (
  written_more g.W.Sink.written c.args.sinks.now c.sink.sinks c.args.texts.now c.sink.at c.index-sinks-at.result c.write_text.new.sink c.index-texts-at.result c.sink-test.true
      (subst (λ n. c.sink.at < n) (sym c.sink.invariant.2) c.sink-test.true) (omega (arith, c.sink-test.true, c.sink.invariant.2, c.requires)) c.sink.invariant.1 c.sink.invariant.0
      (c.in-Ok.ensures.whole ∙ ap (λ t. g.W.Sink.written (get_or c.sink.sinks c.sink.at c.index-sinks-at.result) ++ t) (c.as_slice.ensures.value ∙ ap (λ v. v.items) c.index-texts-at.is)),
  rest_stays c.args.sinks.now c.sink.sinks c.sink.at c.write_text.new.sink c.sink.invariant.1,
  length-set c.sink.sinks c.sink.at c.write_text.new.sink ∙ c.sink.invariant.2,
)

pub returns-in-Err-clause-part : goal.returns-in-Err-clause-part
returns-in-Err-clause-part g c =
    cut_at g.W.Sink.written c.args.sinks.now c.sink.sinks c.args.texts.now c.sink.at c.index-sinks-at.result c.write_text.new.sink c.index-texts-at.result c.sink-test.true
    (subst (λ n. c.sink.at < n) (sym c.sink.invariant.2) c.sink-test.true) (omega (arith, c.sink-test.true, c.sink.invariant.2, c.requires)) c.sink.invariant.1 c.sink.invariant.0
    (subst (λ t. IsBeginning (g.W.Sink.written (get_or c.sink.sinks c.sink.at c.index-sinks-at.result)) (g.W.Sink.written c.write_text.new.sink) t) (c.as_slice.ensures.value ∙ ap (λ v. v.items) c.index-texts-at.is) c.in-Err.ensures.part)

pub returns-in-Err-clause-failed : goal.returns-in-Err-clause-failed
returns-in-Err-clause-failed g c =
    rises g.W.Sink.failures c.args.sinks.now c.sink.sinks c.sink.at _ c.index-sinks-at.result c.write_text.new.sink c.sink-test.true
    (subst (λ n. c.sink.at < n) (sym c.sink.invariant.2) c.sink-test.true) c.sink.invariant.1 refl c.in-Err.ensures.failed
