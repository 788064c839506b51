use Rattle.std.proofs.Common.{arith, ◌<◌, ◌∙◌, ap, sym, refl, subst, length-set, length-append, ◌∷◌, [], length}
use Rattle.std.proofs.lemmas.List.{map_push}
use Rattle.telnet_line.specs.Events.{events_given}
use Rattle.streams.specs.Reads.{all_given}
use Rattle.streams.proofs.Growing.{spelled_more, rest_stays, rises}
use Rattle.streams.proofs.reading.read_streams.Goals as goal

pub source-preserved : goal.source-preserved
source-preserved g c = (
  spelled_more g.S.Source.left c.args.sources.now c.source.sources c.source.at c.index-sources-at.result (all_given c.source.all.items) _ (events_given c.in-Ok.events.items) c.source-test.true c.source.invariant.1 (ap all_given c.in-Ok-push.ensures.items ∙ map_push (λ v. events_given v.items) c.source.all.items c.in-Ok.events) c.source.invariant.0 c.in-Ok.ensures.spells,
  rest_stays c.args.sources.now c.source.sources c.source.at c.read_stream.new.source c.source.invariant.1,
  length-set c.source.sources c.source.at c.read_stream.new.source ∙ c.source.invariant.2,
  omega (arith, ap length c.in-Ok-push.ensures.items, length-append c.source.all.items (c.in-Ok.events ∷ []), c.source.invariant.3),
)

pub returns-in-Err-Failed-clause-failed : goal.returns-in-Err-Failed-clause-failed
returns-in-Err-Failed-clause-failed g c =
    rises g.S.Source.failures c.args.sources.now c.source.sources c.source.at _ c.index-sources-at.result c.read_stream.new.source c.source-test.true
    (subst (λ k. c.source.at < k) (sym c.source.invariant.2) c.source-test.true) c.source.invariant.1 refl (c.in-Err-Failed.ensures.failed c.in-Err-Failed.field-0-is)
