use Rattle.std.proofs.Common.{◌≡◌, ◌∙◌, ap, sym, take, Some}
use Rattle.spec_value.specs.Datum.{of_list}
use Rattle.spec_moo.specs.Leaving.{read_traced, read_trace}
use Rattle.moo_task.proofs.Next.{next_place}
use Rattle.moo_task.proofs.Reading.{one_more_taken, read_more}
use Rattle.moo_task.proofs.moo_machine.left.trace_in.Goals as goal

pub loop-value-preserved : goal.loop-value-preserved
loop-value-preserved c =
    let read : read_traced c.value-item.result ≡ Some c.in-Some.verb = sym c.in_ok-verb.ensures ∙ c.in-Some.is in
    ap (λ k. read_trace (of_list (take k c.args.values.now))) (next_place c.loop-value.value-index)
    ∙ ap (λ vs. read_trace (of_list vs)) (one_more_taken c.args.values.now c.loop-value.value-index c.value-item.result c.loop-value-test.true c.value-item.is)
    ∙ read_more (take c.loop-value.value-index c.args.values.now) c.loop-value.verbs.items c.value-item.result c.in-Some.verb c.loop-value.invariant read
    ∙ ap (λ ts. Some ts) (sym c.in_ok-push.ensures.items)
