use Rattle.std.proofs.Common.{◌≡◌, ◌∙◌, ap, take, arith}
use Rattle.std.proofs.lemmas.List.{take_all}
use Rattle.spec_value.specs.Datum.{list, of_list}
use Rattle.spec_moo.specs.Leaving.{trace_values}
use Rattle.moo_task.proofs.Traces.{values_of_trace}
use Rattle.moo_task.proofs.moo_machine.held.trace_value.Goals as goal

pub returns : goal.returns
returns c =
    let all : take c.loop-verb.verb-index c.args.verbs.now ≡ c.args.verbs.now = take_all c.loop-verb.verb-index c.args.verbs.now (omega arith) in
    c.in_ok-value-2.ensures ∙ ap (λ vs. list (of_list vs)) c.loop-verb.invariant ∙ ap list (values_of_trace (take c.loop-verb.verb-index c.args.verbs.now))
    ∙ ap (λ ts. list (trace_values ts)) all
