use Rattle.std.proofs.Common.{◌≡◌, ◌+◌, ◌-◌, ◌^◌, ◌<◌, min, drop}
use Rattle.spec_value.specs.Datum.{of_list, data_weight}
use Rattle.spec_moo.specs.Natives.Properties.{as_texts}
use Rattle.steps.proofs.step_links.collecting.fit.Given as goal

abbrev pub invariant-loop-line : goal.invariant-loop-line
invariant-loop-line l =
    (l.weight < 2 ^ 64) × (min (l.weight + data_weight (of_list (as_texts (drop l.line-index l.lines)))) (2 ^ 64 - 1) ≡ min (1 + data_weight (of_list (as_texts l.lines))) (2 ^ 64 - 1))
