use Rattle.std.proofs.Common.{◌≡◌, ◌++◌, drop}
use Rattle.spec_value.specs.Datum.{of_list}
use Rattle.spec_value.specs.Literal.{more_text}
use Rattle.checkpoint_text.proofs.checkpoint_fields.page.Page.put_more_values.Given as goal

abbrev pub invariant-loop-value : goal.invariant-loop-value
invariant-loop-value l = l.self ++ more_text (of_list (drop l.value-index l.values)) ≡ l.fn.self ++ more_text (of_list l.values)
