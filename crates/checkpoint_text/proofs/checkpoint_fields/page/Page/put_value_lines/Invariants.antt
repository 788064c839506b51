use Rattle.std.proofs.Common.{◌≡◌, ◌++◌, drop}
use Rattle.spec_world.specs.Checkpoint.{with_line_ends, literal_lines}
use Rattle.checkpoint_text.proofs.checkpoint_fields.page.Page.put_value_lines.Given as goal

abbrev pub invariant-loop-value : goal.invariant-loop-value
invariant-loop-value l =
    l.self ++ with_line_ends (literal_lines (drop l.value-index l.values)) ≡ l.fn.self ++ with_line_ends (literal_lines l.values)
