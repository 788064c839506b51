use Rattle.std.proofs.Common.{◌≡◌, ◌++◌, drop}
use Rattle.spec_world.specs.Checkpoint.{with_line_ends}
use Rattle.checkpoint_text.proofs.checkpoint_fields.page.Page.put_lines.Given as goal

abbrev pub invariant-loop-line : goal.invariant-loop-line
invariant-loop-line l = l.self ++ with_line_ends (drop l.line-index l.lines) ≡ l.fn.self ++ with_line_ends l.lines
