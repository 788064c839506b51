use Rattle.std.proofs.Common.{◌≡◌, ◌++◌}
use Rattle.spec_world.specs.Checkpoint.{list_literal}
use Rattle.checkpoint_text.specs.Nested.{still_to_come}
use Rattle.checkpoint_text.proofs.checkpoint_fields.page.Page.put_nested.Given as goal

abbrev pub invariant-loop : goal.invariant-loop
invariant-loop l = l.self ++ still_to_come l.next l.begun.items ≡ l.fn.self ++ list_literal l.fn.items
