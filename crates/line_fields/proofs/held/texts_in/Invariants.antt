use Rattle.std.proofs.Common.{◌≡◌, take}
use Rattle.spec_world.specs.Checkpoint.{text_list}
use Rattle.line_fields.proofs.held.texts_in.Given as goal

abbrev pub invariant-loop-item : goal.invariant-loop-item
invariant-loop-item l = text_list l.texts.items ≡ take l.item-index l.items
