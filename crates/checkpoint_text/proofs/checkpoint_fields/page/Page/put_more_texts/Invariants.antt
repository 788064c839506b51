use Rattle.std.proofs.Common.{◌≡◌, ◌++◌, drop}
use Rattle.spec_value.specs.Datum.{of_list}
use Rattle.spec_value.specs.Literal.{more_text}
use Rattle.spec_world.specs.Checkpoint.{text_list}
use Rattle.checkpoint_text.proofs.checkpoint_fields.page.Page.put_more_texts.Given as goal

abbrev pub invariant-loop-text : goal.invariant-loop-text
invariant-loop-text l = l.self ++ more_text (of_list (text_list (drop l.text-index l.texts))) ≡ l.fn.self ++ more_text (of_list (text_list l.texts))
