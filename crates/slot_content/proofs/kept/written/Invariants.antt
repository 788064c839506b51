use Rattle.std.proofs.Common.{◌≡◌, take}
use Rattle.std.specs.Prelude.{string_bytes}
use Rattle.slot_content.specs.Kept.{literals, marks}
use Rattle.slot_content.proofs.kept.written.Given as goal

abbrev pub invariant-loop-value : goal.invariant-loop-value
invariant-loop-value l = (string_bytes l.text ≡ literals (take l.value-index l.values)) × (l.ends.items ≡ marks 0 (take l.value-index l.values))
