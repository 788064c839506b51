use Rattle.std.proofs.Common.{◌≡◌, drop}
use Rattle.spec_value.specs.Datum.{fold_case, same_text}
use Rattle.view.proofs.words.is_word.Given as goal

abbrev pub invariant-loop-index : goal.invariant-loop-index
invariant-loop-index l = same_text (drop l.index l.lower) (fold_case (drop l.index l.word)) ≡ same_text l.lower (fold_case l.word)
