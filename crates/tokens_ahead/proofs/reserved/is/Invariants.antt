use Rattle.std.proofs.Common.{◌≡◌, drop}
use Rattle.spec_value.specs.Datum.{same_text, fold_case}
use Rattle.tokens_ahead.proofs.reserved.is.Given as goal

abbrev pub invariant-loop-i : goal.invariant-loop-i
invariant-loop-i l = same_text (fold_case l.word) l.reserved ≡ same_text (fold_case (drop l.i l.word)) (drop l.i l.reserved)
