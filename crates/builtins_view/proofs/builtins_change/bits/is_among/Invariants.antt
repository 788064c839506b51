use Rattle.std.proofs.Common.{◌≡◌, ◌==◌, drop}
use Rattle.std.specs.List.{list_any}
use Rattle.builtins_view.proofs.builtins_change.bits.is_among.Given as goal

abbrev pub invariant-loop-letter : goal.invariant-loop-letter
invariant-loop-letter l = list_any (λ d. d == l.bit) (drop l.letter-index l.letters) ≡ list_any (λ d. d == l.bit) l.letters
