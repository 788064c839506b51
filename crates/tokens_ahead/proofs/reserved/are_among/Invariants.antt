use Rattle.std.proofs.Common.{◌≡◌, ◌∷◌, ℕ, List, map, drop, Bor}
use Rattle.std.specs.List.{list_any}
use Rattle.spec_value.specs.Datum.{same_text, fold_case}
use Rattle.tokens_ahead.proofs.reserved.are_among.Given as goal

abbrev pub invariant-loop-reserved : goal.invariant-loop-reserved
invariant-loop-reserved l =
    list_any (same_text (l.first ∷ fold_case l.rest)) (map (λ (s : Bor (List ℕ)). s.now) l.words)
    ≡ list_any (same_text (l.first ∷ fold_case l.rest)) (map (λ (s : Bor (List ℕ)). s.now) (drop l.reserved-index l.words))
