use Rattle.std.proofs.Common.{◌≡◌, ℕ, List, map, drop, Bor}
use Rattle.spec_world.specs.WellFormed.{has_name}
use Rattle.world_checks.proofs.held_checks.name.is_among.Given as goal

abbrev pub invariant-loop-word : goal.invariant-loop-word
invariant-loop-word l =
    has_name (map (λ (s : Bor (List ℕ)). s.now) l.words) l.text ≡ has_name (map (λ (s : Bor (List ℕ)). s.now) (drop l.word-index l.words)) l.text
