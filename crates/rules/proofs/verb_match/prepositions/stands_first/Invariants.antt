use Rattle.std.proofs.Common.{◌≡◌, drop, map}
use Rattle.spec_world.specs.Prepositions.{stands_first}
use Rattle.rules.proofs.verb_match.prepositions.stands_first.Given as goal

abbrev pub invariant-loop-index : goal.invariant-loop-index
invariant-loop-index l = stands_first (map (λ t. t.now) (drop l.index l.member)) (drop l.index l.words) ≡ stands_first (map (λ t. t.now) l.member) l.words
