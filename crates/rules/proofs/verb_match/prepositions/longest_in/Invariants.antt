use Rattle.std.proofs.Common.{◌≡◌, drop, map}
use Rattle.std.specs.Prelude.{option_map}
use Rattle.spec_world.specs.Prepositions.{from_set, either_longer}
use Rattle.rules.specs.VerbMatchMeant.{begun_of}
use Rattle.rules.proofs.verb_match.prepositions.longest_in.Given as goal

abbrev pub invariant-loop-set : goal.invariant-loop-set
invariant-loop-set l =
    either_longer (option_map begun_of l.found) (from_set l.set (map (λ s. map (λ p. map (λ t. t.now) p.now) s.now) (drop l.set l.sets)) l.words)
    ≡ from_set 0 (map (λ s. map (λ p. map (λ t. t.now) p.now) s.now) l.sets) l.words
