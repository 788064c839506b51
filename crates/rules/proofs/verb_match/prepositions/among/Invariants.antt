use Rattle.std.proofs.Common.{◌≡◌, drop, map}
use Rattle.std.specs.Prelude.{option_map}
use Rattle.spec_world.specs.Prepositions.{among, either_longer}
use Rattle.rules.specs.VerbMatchMeant.{begun_of}
use Rattle.rules.proofs.verb_match.prepositions.among.Given as goal

abbrev pub invariant-loop-member : goal.invariant-loop-member
invariant-loop-member l =
    either_longer (option_map begun_of l.found) (among l.set (map (λ p. map (λ t. t.now) p.now) (drop l.member-index l.members)) l.words)
    ≡ among l.set (map (λ p. map (λ t. t.now) p.now) l.members) l.words
