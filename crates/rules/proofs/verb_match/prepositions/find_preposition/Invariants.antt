use Rattle.std.proofs.Common.{◌≡◌, drop}
use Rattle.spec_world.specs.Prepositions.{find_preposition}
use Rattle.rules.specs.VerbMatchMeant.{moved}
use Rattle.rules.proofs.verb_match.prepositions.find_preposition.Given as goal

abbrev pub invariant-loop-start : goal.invariant-loop-start
invariant-loop-start l = moved l.start (find_preposition (drop l.start l.words)) ≡ find_preposition l.words
