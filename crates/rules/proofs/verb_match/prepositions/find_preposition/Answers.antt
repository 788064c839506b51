use Rattle.std.proofs.Common.{sym, ◌∙◌, arith}
use Rattle.rules.specs.VerbMatchMeant.{begun_of}
use Rattle.rules.proofs.VerbMatchStanding.{found_here}
use Rattle.rules.proofs.verb_match.prepositions.find_preposition.Goals as goal

pub returns-in-Some : goal.returns-in-Some
returns-in-Some c =
    sym (found_here c.args.words.now c.loop-start.start (begun_of c.in-Some.begun) (omega arith) (sym c.in-Some.ensures)) ∙ c.loop-start.invariant
