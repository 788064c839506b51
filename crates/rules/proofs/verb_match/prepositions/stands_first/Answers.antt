use Rattle.std.proofs.Common.{map, sym, arith}
use Rattle.std.proofs.lemmas.List.{length-map}
use Rattle.rules.proofs.VerbMatchStanding.{stands_short}
use Rattle.rules.proofs.verb_match.prepositions.stands_first.Goals as goal

pub returns-then-member-words : goal.returns-then-member-words
returns-then-member-words c = sym (stands_short (map (λ t. t.now) c.args.member.now) c.args.words.now (omega (arith, length-map c.args.member.now (λ t. t.now))))
