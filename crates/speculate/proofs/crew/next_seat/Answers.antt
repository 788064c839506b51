use Rattle.std.proofs.Common.{◌≡◌}
use Rattle.std.proofs.lemmas.List.Elements.{All-pop}
use Rattle.round_claims.specs.Claimed.{fresh_seat}
use Rattle.speculate.proofs.crew.next_seat.Goals as goal

pub returns-clause-rest : goal.returns-clause-rest
returns-clause-rest c =
    (All-pop (λ seat. seat ≡ fresh_seat c.args.claims.now) c.args.seats.now.items c.pop.new.self.items c.pop.result c.pop.ensures.items c.requires).0

pub returns-clause-seat : goal.returns-clause-seat
returns-clause-seat c =
    (All-pop (λ seat. seat ≡ fresh_seat c.args.claims.now) c.args.seats.now.items c.pop.new.self.items c.pop.result c.pop.ensures.items c.requires).1
