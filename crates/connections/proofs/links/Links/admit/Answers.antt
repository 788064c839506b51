use Rattle.std.proofs.Common.{arith, ◌≡◌, ◌+◌, ◌-◌, ◌∙◌, ap, true, set}
use Rattle.std.specs.Prelude.{is_some}
use Rattle.std.proofs.lemmas.List.{map-set}
use Rattle.connections.specs.Places.{in_use}
use Rattle.connections.proofs.links.Links.admit.Goals as goal

pub returns-clause-used : goal.returns-clause-used
returns-clause-used g c =
    let place : c.first_free-at.result ≡ c.first_free-at.result + 1 - 1 = omega arith in
    map-set is_some c.args.self.now.places.items c.first_free-at.result _ ∙ ap (λ k. set (in_use c.args.self.now.places.items) k true) place
