use Rattle.std.proofs.Common.{◌≡◌, ◌∙◌, ap, map, filter, ℤ, List, IsTrue, subst, rules, w32, to_z, of_z}
use Rattle.std.specs.Ordering.{int_eq}
use Rattle.spec_world.specs.Listings.{connections_of}
use Rattle.world.proofs.draft.Draft.has_connections.Goals as goal

pub returns : goal.returns
returns c =
    let number : to_z w32 (of_z w32 c.args.person) ≡ c.args.person = search rules in
    let those : ℤ → List ℤ = λ n. map (λ e. e.0) (filter (λ e. int_eq (e.1).person n) c.self.inside.links) in
    let same : those c.args.person ≡ connections_of c.args.self.now c.args.person = ap (λ w. connections_of w c.args.person) c.self.view_is in
    subst (λ xs. (IsTrue c.has_connections.result → xs ≡ c.args.connections.now) × (xs ≡ c.args.connections.now → IsTrue c.has_connections.result)) (ap those number ∙ same) c.has_connections.ensures
