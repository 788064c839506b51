use Rattle.std.proofs.Common.{◌≡◌, ◌∙◌, ap, map, filter, ℤ, List, IsTrue, subst, rules, w32, to_z, of_z}
use Rattle.spec_world.specs.Links.{reads_on}
use Rattle.spec_world.specs.Listings.{readers_on}
use Rattle.world.proofs.draft.Draft.has_readers.Goals as goal

pub returns : goal.returns
returns c =
    let number : to_z w32 (of_z w32 c.args.connection) ≡ c.args.connection = search rules in
    let ids : ℤ → List ℤ = λ n. map (λ e. e.0) (filter (λ e. reads_on n (e.1).waiting) c.self.inside.tasks) in
    let same : ids c.args.connection ≡ readers_on c.args.self.now c.args.connection = ap (λ w. readers_on w c.args.connection) c.self.view_is in
    subst (λ xs. (IsTrue c.has_readers_on.result → xs ≡ c.args.ids.now) × (xs ≡ c.args.ids.now → IsTrue c.has_readers_on.result)) (ap ids number ∙ same) c.has_readers_on.ensures
