use Rattle.std.proofs.Common.{◌≡◌, ◌∙◌, ℤ, List, IsTrue, sym, subst, w32, to_z, of_z}
use Rattle.std.proofs.lemmas.Int.{to_z-of_z}
use Rattle.std.specs.Ordering.{int_eq}
use Rattle.std.specs.List.{list_all}
use Rattle.spec_world.specs.WellFormed.{on_object}
use Rattle.world_checks.specs.Marks.{Placed}
use Rattle.world_checks.specs.Ways.{up_of}
use Rattle.world_checks.proofs.object_checks.kin.agrees_along.Goals as goal

pub returns-then-not-falls-clause-finds : goal.returns-then-not-falls-clause-finds
returns-then-not-falls-clause-finds c placed at along =
    let number : to_z w32 (of_z w32 c.args.number) ≡ c.args.number = to_z-of_z w32 c.args.number c.ranges.number in
    let falls = rw number at c.if-not-falls.ensures.finds in
    falls along.falls

pub returns-then-not-are_places-clause-finds : goal.returns-then-not-are_places-clause-finds
returns-then-not-are_places-clause-finds c placed at along =
    c.if-not-are_places.ensures.finds
    (subst (λ (cs : List ℤ). Placed c.args.guess.now.places cs) (sym c.down-below.ensures) (placed c.args.number c.args.object.now at))

pub returns-then-not-are_below-clause-finds : goal.returns-then-not-are_below-clause-finds
returns-then-not-are_below-clause-finds c placed at along =
    let number : to_z w32 (of_z w32 c.args.number) ≡ c.args.number = to_z-of_z w32 c.args.number c.ranges.number in
    let below = rw number at c.if-not-are_below.ensures in
    below
    ∙ subst (λ (cs : List ℤ). IsTrue (list_all (λ d. on_object c.args.draft.now d (λ y. int_eq (up_of c.args.way y) c.args.number)) cs)) (sym c.down-below.ensures) along.below

pub returns-clause-finds : goal.returns-clause-finds
returns-clause-finds c placed at along =
    let number : to_z w32 (of_z w32 c.args.number) ≡ c.args.number = to_z-of_z w32 c.args.number c.ranges.number in
    let listed = rw number at c.is_listed.ensures.finds in
    listed placed along.above
