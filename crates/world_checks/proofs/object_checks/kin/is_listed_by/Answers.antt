use Rattle.std.proofs.Common.{◌≡◌, ℤ, List, Option, Some, None, IsTrue, sym, subst, w32, to_z, of_z, rules}
use Rattle.std.proofs.lemmas.Int.{to_z-of_z}
use Rattle.spec_world.specs.World.{Object, object_at}
use Rattle.spec_world.specs.WellFormed.{lists, passes}
use Rattle.world_checks.specs.Marks.{Placed}
use Rattle.world_checks.specs.Ways.{down_of}
use Rattle.world_checks.proofs.object_checks.kin.is_listed_by.Goals as goal

pub returns-in-Some-clause-finds : goal.returns-in-Some-clause-finds
returns-in-Some-clause-finds c placed h =
    let at : object_at c.args.draft.now c.args.above ≡ Some c.in-Some.object.now = first_of (cc, search rules) in
    let number : to_z w32 (of_z w32 c.args.number) ≡ c.args.number = to_z-of_z w32 c.args.number c.ranges.number in
    let there : IsTrue (lists (down_of c.args.way c.in-Some.object.now) c.args.number) =
    subst (λ (y : Option Object). IsTrue (passes y (λ x. lists (down_of c.args.way x) c.args.number))) at h in
    let finds = rw number at c.is_placed.ensures.finds in
    finds (subst (λ (cs : List ℤ). Placed c.args.places.now cs) (sym c.down.ensures) (placed c.args.above c.in-Some.object.now at))
    (subst (λ (cs : List ℤ). IsTrue (lists cs c.args.number)) (sym c.down.ensures) there)

pub returns-in-None-clause-finds : goal.returns-in-None-clause-finds
returns-in-None-clause-finds c placed h =
    let none : object_at c.args.draft.now c.args.above ≡ None = first_of (cc, search rules) in
    subst (λ (y : Option Object). IsTrue (passes y (λ x. lists (down_of c.args.way x) c.args.number))) none h
