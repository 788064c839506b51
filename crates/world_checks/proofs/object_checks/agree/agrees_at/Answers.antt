use Rattle.std.proofs.Common.{◌≡◌, Some, w32, to_z, of_z, rules}
use Rattle.std.proofs.lemmas.Int.{to_z-of_z}
use Rattle.std.proofs.lemmas.Result.{IfOk-weaker}
use Rattle.spec_world.specs.World.{object_at}
use Rattle.world_checks.proofs.object_checks.agree.agrees_at.Goals as goal

pub returns-in-Some-clause-finds : goal.returns-in-Some-clause-finds
returns-in-Some-clause-finds c =
    let at : object_at c.args.draft.now c.args.number ≡ Some c.in-Some.object.now = first_of (cc, search rules) in
    let number : to_z w32 (of_z w32 c.args.number) ≡ c.args.number = to_z-of_z w32 c.args.number c.ranges.number in
    let found = rw number at c.agrees.ensures.finds in
    IfOk-weaker c.agrees.result _ _ (λ r h a b each. h a b at (each c.in-Some.object.now at)) found
