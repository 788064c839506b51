use Rattle.std.proofs.Common.{◌≡◌, ◌∙◌, w32, to_z, of_z}
use Rattle.std.proofs.lemmas.Int.{to_z-of_z}
use Rattle.world_checks.proofs.object_checks.agree.agrees.Goals as goal

pub returns-then-not-number_fits-clause-finds : goal.returns-then-not-number_fits-clause-finds
returns-then-not-number_fits-clause-finds c a b at h =
    let number : to_z w32 (of_z w32 c.args.number) ≡ c.args.number = to_z-of_z w32 c.args.number c.ranges.number in
    let fits = rw number at c.if-not-number_fits.ensures in
    fits ∙ h.number

pub returns-then-not-agrees_along-clause-finds : goal.returns-then-not-agrees_along-clause-finds
returns-then-not-agrees_along-clause-finds c a b at h =
    let number : to_z w32 (of_z w32 c.args.number) ≡ c.args.number = to_z-of_z w32 c.args.number c.ranges.number in
    let along = rw number at c.if-not-agrees_along.ensures.finds in
    along a at h.along_parent

pub returns-then-not-agrees_along-2-clause-finds : goal.returns-then-not-agrees_along-2-clause-finds
returns-then-not-agrees_along-2-clause-finds c a b at h =
    let number : to_z w32 (of_z w32 c.args.number) ≡ c.args.number = to_z-of_z w32 c.args.number c.ranges.number in
    let along = rw number at c.if-not-agrees_along-2.ensures.finds in
    along b at h.along_location

pub returns-clause-finds : goal.returns-clause-finds
returns-clause-finds c a b at h = c.in_ok-follow.ensures.finds h.follow
