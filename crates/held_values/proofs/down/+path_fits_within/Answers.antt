use Rattle.std.proofs.Common.{◌≡◌, ◌∷◌, Some, IsTrue, subst, arith, rules}
use Rattle.spec_program.specs.Place.{part_at}
use Rattle.tree_parts.specs.Nodes.{construct_of}
use Rattle.tree_parts.specs.Parts.{part_of}
use Rattle.held_values.specs.Descent.{fits_down}
use Rattle.held_values.proofs.Pieces.{step_enough}
use Rattle.held_values.proofs.down.+path_fits_within.Goals as goal

pub returns-then-held-count-clause-finds : goal.returns-then-held-count-clause-finds
returns-then-held-count-clause-finds t c h =
    let path : c.args.path.now ≡ c.in-Some.number.now ∷ c.in-Some.deeper.now = first_of (cc, search rules) in
    let at : part_at (construct_of c.args.node) c.in-Some.number.now ≡ Some (part_of c.in-Some-part_at.part) = first_of (cc, search rules) in
    let enough = step_enough c.args.around (construct_of c.args.node) c.in-Some.number.now c.in-Some.deeper.now c.args.held.now (part_of c.in-Some-part_at.part) at
    (subst (λ p. IsTrue (fits_down c.args.around (construct_of c.args.node) p c.args.held.now)) path h) in
    absurd (omega (arith, enough, c.in_ok-count.ensures, c.if-held-count.true))
