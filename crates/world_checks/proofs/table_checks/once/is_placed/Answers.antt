use Rattle.std.proofs.Common.{◌≡◌, ◌∙◌, ap, get_or, w32, of_z, arith}
use Rattle.std.proofs.lemmas.Bool.{eq-eqb}
use Rattle.std.proofs.lemmas.Int.{to_z-of_z}
use Rattle.std.proofs.lemmas.Option.{get_or_from_slice_get, slice_get_within}
use Rattle.world_checks.specs.Marks.{mark_of}
use Rattle.world_checks.proofs.Placed.{place_of}
use Rattle.world_checks.proofs.table_checks.once.is_placed.Goals as goal

pub returns-in-Some-clause-finds : goal.returns-in-Some-clause-finds
returns-in-Some-clause-finds c placed listed =
    let list = c.args.list.now in
    let found = c.in-Some.found.now in
    let r = place_of list c.args.number listed in
    let mark : c.get.result ≡ r.0 = c.get.ensures ∙ ap (mark_of c.args.marks.now) (to_z-of_z w32 c.args.number c.ranges.number) ∙ placed r.0 c.args.number r.1 in
    let same : found ≡ c.args.number = c.in-Some.ensures.lookup.1 ∙ ap (λ i. get_or list i found) mark ∙ get_or_from_slice_get list r.0 c.args.number found r.1 in
    eq-eqb (of_z w32 found) (of_z w32 c.args.number) (ap (of_z w32) same)

pub returns-in-None-clause-finds : goal.returns-in-None-clause-finds
returns-in-None-clause-finds c placed listed =
    let r = place_of c.args.list.now c.args.number listed in
    let mark : c.get.result ≡ r.0 = c.get.ensures ∙ ap (mark_of c.args.marks.now) (to_z-of_z w32 c.args.number c.ranges.number) ∙ placed r.0 c.args.number r.1 in
    absurd (omega (arith, mark, slice_get_within c.args.list.now r.0 c.args.number r.1, c.in-None.ensures.lookup))
